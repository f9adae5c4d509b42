-- The list of the points that both passes chose is the list of a smallest legal set.
-- Assumes nothing.
use Rattle.std.specs.Prelude.{ℕ, ◌<◌, ◌≡◌, refl, Bool, true, false, ◌&&◌, ◌||◌, cond, List, ltb}
use Rattle.std.proofs.Common.{◌∙◌, arith}
use Rattle.std.proofs.Math.Dec.{eqb}
use Rattle.std.proofs.Math.ListN.{get_or}
use borrow.Author.Tests.{ltb-true, ltb-false, le-ltb}
use Rattle.laws.specs.Sums.{by, eqb_sym, sum_ap}
use Rattle.net.specs.Limits.{length_bound}
use Rattle.net.specs.Stage.{Stage}
use Rattle.net.specs.Formed.{Formed}
use Rattle.pieces.specs.Legal.{Smallest, listed}
use Rattle.cuts.specs.Cluster.{point_count}
use Rattle.cuts.specs.Passes.{Run, chosen_effect, total_fewest}
use Rattle.cuts.specs.Fits.{Fits, points_of}
use Rattle.cuts.specs.ChosenModes.{near-below}
use Rattle.cuts.specs.ChosenCount.{chosen-count}
use Rattle.cuts.specs.BridgeFits.{sound_of_fits}
use Rattle.cuts.specs.BridgeRun.{smallest_of_run}
use Rattle.clusters.specs.Arrays.{clusters_of, down_of, up_of}
use Rattle.listing.specs.Listing.{list_of, count_of}
use Rattle.listing.specs.ListingWriting.{length-list_of}
use Rattle.listing.specs.ListingPoints.{Listable, point_at, list_ahead, list_points}

-- one or two points of a wire: each by its test, or the lowest and the highest of them
two-points : (a b : Bool) (x y t : ℕ) → ((a && eqb x t) || (b && eqb y t)) ≡ ((a || b) && (eqb t (cond a x y) || eqb t (cond b y x)))
two-points true true x y t = rw (eqb_sym x t, eqb_sym y t)
two-points true false x y t = rw (eqb_sym x t) (same (eqb t x))
  where
    same : (p : Bool) → (p || false) ≡ (p || p)
    same true = refl
    same false = refl
two-points false true x y t = rw (eqb_sym y t) (same (eqb t y))
  where
    same : (p : Bool) → p ≡ (p || p)
    same true = refl
    same false = refl
two-points false false x y t = refl

module _ (s : Stage) (root component : ℕ → ℕ) (limit : ℕ) (lo hi host fixed gates : List ℕ)
    (cut_any : List Bool) (fewest : List ℕ) (any_ok : List Bool) (any_weight : List ℕ) (ungated_ok : ℕ → Bool) (ungated_weight : ℕ → ℕ) (count lightest : List ℕ)
    (has_ungated : List Bool) (ungated near : List ℕ) (any_mode cut_high : List Bool)
    (formed : Formed s) (fits : Fits s (clusters_of s lo hi host fixed gates) root component)
    (run : Run (clusters_of s lo hi host fixed gates) limit (down_of cut_any fewest any_ok any_weight ungated_ok ungated_weight count lightest has_ungated ungated near) (up_of any_mode cut_high))
    (short : (r : ℕ) → r < s.nodes → get_or hi r 0 < length_bound) where
  -- a root has no jumper
  root-near : (r : ℕ) → r < s.nodes → ltb 0 (get_or lo r 0) ≡ false → get_or near r 0 ≡ 0
  unfolding clusters_of down_of up_of
  root-near r p z = run.counted.no_near r (omega arith) p z

  root-stops : (r : ℕ) → r < s.nodes → ltb 0 (get_or lo r 0) ≡ false → ltb 0 (get_or near r 0) ≡ false
  root-stops r p z = let e = root-near r p z in le-ltb 0 (get_or near r 0) (omega arith)

  root-whole : (r : ℕ) → r < s.nodes → ltb 0 (get_or lo r 0) ≡ false → get_or cut_high r false ≡ false
  unfolding clusters_of down_of up_of
  root-whole r p z = (run.chosen r p).root_high z

  -- a branch's own jumper lies below its highest cuttable point
  near-lower : (r : ℕ) → r < s.nodes → ltb 0 (get_or near r 0) ≡ true → get_or near r 0 < get_or hi r 0
  unfolding clusters_of down_of up_of
  near-lower r p st =
      by (ltb 0 (get_or lo r 0))
      (λ k.
      near-below (clusters_of s lo hi host fixed gates) limit (down_of cut_any fewest any_ok any_weight ungated_ok ungated_weight count lightest has_ungated ungated near)
      (sound_of_fits s (clusters_of s lo hi host fixed gates) root component formed fits) r p k (run.counted.climbed r (omega arith) p k) st)
      (λ z. let e = root-near r p z in let l = ltb-true 0 (get_or near r 0) st in absurd (native.Mathlib.Nat.lt_irrefl 0 (omega arith)))

  pub listable : Listable s.nodes hi near cut_high
  listable =
      record {
        near_short = λ r p.
            by (ltb 0 (get_or near r 0))
            (λ y. let l = near-lower r p y in let h = short r p in omega arith)
            (λ z. let l = ltb-false 0 (get_or near r 0) z in omega arith);
        hi_short = short;
        ordered = λ r p st h. near-lower r p st;
      }

  pub list_is_chosen :
      (i t : ℕ) →
      listed (list_of s.nodes hi near cut_high) (count_of s.nodes near cut_high) i t
      ≡ points_of (clusters_of s lo hi host fixed gates)
      (chosen_effect (clusters_of s lo hi host fixed gates) (down_of cut_any fewest any_ok any_weight ungated_ok ungated_weight count lightest has_ungated ungated near) (up_of any_mode cut_high))
      i t
  unfolding clusters_of down_of up_of points_of
  list_is_chosen i t =
      list_points hi near cut_high s.nodes listable i t
      ∙ by (ltb i s.nodes)
      (λ y. rw y (wire (ltb-true i s.nodes y)))
      (λ z. rw z)
    where
      wire :
          i < s.nodes →
          point_at hi near cut_high i t
          ≡ (ltb 0 (get_or lo i 0)
          && ((ltb 0 (get_or near i 0) || get_or cut_high i false)
          && (eqb t (cond (ltb 0 (get_or near i 0)) (get_or near i 0) (get_or hi i 0)) || eqb t (cond (get_or cut_high i false) (get_or hi i 0) (get_or near i 0)))))
      wire p =
          by (ltb 0 (get_or lo i 0))
          (λ k. rw k (two-points (ltb 0 (get_or near i 0)) (get_or cut_high i false) (get_or near i 0) (get_or hi i 0) t))
          (λ z. rw (z, root-stops i p z, root-whole i p z))

  pub count_is_total :
      count_of s.nodes near cut_high
      ≡ total_fewest (clusters_of s lo hi host fixed gates) (down_of cut_any fewest any_ok any_weight ungated_ok ungated_weight count lightest has_ungated ungated near)
  unfolding clusters_of down_of up_of point_count
  count_is_total =
      sum_ap s.nodes
      (λ r p.
      by (ltb 0 (get_or lo r 0))
      (λ k. rw k)
      (λ z. rw (z, root-stops r p z, root-whole r p z)))
      ∙ chosen-count (clusters_of s lo hi host fixed gates) limit (down_of cut_any fewest any_ok any_weight ungated_ok ungated_weight count lightest has_ungated ungated near) (up_of any_mode cut_high)
      (sound_of_fits s (clusters_of s lo hi host fixed gates) root component formed fits) run

  pub smallest_list : Smallest s limit (list_of s.nodes hi near cut_high) (count_of s.nodes near cut_high)
  smallest_list =
      smallest_of_run s (clusters_of s lo hi host fixed gates) root component formed fits limit
      (down_of cut_any fewest any_ok any_weight ungated_ok ungated_weight count lightest has_ungated ungated near) (up_of any_mode cut_high) run
      (list_of s.nodes hi near cut_high) (count_of s.nodes near cut_high)
      (length-list_of hi near cut_high s.nodes)
      (list_ahead hi near cut_high s.nodes listable).rising
      list_is_chosen
      count_is_total
