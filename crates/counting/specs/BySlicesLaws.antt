-- The structs that the pass down takes and fills hold what its slices do.
-- Assumes nothing.
use Rattle.std.specs.Prelude.{ℕ, ◌+◌, ◌<◌, ◌≡◌, refl, Bool, true, false, List, get_or, ltb}
use Rattle.std.proofs.Common.{sym, ◌∙◌, ap, arith, lt-ltb}
use Rattle.laws.specs.Sum.{sum}
use Rattle.laws.specs.Sums.{by, sum_ap}
use Rattle.laws.specs.Numbers.{Bytes}
use Rattle.cuts.specs.Cluster.{Sound}
use Rattle.cuts.specs.Passes.{Down, Counted}
use Rattle.cuts.specs.Bounds.{all_weight, own_span}
use Rattle.clusters.specs.declared.work.Clusters as work
use Rattle.clusters.specs.Positions.{los, his, positions}
use Rattle.clusters.specs.Arrays.{down_of}
use Rattle.clusters.specs.BySlices.{Narrow, SameClusters}
use Rattle.points.specs.Geometry.{length-small}
use Rattle.counting.specs.declared.work.Counts.{Counts}
use Rattle.counting.specs.declared.work.Branches.{Branches}
use Rattle.counting.specs.Optional.{flags, weights}
use Rattle.counting.specs.ClimbLaws.{open_high}
use Rattle.counting.specs.BySlices.{work_clusters, Ready, root_sum, CountedAll}
use Rattle.counting.specs.Count as structs
use Rattle.counting.specs.CountFrame.{SameCluster, SameBranch, closed_same, climbed-same}

module _ (n : ℕ) (ns ws os lo hi host fixed gates : List ℕ) where
  pub narrow_ready : Bytes ns → Ready n ns ws os lo hi host fixed gates → Narrow n lo hi
  unfolding work_clusters
  narrow_ready bytes ready i p l =
      let y = lt-ltb 0 (get_or lo i 0) l in
      let s = ready.sound in
      let b = s.host_below i p y in
      let small = length-small ns ws i bytes (ready.checked i (omega arith) p) in (
        omega (arith, small, open_high ns ws os i (get_or lo i 0) (s.lo_free i p y)),
        omega (arith, small, open_high ns ws os i (get_or hi i 0) (s.hi_free i p y)),
      )

-- n clusters by their arrays, and the same in a struct
module _
    (n : ℕ) (ns ws os lo hi host fixed gates : List ℕ) {N : ℕ} (c : work.Clusters N) (s : SameClusters n lo hi host c)
    (fx : (r : ℕ) → r < n → get_or c.fixed r 0 ≡ get_or fixed r 0) (gx : (r : ℕ) → r < n → get_or c.gates r 0 ≡ get_or gates r 0) where
  high_of : (r : ℕ) → r < n → ltb 0 (get_or lo r 0) ≡ true → get_or (his c.cuttable) r 0 ≡ get_or hi r 0
  high_of r p y = s.high r p ∙ rw y

  sound_same : Sound (work_clusters n ns ws os lo hi host fixed gates) → Sound (structs.work_clusters ns ws os c)
  unfolding work_clusters structs.work_clusters
  sound_same h =
      record {
        host_below = λ j p y. let q : j < n = omega (arith, s.n_is) in rw (s.hosts j q) (h.host_below j q (rw (s.low j q) at y));
        positive = λ j p y. let q : j < n = omega (arith, s.n_is) in rw (s.low j q) (h.positive j q (rw (s.low j q) at y));
        lo_free = λ j p y. let q : j < n = omega (arith, s.n_is) in rw (s.low j q) (h.lo_free j q (rw (s.low j q) at y));
        hi_free = λ j p y. let q : j < n = omega (arith, s.n_is) in let z = rw (s.low j q) at y in rw (high_of j q z) (h.hi_free j q z);
        lo_least = λ j t p y f. let q : j < n = omega (arith, s.n_is) in rw (s.low j q) (h.lo_least j t q (rw (s.low j q) at y) f);
        hi_most = λ j t p y f. let q : j < n = omega (arith, s.n_is) in let z = rw (s.low j q) at y in rw (high_of j q z) (h.hi_most j t q z f);
      }

  weight_same : all_weight (structs.work_clusters ns ws os c) ≡ all_weight (work_clusters n ns ws os lo hi host fixed gates)
  unfolding work_clusters structs.work_clusters all_weight
  weight_same =
      ap (λ m. sum m (λ i. get_or c.fixed i 0 + own_span (structs.work_of ns ws os c m) i)) s.n_is
      ∙ sum_ap n (λ i p.
      rw (fx i p, s.low i p, s.high i p)
      (by (ltb 0 (get_or lo i 0)) (λ y. rw y) (λ z. rw z)))

  pub ready_same : Ready n ns ws os lo hi host fixed gates → structs.Ready ns ws os c
  ready_same h =
      record {
        sound = sound_same h.sound;
        few = omega (arith, s.n_is, h.few);
        light = omega (arith, weight_same, h.light);
        checked = λ j p q. h.checked j p (omega (arith, s.n_is));
        factor = λ j p q. h.factor j p (omega (arith, s.n_is));
      }

  -- what the pass finds, and the same in slices
  module _
      (k : Counts N) (cut_any any_ok : List Bool) (any_weight : List ℕ) (has_ungated : List Bool) (near fewest : List ℕ)
      (cuts : (r : ℕ) → r < n → get_or cut_any r false ≡ get_or k.cut_any r false)
      (oks : (r : ℕ) → r < n → get_or any_ok r false ≡ get_or k.any_ok r false)
      (heavy : (r : ℕ) → r < n → get_or any_weight r 0 ≡ get_or k.any_weight r 0)
      (frees : (r : ℕ) → r < n → get_or has_ungated r false ≡ get_or (flags k.ungated) r false)
      (nears : (r : ℕ) → r < n → get_or near r 0 ≡ get_or (positions k.near) r 0)
      (few : (r : ℕ) → r < n → get_or fewest r 0 ≡ get_or k.fewest r 0)
      (limit : ℕ) where
    module _ (b : Branches N) (ungated_ok : ℕ → Bool) (ungated_weight : ℕ → ℕ) where
      lists : Down
      lists = down_of cut_any fewest any_ok any_weight ungated_ok ungated_weight b.count b.lightest has_ungated (weights k.ungated) near

      same_cluster :
          (r : ℕ) → r < n →
          SameCluster (structs.work_clusters ns ws os c) (work_clusters n ns ws os lo hi host fixed gates) (structs.found k b ungated_ok ungated_weight) lists r
      unfolding work_clusters structs.work_clusters down_of lists
      same_cluster r p =
          record {
            nodes = sym s.n_is;
            hang = λ j q. let i : j < n = omega (arith, s.n_is) in rw (s.low j i, s.hosts j i);
            fixed = sym (fx r p);
            gates = sym (gx r p);
            cut_any = λ j q h. cuts j (omega (arith, s.n_is));
            count = λ j q h. refl;
            lightest = λ j q h. refl;
            has_ungated = λ j q h. frees j (omega (arith, s.n_is));
            ungated = λ j q h. refl;
            fewest = few r p;
            any_ok = oks r p;
            any_weight = heavy r p;
            ungated_ok = refl;
            ungated_weight = refl;
          }

      same_branch :
          (r : ℕ) → r < n → ltb 0 (get_or lo r 0) ≡ true →
          SameBranch (structs.work_clusters ns ws os c) (work_clusters n ns ws os lo hi host fixed gates) (structs.found k b ungated_ok ungated_weight) lists r
      unfolding work_clusters structs.work_clusters down_of lists
      same_branch r p y =
          record {
            free = λ t. refl;
            factor = refl;
            lo = sym (s.low r p);
            hi = sym (high_of r p y);
            fewest = few r p;
            any_weight = heavy r p;
            ungated_ok = refl;
            ungated_weight = refl;
            count = refl;
            lightest = refl;
            has_ungated = frees r p;
            ungated = refl;
            near = nears r p;
          }

      counted_same : Counted (structs.work_clusters ns ws os c) limit (structs.found k b ungated_ok ungated_weight) 0 → Counted (work_clusters n ns ws os lo hi host fixed gates) limit lists 0
      unfolding work_clusters structs.work_clusters down_of lists
      counted_same h =
          record {
            closed = λ r f p. closed_same (same_cluster r p) limit (h.closed r f (omega (arith, s.n_is)));
            climbed = λ r f p y. climbed-same (same_branch r p y) limit (h.climbed r f (omega (arith, s.n_is)) (rw (s.low r p) y));
            no_near = λ r f p z. nears r p ∙ h.no_near r f (omega (arith, s.n_is)) (rw (s.low r p) z);
          }

    sum_same : root_sum c.n (los c.cuttable) k.fewest ≡ root_sum n lo fewest
    unfolding root_sum
    sum_same = ap (λ m. root_sum m (los c.cuttable) k.fewest) s.n_is ∙ sum_ap n (λ r p. rw (s.low r p, few r p))

    pub all_same : (points : ℕ) → structs.CountedAll ns ws os c limit k points → CountedAll n ns ws os lo hi host fixed gates limit cut_any any_ok any_weight has_ungated near fewest points
    unfolding lists
    all_same points h =
        record {
          count = h.branches.count;
          lightest = h.branches.lightest;
          ungated = weights k.ungated;
          counted =
              record {
                ungated_ok = h.counted.ungated_ok;
                ungated_weight = h.counted.ungated_weight;
                counted = counted_same h.branches h.counted.ungated_ok h.counted.ungated_weight h.counted.counted;
              };
          points_is = h.points_is ∙ sum_same;
        }
