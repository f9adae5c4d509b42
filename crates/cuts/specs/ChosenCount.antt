-- The points that the two passes choose number what the pass down counted.
-- Assumes nothing.
use Rattle.std.specs.Prelude.{ℕ, ◌+◌, ◌<◌, ◌≡◌, true, not, eqb}
use Rattle.std.proofs.Common.{sym, ◌∙◌, ap, eqb-true}
use native.Mathlib.Omega.{arith}
use Rattle.laws.specs.Sum.{χ, sum}
use Rattle.laws.specs.Sums.{by, and_left, and_right, χ_ap, χ-+, χ-and, χ-split, sum_ap, sum-+, sum_regroup}
use Rattle.cuts.specs.Cluster.{Clusters, Sound, hangs, point_count}
use Rattle.cuts.specs.Passes.{Down, Up, Run, stops, chosen_effect, total_fewest, below_count}
use Rattle.cuts.specs.ChosenModes.{any_ok_lem, ungated_ok_lem, closed-any, closed-ungated, high-any, high-ungated, count_is}

module _ (c : Clusters) (limit : ℕ) (d : Down) (u : Up) (s : Sound c) (run : Run c limit d u) where
  -- cluster r's mode cuts as many branches as it counted
  high-cuts : (r : ℕ) → r < c.nodes → d.fewest r ≡ below_count c d r + sum c.nodes (λ j. χ (hangs c r j) (χ (u.cut_high j) 1))
  high-cuts r lt =
      by (u.any_mode r)
      (λ m.
      (closed-any c limit d r (run.counted.closed r (omega arith) lt) (any_ok_lem c limit d u s run r lt m)).2
      ∙ ap (λ (x : ℕ). below_count c d r + x)
      (sum_ap c.nodes
      (λ j p.
      χ-and (hangs c r j) (d.cut_any j) 1
      ∙ χ_ap (hangs c r j) (λ y. ap (λ t. χ t 1) (sym (high-any c limit d u s run j p (is_branch j y) (host_mode_lem j y ∙ m)))))))
      (λ m.
      (closed-ungated c limit d r (run.counted.closed r (omega arith) lt) (ungated_ok_lem c limit d u s run r lt m)).2
      ∙ ap (λ (x : ℕ). below_count c d r + x)
      (sum_ap c.nodes
      (λ j p.
      χ-and (hangs c r j) (not (d.has_ungated j)) 1
      ∙ χ_ap (hangs c r j) (λ y. ap (λ t. χ t 1) (sym (high-ungated c limit d u s run j p (is_branch j y) (host_mode_lem j y ∙ m)))))))
    where
      is_branch : (j : ℕ) → hangs c r j ≡ true → c.cuttable j ≡ true
      is_branch j y = and_left (c.cuttable j) (eqb (c.host j) r) y

      host_mode_lem : (j : ℕ) → hangs c r j ≡ true → u.any_mode (c.host j) ≡ u.any_mode r
      host_mode_lem j y = ap u.any_mode (eqb-true (c.host j) r (and_right (c.cuttable j) (eqb (c.host j) r) y))

  -- all that the pass down counted, by branches
  all-fewest :
      sum c.nodes (λ r. d.fewest r)
      ≡ sum c.nodes (λ j. χ (c.cuttable j) (d.fewest j)) + sum c.nodes (λ j. χ (c.cuttable j) (χ (stops d j) 1 + χ (u.cut_high j) 1))
  all-fewest =
      sum_ap c.nodes
      (λ r p.
      high-cuts r p
      ∙ (sym (sum-+ c.nodes (λ j. χ (hangs c r j) (d.count j)) (λ j. χ (hangs c r j) (χ (u.cut_high j) 1)))
      ∙ sum_ap c.nodes (λ j q. sym (χ-+ (hangs c r j) (d.count j) (χ (u.cut_high j) 1)))))
      ∙ (sum_regroup c.nodes (λ r. true) c.cuttable c.host (λ j. d.count j + χ (u.cut_high j) 1)
      (λ j p cj. let b = s.host_below j p cj in omega arith)
      ∙ (sum_ap c.nodes
      (λ j p.
      χ_ap (c.cuttable j)
      (λ cj. let k = count_is c limit d s j p cj (run.counted.climbed j (omega arith) p cj) in omega arith)
      ∙ χ-+ (c.cuttable j) (d.fewest j) (χ (stops d j) 1 + χ (u.cut_high j) 1))
      ∙ sum-+ c.nodes (λ j. χ (c.cuttable j) (d.fewest j)) (λ j. χ (c.cuttable j) (χ (stops d j) 1 + χ (u.cut_high j) 1))))

  pub chosen-count : point_count c (chosen_effect c d u) ≡ total_fewest c d
  unfolding point_count total_fewest
  chosen-count =
      let split =
      sum_ap c.nodes
      {f = λ r. χ (c.cuttable r) (d.fewest r) + χ (not (c.cuttable r)) (d.fewest r)}
      {g = λ r. d.fewest r}
      (λ r p. χ-split (c.cuttable r) (d.fewest r)) in
      let two = sum-+ c.nodes (λ r. χ (c.cuttable r) (d.fewest r)) (λ r. χ (not (c.cuttable r)) (d.fewest r)) in
      let all = all-fewest in
      omega arith
