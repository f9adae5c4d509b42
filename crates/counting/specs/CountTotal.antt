-- The sum of the points found.
-- Assumes nothing.
use Rattle.std.specs.Prelude.{ℕ, ◌+◌, ◌*◌, ◌≤◌, ◌<◌, ◌≡◌, refl, not, List, get_or, ltb}
use Rattle.std.proofs.Common.{arith, lt-ltb, le-ltb}
use Rattle.laws.specs.Sum.{χ, sum}
use Rattle.laws.specs.Sums.{sum-next, sum_next-≤}
use Rattle.cuts.specs.Passes.{total_fewest}
use Rattle.cuts.specs.Bounds.{total-≤}
use Rattle.clusters.specs.Positions.{los}
use Rattle.clusters.specs.Arrays.{down_of}
use Rattle.clusters.specs.declared.work.Clusters as work
use Rattle.counting.specs.declared.work.Counts.{Counts}
use Rattle.counting.specs.declared.work.Branches.{Branches}
use Rattle.counting.specs.Count.{work_clusters, Ready, found, CountedFrom, root_sum}

-- one more cluster
module _ (lo fewest : List ℕ) (r : ℕ) where
  root-yes : get_or lo r 0 ≡ 0 → χ (not (ltb 0 (get_or lo r 0))) (get_or fewest r 0) ≡ get_or fewest r 0
  root-yes h = rw (le-ltb 0 (get_or lo r 0) (omega arith))

  root-no : (get_or lo r 0 ≡ 0 → ⊥) → χ (not (ltb 0 (get_or lo r 0))) (get_or fewest r 0) ≡ 0
  root-no h = rw (lt-ltb 0 (get_or lo r 0) (omega arith))

  pub roots-more : get_or lo r 0 ≡ 0 → root_sum (r + 1) lo fewest ≡ root_sum r lo fewest + get_or fewest r 0
  unfolding root_sum
  roots-more h = let a = sum-next r (λ r. χ (not (ltb 0 (get_or lo r 0))) (get_or fewest r 0)) in omega (arith, root-yes h)

  pub roots-same : (get_or lo r 0 ≡ 0 → ⊥) → root_sum (r + 1) lo fewest ≡ root_sum r lo fewest
  unfolding root_sum
  roots-same h = let a = sum-next r (λ r. χ (not (ltb 0 (get_or lo r 0))) (get_or fewest r 0)) in omega (arith, root-no h)

  pub roots-room : (n : ℕ) → r < n → get_or lo r 0 ≡ 0 → root_sum r lo fewest + get_or fewest r 0 ≤ root_sum n lo fewest
  unfolding root_sum
  roots-room n p h = let a = sum_next-≤ r n (λ r. χ (not (ltb 0 (get_or lo r 0))) (get_or fewest r 0)) p in omega (arith, root-yes h)

pub roots-none : (lo fewest : List ℕ) → root_sum 0 lo fewest ≡ 0
unfolding root_sum sum
roots-none lo fewest = refl

-- the points found are few
pub roots_few :
    (ns ws os : List ℕ) {N : ℕ} (c : work.Clusters N) →
    Ready ns ws os c →
    (limit : ℕ) (k : Counts N) (b : Branches N) →
    CountedFrom (work_clusters ns ws os c) limit k b 0 →
    root_sum c.n (los c.cuttable) k.fewest ≤ 2 * c.n
unfolding root_sum total_fewest work_clusters down_of
roots_few ns ws os c ready limit k b w = total-≤ (work_clusters ns ws os c) limit (found k b w.ungated_ok w.ungated_weight) ready.sound w.counted
