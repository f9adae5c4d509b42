-- How many entries an accepted list can have.
-- Assumes nothing.
use Rattle.std.specs.Prelude.{ℕ, ◌*◌, ◌≤◌, ◌≡◌, List}
use native.Mathlib.Omega.{arith}
use Rattle.laws.specs.Numbers.{Bytes}
use Rattle.laws.specs.Sum.{χ, sum}
use Rattle.laws.specs.Sums.{by, no_both, not_true_false, χ-≤, χ-no, sum_bound, sum-zero}
use Rattle.net.specs.Limits.{length_bound}
use Rattle.net.specs.Net.{node_count}
use Rattle.net.specs.NoClearance.{stage_of}
use Rattle.net.specs.Refusal.{none}
use Rattle.net.specs.Accepted.{NetRight, formed, present-positive, present-inside}
use Rattle.points.specs.Geometry.{checked_of, length-small}
use Rattle.pieces.specs.Legal.{size}
use Rattle.pieces.specs.JumperList.{entry_count, list_refusal, set_of}
use Rattle.lists.specs.Entries.{list_set_free, list_set_size}

-- each wire has fewer points than length_bound, and each entry is a point of its own
module _ (v : ℕ) (ns ws os : List ℕ) (k : ℕ) (list : List ℕ) (right : NetRight v ns ws os) (bytes : Bytes ns) (accepted : list_refusal (stage_of v ns ws os k) list ≡ none) where
  points-few : (i : ℕ) → sum ((stage_of v ns ws os k).len i) (λ t. χ (set_of list i t) 1) ≤ length_bound
  unfolding stage_of
  points-few i =
      let s = stage_of v ns ws os k in
      by (s.present i)
      (λ y.
      let checked = checked_of right i (present-positive v ns ws os k i y) (present-inside v ns ws os k i y) in
      let a = length-small ns ws i bytes checked in
      let b = sum_bound (s.len i) 1 {f = λ t. χ (set_of list i t) 1} (λ t p. χ-≤ (set_of list i t) 1) in
      omega arith)
      (λ z.
      let none-there : sum (s.len i) (λ t. χ (set_of list i t) 1) ≡ 0 =
      sum-zero (s.len i)
      (λ t p. χ-no 1 (not_true_false (set_of list i t) (λ h. no_both (list_set_free s list accepted i t h).present z))) in
      omega arith)

  pub entries-few : entry_count list ≤ node_count ns * length_bound
  unfolding size stage_of
  entries-few =
      let s = stage_of v ns ws os k in
      let a = list_set_size s list accepted (formed v ns ws os right k) in
      let b = sum_bound (node_count ns) length_bound {f = λ i. sum (s.len i) (λ t. χ (set_of list i t) 1)} (λ i p. points-few i) in
      omega arith
