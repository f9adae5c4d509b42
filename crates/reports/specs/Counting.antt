-- The number of pieces of an accepted net with an accepted list.
-- Assumes nothing.
use Rattle.std.specs.Prelude.{ℕ, zero, suc, ◌+◌, ◌-◌, ◌≡◌, refl, Bool, true, false, cond, ◌∷◌, length, filter, ◌&&◌, List, ltb, leb}
use Rattle.std.specs.List.{range_with_len}
use Rattle.std.proofs.Common.{◌∙◌, sym, ap, add-zero, arith}
use Rattle.laws.specs.Sum.{χ, sum}
use Rattle.laws.specs.Sums.{sum_ap}
use Rattle.laws.specs.Masks.{sum_low}
use Rattle.net.specs.Net.{node_count, wire_layer}
use Rattle.net.specs.NoClearance.{stage_of}
use Rattle.pieces.specs.JumperList.{entry_count, set_of}
use Rattle.pieces.specs.Listed.{number_of_names}
use Rattle.reports.specs.Promise.{piece_count}
use Rattle.lists.specs.Entries.{list_set_free, list_set_size}
use Rattle.records.specs.ListRight.{ListRight}
use Rattle.records.specs.ListRights.{formed_of, inside_of, present_is}

pub count_is : (v : ℕ) (ns ws list os : List ℕ) (k present : ℕ) → ListRight v ns ws k list os →
    present ≡ sum (node_count ns) (λ i. χ (ltb 0 i && leb (wire_layer ws i) k) 1) →
    node_count ns - present + entry_count list ≡ piece_count (stage_of v ns ws os k) list
unfolding stage_of
count_is v ns ws list os k present j e =
    let s = stage_of v ns ws os k in
    let a = number_of_names s (set_of list) (formed_of v ns ws list os k j) (inside_of v ns ws list os k j) (λ i t h. (list_set_free s list j.listed i t h).present) in
    let b = list_set_size s list j.listed (formed_of v ns ws list os k j) in
    let c =
    sum_ap (node_count ns) {f = λ i. χ (s.present i) 1} {g = λ i. χ (ltb 0 i && leb (wire_layer ws i) k) 1}
    (λ i p. ap (λ (t : Bool). χ t 1) (present_is v ns ws list os k j i p)) in
    let d = Rattle.laws.specs.Sums.sum_bound (node_count ns) 1 {f = λ i. χ (ltb 0 i && leb (wire_layer ws i) k) 1} (λ i p. Rattle.laws.specs.Sums.χ-≤ (ltb 0 i && leb (wire_layer ws i) k) 1) in
    omega arith

-- the numbers below n that pass a test, counted in a list of all of them
counted_from : (p : ℕ → Bool) (a n : ℕ) → length (filter p (range_with_len a n)) ≡ sum n (λ i. χ (p (a + i)) 1)
unfolding sum
counted_from p a zero = refl
counted_from p a (suc n) =
    let rest = counted_from p (a + 1) n ∙ sum_ap n {f = λ i. χ (p (a + 1 + i)) 1} {g = λ i. χ (p (a + suc i)) 1} (λ i h. ap (λ m. χ (p m) 1) (omega arith)) in
    first (p a) a (filter p (range_with_len (a + 1) n)) ∙ ap (λ m. χ (p a) 1 + m) rest
    ∙ sym (sum_low n (λ i. χ (p (a + i)) 1) ∙ rw (add-zero a))
  where
    first : (t : Bool) (x : ℕ) (l : List ℕ) → length (cond t (x ∷ l) l) ≡ χ t 1 + length l
    first true x l = omega arith
    first false x l = omega arith

pub counted : (p : ℕ → Bool) (n : ℕ) → length (filter p (range_with_len 0 n)) ≡ sum n (λ i. χ (p i) 1)
counted p n = counted_from p 0 n ∙ sum_ap n {f = λ i. χ (p (0 + i)) 1} {g = λ i. χ (p i) 1} (λ i h. ap (λ m. χ (p m) 1) (omega arith))
