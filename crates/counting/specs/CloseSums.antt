-- Laws of a cluster's sums over its branches, one turn of a loop at a time.
-- Assumes nothing.
use Rattle.std.specs.Prelude.{ℕ, ◌+◌, ◌≤◌, ◌<◌, ◌≡◌, refl, Bool, true, false, ◌&&◌, Option, None, Some, List, ltb, eqb}
use Rattle.std.proofs.Common.{ap, inl, inr, ⊎_elim}
use Rattle.std.proofs.Math.Bool.{not}
use native.Mathlib.Omega.{arith}
use Rattle.std.proofs.Math.ListN.{get_or}
use borrow.Author.Tests.{ltb-true, ltb-false, eqb-true, eqb-false}
use Rattle.laws.specs.Sum.{χ}
use Rattle.laws.specs.Sums.{by, no_both, and_left, and_right, χ-yes, χ-no, χ-≤, sum-zero, sum_bound, sum-next, sum_next-≤}
use Rattle.counting.specs.Close.{hung, HungAbove, branch_sum, flagged_count, flagged_sum, clear_count, heavier_than, Heaviest}

-- ---- a test and two of its parts
pub χ-both : {h p : Bool} (x : ℕ) → h ≡ true → p ≡ true → χ (h && p) x ≡ x
χ-both x a b = rw (a, b)

pub χ-first : {h : Bool} (p : Bool) (x : ℕ) → h ≡ false → χ (h && p) x ≡ 0
χ-first p x a = rw a

pub χ-second : (h : Bool) {p : Bool} (x : ℕ) → p ≡ false → χ (h && p) x ≡ 0
χ-second true x a = rw a
χ-second false x a = refl

pub not_yes : {p : Bool} → p ≡ false → not p ≡ true
not_yes a = rw a

pub not-no : {p : Bool} → p ≡ true → not p ≡ false
not-no a = rw a

-- ---- one more branch
module _ (lo host values : List ℕ) (r j : ℕ) where
  pub branch_yes : hung lo host r j ≡ true → branch_sum (j + 1) lo host r values ≡ branch_sum j lo host r values + get_or values j 0
  unfolding branch_sum
  branch_yes h =
      let a = sum-next j (λ j. χ (hung lo host r j) (get_or values j 0)) in let b = χ-yes (get_or values j 0) h in omega arith

  pub branch_no : hung lo host r j ≡ false → branch_sum (j + 1) lo host r values ≡ branch_sum j lo host r values
  unfolding branch_sum
  branch_no h =
      let a = sum-next j (λ j. χ (hung lo host r j) (get_or values j 0)) in let b = χ-no (get_or values j 0) h in omega arith

  pub branch-room : (n : ℕ) → j < n → hung lo host r j ≡ true → branch_sum j lo host r values + get_or values j 0 ≤ branch_sum n lo host r values
  unfolding branch_sum
  branch-room n p h =
      let a = sum_next-≤ j n (λ j. χ (hung lo host r j) (get_or values j 0)) p in let b = χ-yes (get_or values j 0) h in omega arith

module _ (lo host values : List ℕ) (flags : List Bool) (r j : ℕ) where
  -- without a flag: counted; with it: its value added
  pub option_clear :
      hung lo host r j ≡ true →
      get_or flags j false ≡ false →
      (clear_count (j + 1) lo host r flags ≡ clear_count j lo host r flags + 1)
      × (flagged_sum (j + 1) lo host r flags values ≡ flagged_sum j lo host r flags values)
  unfolding clear_count flagged_sum
  option_clear h p =
      let a = sum-next j (λ j. χ (hung lo host r j && not (get_or flags j false)) 1) in
      let b = χ-both 1 h (not_yes p) in
      let c = sum-next j (λ j. χ (hung lo host r j && get_or flags j false) (get_or values j 0)) in
      let d = χ-second (hung lo host r j) (get_or values j 0) p in
      (omega arith, omega arith)

  pub option_flagged :
      hung lo host r j ≡ true →
      get_or flags j false ≡ true →
      (clear_count (j + 1) lo host r flags ≡ clear_count j lo host r flags)
      × (flagged_sum (j + 1) lo host r flags values ≡ flagged_sum j lo host r flags values + get_or values j 0)
  unfolding clear_count flagged_sum
  option_flagged h p =
      let a = sum-next j (λ j. χ (hung lo host r j && not (get_or flags j false)) 1) in
      let b = χ-second (hung lo host r j) 1 (not-no p) in
      let c = sum-next j (λ j. χ (hung lo host r j && get_or flags j false) (get_or values j 0)) in
      let d = χ-both (get_or values j 0) h p in
      (omega arith, omega arith)

  pub option_no :
      hung lo host r j ≡ false →
      (clear_count (j + 1) lo host r flags ≡ clear_count j lo host r flags)
      × (flagged_sum (j + 1) lo host r flags values ≡ flagged_sum j lo host r flags values)
  unfolding clear_count flagged_sum
  option_no h =
      let a = sum-next j (λ j. χ (hung lo host r j && not (get_or flags j false)) 1) in
      let b = χ-first (not (get_or flags j false)) 1 h in
      let c = sum-next j (λ j. χ (hung lo host r j && get_or flags j false) (get_or values j 0)) in
      let d = χ-first (get_or flags j false) (get_or values j 0) h in
      (omega arith, omega arith)

  pub option_room :
      (n : ℕ) →
      j < n →
      hung lo host r j ≡ true →
      get_or flags j false ≡ true →
      flagged_sum j lo host r flags values + get_or values j 0 ≤ flagged_sum n lo host r flags values
  unfolding flagged_sum
  option_room n p h q =
      let a = sum_next-≤ j n (λ j. χ (hung lo host r j && get_or flags j false) (get_or values j 0)) p in
      let b = χ-both (get_or values j 0) h q in
      omega arith

-- ---- no branch as far as the cluster's own number
pub branch-none : (lo host values : List ℕ) (r : ℕ) → HungAbove lo host r → branch_sum (r + 1) lo host r values ≡ 0
unfolding branch_sum
branch-none lo host values r above = sum-zero (r + 1) (λ j p. χ-no (get_or values j 0) (above j (omega arith)))

pub option_none :
    (lo host values : List ℕ) (flags : List Bool) (r : ℕ) →
    HungAbove lo host r →
    (clear_count (r + 1) lo host r flags ≡ 0) × (flagged_sum (r + 1) lo host r flags values ≡ 0)
unfolding clear_count flagged_sum
option_none lo host values flags r above = (
  sum-zero (r + 1) (λ j p. χ-first (not (get_or flags j false)) 1 (above j (omega arith))),
  sum-zero (r + 1) (λ j p. χ-first (get_or flags j false) (get_or values j 0) (above j (omega arith))),
)

-- no more branches than nodes
pub flagged_few : (n : ℕ) (lo host : List ℕ) (r : ℕ) (flags : List Bool) → flagged_count n lo host r flags ≤ n
unfolding flagged_count
flagged_few n lo host r flags =
    let a = sum_bound n 1 {f = λ j. χ (hung lo host r j && get_or flags j false) 1} (λ j p. χ-≤ (hung lo host r j && get_or flags j false) 1) in
    omega arith

-- ---- the heaviest branch that is not cut
-- the branch that a search found, and its weight; 0 for none
abbrev pub at_of : Option ℕ → ℕ
at_of None = 0
at_of (Some at) = at

abbrev pub weight_at : List ℕ → Option ℕ → ℕ
weight_at lightest None = 0
weight_at lightest (Some at) = get_or lightest at 0

module _ (lo host lightest : List ℕ) (cut_any : List Bool) (r : ℕ) where
  pub heaviest_none : (at : ℕ) → HungAbove lo host r → Heaviest (r + 1) lo host lightest cut_any r at 0
  heaviest_none at above = record { most = λ j p h k. absurd (no_both h (above j (omega arith))); one = inl refl }

  pub heaviest_yes :
      (j at weight : ℕ) →
      Heaviest j lo host lightest cut_any r at weight →
      heavier_than lo host lightest cut_any r weight j ≡ true →
      Heaviest (j + 1) lo host lightest cut_any r j (get_or lightest j 0)
  heaviest_yes j at weight v t =
      let h = and_left (hung lo host r j) (not (get_or cut_any j false) && ltb weight (get_or lightest j 0)) t in
      let q = and_right (hung lo host r j) (not (get_or cut_any j false) && ltb weight (get_or lightest j 0)) t in
      let k = borrow.Author.Tests.not-true (get_or cut_any j false) (and_left (not (get_or cut_any j false)) (ltb weight (get_or lightest j 0)) q) in
      let w = ltb-true weight (get_or lightest j 0) (and_right (not (get_or cut_any j false)) (ltb weight (get_or lightest j 0)) q) in
      record {
        most = λ i p a b.
            by (eqb i j)
            (λ e. let q = eqb-true i j e in let z = ap (λ (i : ℕ). get_or lightest i 0) q in omega arith)
            (λ e. let ne = eqb-false i j e in let z = v.most i (omega arith) a b in omega arith);
        one = inr (record { inside = omega arith; hangs = h; kept = k; weighs = refl });
      }

  -- a branch that fails the test is cut or not heavier
  not_heavier : (weight j : ℕ) → heavier_than lo host lightest cut_any r weight j ≡ false → hung lo host r j ≡ true → get_or cut_any j false ≡ false → get_or lightest j 0 ≤ weight
  not_heavier weight j t h k = ltb-false weight (get_or lightest j 0) (rw (h, k) at t)

  pub heaviest_no :
      (j at weight : ℕ) →
      Heaviest j lo host lightest cut_any r at weight →
      heavier_than lo host lightest cut_any r weight j ≡ false →
      Heaviest (j + 1) lo host lightest cut_any r at weight
  heaviest_no j at weight v t =
      record {
        most = λ i p a b.
            by (eqb i j)
            (λ e. let q : i ≡ j = eqb-true i j e in rw q (not_heavier weight j t (rw q at a) (rw q at b)))
            (λ e. let ne = eqb-false i j e in v.most i (omega arith) a b);
        one = ⊎_elim inl (λ u. inr (record { inside = omega (arith, u.inside); hangs = u.hangs; kept = u.kept; weighs = u.weighs })) v.one;
      }
