-- What an accepted jumper list holds: its entries lie where a wire may be cut, they rise, and its set has one point for each.
-- Assumes nothing.
use Rattle.std.specs.Prelude.{ℕ, zero, suc, ◌-◌, ◌%◌, ◌≤◌, ◌<◌, ◌≡◌, Bool, not, ◌&&◌, ◌||◌, List, length, leb, ltb, eqb}
use Rattle.std.proofs.Math.Path.{refl, fun_ext}
use Rattle.std.proofs.Common.{sym, ◌∙◌, ap, ⊎_elim, arith}
use Rattle.std.proofs.Math.Bool.{true, false}
use borrow.Author.Tests.{ltb-true, leb-true, eqb-true, eq-eqb, not-false}
use Rattle.laws.specs.Sum.{any}
use Rattle.laws.specs.Sums.{and_left, and_right, and_intro, no_both, not_true_false, or_cases, any-yes, any_some, last_or_below}
use Rattle.net.specs.Layout.{entry_bytes}
use Rattle.net.specs.Stage.{Stage}
use Rattle.net.specs.Formed.{Formed}
use Rattle.net.specs.Refusal.{none, met, refused_if, first_of}
use Rattle.net.specs.First.{unmet_if, unmet_l, unmet_r, first-unmet}
use Rattle.pieces.specs.Inside.{Inside}
use Rattle.pieces.specs.Legal.{Free, size, entry_wire, entry_position, listed, after}
use Rattle.pieces.specs.Rises.{Rises, by-wire, by-position, after-rises}
use Rattle.pieces.specs.Size.{AllFree, single, without, one_less, listed-size}
use Rattle.pieces.specs.LegalByNodes.{free-inside}
use Rattle.pieces.specs.JumperList.{entry_count, point_refusal, entry_refusal, list_refusal, set_of}

-- each of n entries may be cut
abbrev pub EntriesFree : Stage → List ℕ → ℕ → Type 0
EntriesFree s list n = (e : ℕ) → e < n → Free s (entry_wire list e) (entry_position list e)

-- each of n entries rises over the one before
abbrev pub Rising : List ℕ → ℕ → Type 0
Rising list n = (e : ℕ) → suc e < n → Rises list e (suc e)

-- ---- an accepted list
-- a point that meets neither 13 nor 14 may be cut
pub point_free : (s : Stage) (i t place : ℕ) → met (point_refusal s i t place) ≡ false → Free s i t
unfolding point_refusal
point_free s i t place u =
    let p = s.present i in
    let l = leb 1 t in
    let h = ltb t (s.len i) in
    let r13 = refused_if (not (p && (l && h))) 13 place in
    let r14 = refused_if (s.barred i t) 14 place in
    let inside : (p && (l && h)) ≡ true = not-false (p && (l && h)) (unmet_if (not (p && (l && h))) 13 place refl (unmet_l r13 r14 u)) in
    record {
      present = and_left p (l && h) inside;
      low = leb-true _ _ (and_left l h (and_right p (l && h) inside));
      high = ltb-true _ _ (and_right l h (and_right p (l && h) inside));
      clear = unmet_if _ 14 place refl (unmet_r r13 r14 u);
    }

-- an entry stands after the one before, if there is one
abbrev behind : List ℕ → ℕ → Bool
behind list e = eqb e 0 || after list (e - 1) e

module _ (s : Stage) (list : List ℕ) (e : ℕ) (u : met (entry_refusal s list e) ≡ false) where
  not_12 : behind list e ≡ true
  unfolding entry_refusal
  not_12 =
      let r12 = refused_if (not (behind list e)) 12 e in
      not-false (behind list e) (unmet_if (not (behind list e)) 12 e refl (unmet_l r12 (point_refusal s (entry_wire list e) (entry_position list e) e) u))

  pub free_of : Free s (entry_wire list e) (entry_position list e)
  unfolding entry_refusal
  free_of =
      let r12 = refused_if (not (behind list e)) 12 e in
      point_free s (entry_wire list e) (entry_position list e) e (unmet_r r12 (point_refusal s (entry_wire list e) (entry_position list e) e) u)

pub rises_of : (s : Stage) (list : List ℕ) (e : ℕ) → met (entry_refusal s list (suc e)) ≡ false → Rises list e (suc e)
rises_of s list e u =
    let q : suc e - 1 ≡ e = omega arith in
    ⊎_elim (λ z. let w = eqb-true (suc e) 0 z in absurd (native.Mathlib.Nat.lt_irrefl 0 (omega arith)))
    (λ a. rw q at (after-rises list (suc e - 1) (suc e) a))
    (or_cases (eqb (suc e) 0) (after list (suc e - 1) (suc e)) (not_12 s list (suc e) u))

module _ (s : Stage) (list : List ℕ) (r : list_refusal s list ≡ none) where
  each-unmet : (e : ℕ) → e < entry_count list → met (entry_refusal s list e) ≡ false
  unfolding list_refusal
  each-unmet e h =
      let r12 = refused_if (not (eqb (length list % entry_bytes) 0)) 12 0 in
      first-unmet (λ e. entry_refusal s list e) (entry_count list) (unmet_r r12 (first_of (entry_count list) (λ e. entry_refusal s list e)) (ap met r)) e h

  pub list_free : EntriesFree s list (entry_count list)
  list_free e h = free_of s list e (each-unmet e h)

  pub list_rising : Rising list (entry_count list)
  list_rising e h = rises_of s list e (each-unmet (suc e) h)

-- ---- entries that rise over their neighbours rise over all before
module _ (list : List ℕ) where
  pub rises_trans : {d e f : ℕ} → Rises list d e → Rises list e f → Rises list d f
  rises_trans (by-wire p) (by-wire q) = by-wire (omega arith)
  rises_trans (by-wire p) (by-position q u) = by-wire (omega arith)
  rises_trans (by-position p u) (by-wire q) = by-wire (omega arith)
  rises_trans (by-position p u) (by-position q v) = by-position (p ∙ q) (omega arith)

  pub rises-all : (n : ℕ) → Rising list n → (d e : ℕ) → d < e → e < n → Rises list d e
  rises-all n rising d zero p q = absurd (native.Mathlib.Nat.lt_irrefl 0 (omega arith))
  rises-all n rising d (suc e) p q =
      ⊎_elim (λ w. rw w (rising e q)) (λ l. rises_trans (rises-all n rising d e l (omega arith)) (rising e q)) (last_or_below d e p)

  -- wires never fall
  pub wire-≤ : {d e : ℕ} → Rises list d e → entry_wire list d ≤ entry_wire list e
  wire-≤ (by-wire p) = omega arith
  wire-≤ (by-position p q) = omega arith

  -- positions of one wire rise
  pub position-< : {d e : ℕ} → Rises list d e → entry_wire list d ≡ entry_wire list e → entry_position list d < entry_position list e
  position-< (by-wire p) w = absurd (native.Mathlib.Nat.lt_irrefl 0 (omega arith))
  position-< (by-position p q) w = q

-- ---- the set of a list
pub listed-yes : (list : List ℕ) (n e i t : ℕ) → e < n → entry_wire list e ≡ i → entry_position list e ≡ t → listed list n i t ≡ true
unfolding listed
listed-yes list n e i t h p q =
    any-yes n e (λ d. eqb (entry_wire list d) i && eqb (entry_position list d) t) h (and_intro (eq-eqb (entry_wire list e) i p) (eq-eqb (entry_position list e) t q))

pub listed-some : (list : List ℕ) (n i t : ℕ) → listed list n i t ≡ true → (e : ℕ) × (e < n) × (entry_wire list e ≡ i) × (entry_position list e ≡ t)
unfolding listed
listed-some list n i t h =
    let r = any_some n (λ e. eqb (entry_wire list e) i && eqb (entry_position list e) t) h in
    let e = r.0 in (
      e,
      r.1,
      eqb-true _ _ (and_left (eqb (entry_wire list e) i) (eqb (entry_position list e) t) r.2),
      eqb-true _ _ (and_right (eqb (entry_wire list e) i) (eqb (entry_position list e) t) r.2),
    )

pub all-free : (s : Stage) (list : List ℕ) (n : ℕ) → EntriesFree s list n → AllFree s (listed list n)
all-free s list n free i t h = let r = listed-some list n i t h in at r.2 r.3 (free r.0 r.1)
  where
    at : {j p i t : ℕ} → j ≡ i → p ≡ t → Free s j p → Free s i t
    at e f x = rw (← e, ← f) x

-- an entry more is a point more
module _ (list : List ℕ) (n : ℕ) (rising : Rising list (suc n)) where
  new_point : (i t : ℕ) → single (entry_wire list n) (entry_position list n) i t ≡ true → listed list n i t ≡ false
  new_point i t h =
      not_true_false (listed list n i t)
      (λ y.
      let r = listed-some list n i t y in
      let w : entry_wire list n ≡ i = eqb-true _ _ (and_left (eqb (entry_wire list n) i) (eqb (entry_position list n) t) h) in
      let p : entry_position list n ≡ t = eqb-true _ _ (and_right (eqb (entry_wire list n) i) (eqb (entry_position list n) t) h) in
      let lt = position-< list (rises-all list (suc n) rising r.0 n r.1 (omega arith)) (r.2 ∙ sym w) in
      native.Mathlib.Nat.lt_irrefl 0 (omega (arith, r.3)))

  less_last : without (listed list (suc n)) (entry_wire list n) (entry_position list n) ≡ listed list n
  unfolding listed any
  less_last = fun_ext (λ i. fun_ext (λ t. bools (listed list n i t) (single (entry_wire list n) (entry_position list n) i t) (new_point i t)))
    where
      bools : (a b : Bool) → (b ≡ true → a ≡ false) → (not b && (a || b)) ≡ a
      bools true true h = absurd (no_both refl (h refl))
      bools true false h = refl
      bools false true h = refl
      bools false false h = refl

pub listed-count : (s : Stage) → Formed s → (list : List ℕ) (n : ℕ) → EntriesFree s list n → Rising list n → size s (listed list n) ≡ n
listed-count s formed list zero free rising = let a = listed-size s list 0 in omega arith
listed-count s formed list (suc n) free rising =
    let a = listed-count s formed list n (λ e h. free e (omega arith)) (λ e h. rising e (omega arith)) in
    let here = listed-yes list (suc n) n (entry_wire list n) (entry_position list n) (omega arith) refl refl in
    let b = one_less s formed (listed list (suc n)) (all-free s list (suc n) free) (entry_wire list n) (entry_position list n) here in
    let c = ap (size s) (less_last list n rising) in
    omega arith

-- the set of an accepted list
module _ (s : Stage) (list : List ℕ) (r : list_refusal s list ≡ none) where
  pub list_set_free : AllFree s (set_of list)
  list_set_free = all-free s list (entry_count list) (list_free s list r)

  pub list_set_inside : Inside s (set_of list)
  list_set_inside = free-inside s (set_of list) list_set_free

  pub list_set_size : Formed s → size s (set_of list) ≡ entry_count list
  list_set_size formed = listed-count s formed list (entry_count list) (list_free s list r) (list_rising s list r)
