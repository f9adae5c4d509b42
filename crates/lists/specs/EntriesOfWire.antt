-- The entries of one wire stand together in a rising list, and say where the wire is cut.
-- Assumes nothing.
use Rattle.std.specs.Prelude.{ℕ, ◌+◌, ◌-◌, ◌≤◌, ◌<◌, ◌≡◌, refl, true, false, List, ltb, eqb}
use Rattle.std.proofs.Common.{sym, ◌∙◌, arith}
use borrow.Author.Tests.{ltb-true, ltb-false, eqb-true, eqb-false}
use Rattle.laws.specs.Sums.{by, not_true_false, any-yes, any_none, lowest_is, highest_is}
use Rattle.net.specs.Stage.{Stage}
use Rattle.pieces.specs.Name.{cut_at, first_jumper, last_jumper}
use Rattle.pieces.specs.Legal.{entry_wire, entry_position, listed}
use Rattle.lists.specs.Entries.{EntriesFree, Rising, rises-all, wire-≤, position-<, listed-yes, listed-some}

-- of n entries those of wire i are the ones from a to b − 1
pub record OfWire (list : List ℕ) (n i a b : ℕ) : Type 0 where
  pub ordered : a ≤ b
  pub inside : b ≤ n
  pub before : (e : ℕ) → e < a → entry_wire list e < i
  pub here : (e : ℕ) → a ≤ e → e < b → entry_wire list e ≡ i
  pub behind : (e : ℕ) → b ≤ e → e < n → i < entry_wire list e

-- ---- as a loop finds them
module _ (list : List ℕ) (n : ℕ) (rising : Rising list n) where
  -- the wires from an entry on
  pub wires-from : (d e : ℕ) → d ≤ e → e < n → entry_wire list d ≤ entry_wire list e
  wires-from d e p h =
      by (eqb d e)
      (λ y. rw (eqb-true d e y) (omega arith))
      (λ z. let ne = eqb-false d e z in wire-≤ list (rises-all list n rising d e (omega arith) h))

  -- they end at the end of the list, or at an entry of another wire
  pub of_wire : (i a b : ℕ) → a ≤ b → b ≤ n →
      ((e : ℕ) → e < a → entry_wire list e < i) →
      ((e : ℕ) → a ≤ e → e < b → entry_wire list e ≡ i) →
      (b < n → i < entry_wire list b) → OfWire list n i a b
  of_wire i a b p q before here next =
      record {
        ordered = p;
        inside = q;
        before = before;
        here = here;
        behind = λ e l h. let x = next (omega arith) in let y = wires-from b e l h in omega arith;
      }

  -- where the next wire's entries begin
  pub of_wire_next : (i a b : ℕ) → OfWire list n i a b → (e : ℕ) → e < b → entry_wire list e < i + 1
  of_wire_next i a b w e h =
      by (ltb e a)
      (λ y. let x = w.before e (ltb-true e a y) in omega arith)
      (λ z. let x = w.here e (ltb-false e a z) h in omega arith)

-- ---- what they say
module _ (s : Stage) (list : List ℕ) (n : ℕ) (free : EntriesFree s list n) (rising : Rising list n) (i a b : ℕ) (w : OfWire list n i a b) where
  -- each is a jumper of the wire
  pub entry-jumper : (e : ℕ) → a ≤ e → e < b → listed list n i (entry_position list e) ≡ true
  entry-jumper e p q = listed-yes list n e i (entry_position list e) (omega (arith, w.inside)) (w.here e p q) refl

  -- each jumper of the wire is one of them
  pub jumper-entry : (t : ℕ) → listed list n i t ≡ true → (e : ℕ) × (a ≤ e) × (e < b) × (entry_position list e ≡ t)
  jumper-entry t h =
      let r = listed-some list n i t h in
      let e = r.0 in
      by (ltb e a)
      (λ y. let x = w.before e (ltb-true e a y) in absurd (native.Mathlib.Nat.lt_irrefl 0 (omega (arith, r.2))))
      (λ z.
      by (ltb e b)
      (λ y. (e, ltb-false e a z, ltb-true e b y, r.3))
      (λ v. let x = w.behind e (ltb-false e b v) r.1 in absurd (native.Mathlib.Nat.lt_irrefl 0 (omega (arith, r.2)))))

  -- their positions rise
  pub positions-rise : (d e : ℕ) → a ≤ d → d < e → e < b → entry_position list d < entry_position list e
  positions-rise d e p q h =
      position-< list (rises-all list n rising d e q (omega (arith, w.inside))) (w.here d p (omega arith) ∙ sym (w.here e (omega arith) h))

  pub positions-≤ : (d e : ℕ) → a ≤ d → d ≤ e → e < b → entry_position list d ≤ entry_position list e
  positions-≤ d e p q h =
      by (eqb d e)
      (λ y. rw (eqb-true d e y) (omega arith))
      (λ z. let ne = eqb-false d e z in let x = positions-rise d e p (omega arith) h in omega arith)

  -- they lie inside the wire
  pub position-inside : (e : ℕ) → a ≤ e → e < b → (1 ≤ entry_position list e) × (entry_position list e < s.len i)
  position-inside e p q = let f = free e (omega (arith, w.inside)) in (f.low, rw (← w.here e p q) f.high)

  pub of_wire_cut : cut_at s (listed list n) i ≡ ltb a b
  unfolding cut_at
  of_wire_cut =
      by (ltb a b)
      (λ y.
      let l = ltb-true a b y in
      rw y (any-yes (s.len i) (entry_position list a) (λ t. listed list n i t) (position-inside a (omega arith) l).1 (entry-jumper a (omega arith) l)))
      (λ z.
      let l = ltb-false a b z in
      rw z (any_none (s.len i) (λ t. listed list n i t)
      (λ t p.
      not_true_false (listed list n i t) (λ h. let r = jumper-entry t h in native.Mathlib.Nat.lt_irrefl 0 (omega (arith, r.1, r.2))))))

  -- no jumper below the first, between two neighbours, above the last
  pub none_below : (t : ℕ) → a < b → t < entry_position list a → listed list n i t ≡ false
  none_below t l h =
      not_true_false (listed list n i t)
      (λ y.
      let r = jumper-entry t y in
      let x = positions-≤ a r.0 (omega arith) r.1 r.2 in
      native.Mathlib.Nat.lt_irrefl 0 (omega (arith, r.3)))

  pub none_above : (t : ℕ) → a < b → entry_position list (b - 1) < t → listed list n i t ≡ false
  none_above t l h =
      not_true_false (listed list n i t)
      (λ y.
      let r = jumper-entry t y in
      let x = positions-≤ r.0 (b - 1) r.1 (omega (arith, r.2)) (omega arith) in
      native.Mathlib.Nat.lt_irrefl 0 (omega (arith, r.3)))

  pub none_between : (e t : ℕ) → a ≤ e → e + 1 < b → entry_position list e < t → t < entry_position list (e + 1) → listed list n i t ≡ false
  none_between e t p q l h =
      not_true_false (listed list n i t)
      (λ y.
      let r = jumper-entry t y in
      by (ltb e r.0)
      (λ v.
      let x = positions-≤ (e + 1) r.0 (omega arith) (omega (arith, ltb-true e r.0 v)) r.2 in
      native.Mathlib.Nat.lt_irrefl 0 (omega (arith, r.3)))
      (λ v.
      let x = positions-≤ r.0 e r.1 (ltb-false e r.0 v) (omega arith) in
      native.Mathlib.Nat.lt_irrefl 0 (omega (arith, r.3))))

  pub of_wire_first : a < b → first_jumper s (listed list n) i ≡ entry_position list a
  unfolding first_jumper
  of_wire_first l =
      lowest_is (s.len i) (entry_position list a) (λ t. listed list n i t) (position-inside a (omega arith) l).1 (entry-jumper a (omega arith) l)
      (λ t h. none_below t l h)

  pub of_wire_last : a < b → last_jumper s (listed list n) i ≡ entry_position list (b - 1)
  unfolding last_jumper
  of_wire_last l =
      highest_is (s.len i) (entry_position list (b - 1)) (λ t. listed list n i t) (position-inside (b - 1) (omega arith) (omega arith)).1
      (entry-jumper (b - 1) (omega arith) (omega arith)) (λ t h. none_above t l h)
