-- Which refusal each test of a jumper list shows, with the length and the line of a wire found once for its entries in a row.
-- Assumes nothing.
use Rattle.std.specs.Prelude.{ℕ, ◌-◌, ◌*◌, ◌%◌, ◌<◌, ◌≤◌, ◌≡◌, Bool, not, ◌&&◌, ◌||◌, List, length, eqb}
use Rattle.std.proofs.Math.Path.{refl, sym}
use Rattle.std.proofs.Math.Bool.{true, false}
use native.Mathlib.Omega.{arith}
use Rattle.std.proofs.lemmas.Bool.Decides.{nat_tests}
use Rattle.std.proofs.Math.Dec.{leb, ltb}
use borrow.Author.Tests.{ltb-true, ltb-false, lt-ltb, le-ltb, eq-eqb, ne_eqb}
use Rattle.laws.specs.Sums.{by, and_left}
use Rattle.net.specs.Layout.{wire_bytes, entry_bytes}
use Rattle.net.specs.Net.{node_count, wire_layer, wire_length, barred}
use Rattle.net.specs.Stage.{Stage, stage_under}
use Rattle.net.specs.Refusal.{Verdict, none, refusal, met, refused_if, or_else, first_of, net_refusal}
use Rattle.net.specs.First.{none_if, none_or, first-none, first-unmet, unmet-number}
use Rattle.net.specs.Accepted.{net-right}
use Rattle.points.specs.Cuttable.{Checked}
use Rattle.points.specs.Lines.{line_of, barred_at, barred_is}
use Rattle.points.specs.declared.line.Line.{Line}
use Rattle.points.specs.Geometry.{checked_of}
use Rattle.pieces.specs.Legal.{entry_wire, entry_position, after}
use Rattle.pieces.specs.JumperList.{entry_count, point_refusal, entry_refusal, list_refusal}

-- each wire of the net is checked
abbrev pub WiresChecked : List ℕ → List ℕ → Type 0
WiresChecked ns ws = (i : ℕ) → 0 < i → i < node_count ns → Checked ns ws i

pub wires-checked : (v : ℕ) (ns ws os : List ℕ) → net_refusal v ns ws os ≡ none → WiresChecked ns ws
wires-checked v ns ws os r i p h = checked_of (net-right v ns ws os r) i p h

-- the bytes of a wire that is numbered, and what was checked of one that the stage has
module _ (ns ws : List ℕ) (checked : WiresChecked ns ws) (i : ℕ) (h : i < node_count ns) where
  pub wire-stored : wire_bytes * i ≤ length ws
  wire-stored = by (ltb 0 i) (λ y. (checked i (ltb-true 0 i y) h).stored) (λ z. let l = ltb-false 0 i z in omega arith)

  pub present-checked : (k : ℕ) → (ltb 0 i && leb (wire_layer ws i) k) ≡ true → Checked ns ws i
  present-checked k y = checked i (ltb-true 0 i (and_left (ltb 0 i) (leb (wire_layer ws i) k) y)) h

-- position t of a line of length `len`: 13 position outside; 14 barred
unfoldable pub position_refusal : ℕ → ℕ → List ℕ → Line → ℕ → ℕ → ℕ → Verdict
position_refusal v c os line len t place = or_else (refused_if (not (leb 1 t && ltb t len)) 13 place) (refused_if (barred_at v c os line t) 14 place)

-- a point: 13 on its wire, then its position on the wire's line
module _ (v c : ℕ) (ns ws os : List ℕ) (k i t place : ℕ) where
  pub no_wire : node_count ns ≤ i → refusal 13 place ≡ point_refusal (stage_under v ns ws os k c) i t place
  unfolding point_refusal
  no_wire h = rw (le-ltb _ _ h) (bools (ltb 0 i) (leb (wire_layer ws i) k) (leb 1 t && ltb t (wire_length ns ws i)))
    where
      bools : (a b d : Bool) → refusal 13 place ≡ or_else (refused_if (not ((a && (false && b)) && d)) 13 place) (refused_if (barred v c ns ws os i t) 14 place)
      bools true b d = refl
      bools false b d = refl

  pub at_node : t ≡ 0 → refusal 13 place ≡ point_refusal (stage_under v ns ws os k c) i t place
  unfolding point_refusal
  at_node z = grind (arith, nat_tests)

  module _ (a : i < node_count ns) where
    pub absent_wire : (ltb 0 i && leb (wire_layer ws i) k) ≡ false → refusal 13 place ≡ point_refusal (stage_under v ns ws os k c) i t place
    unfolding point_refusal
    absent_wire z = rw (lt-ltb _ _ a, z)

    pub position_point : (ltb 0 i && leb (wire_layer ws i) k) ≡ true
        → position_refusal v c os (line_of ns ws i) (wire_length ns ws i) t place ≡ point_refusal (stage_under v ns ws os k c) i t place
    unfolding position_refusal point_refusal
    position_point y = rw (lt-ltb _ _ a, y, barred_is v c ns ws os i t)

-- an entry stands after the one before, or not: the wires, then the positions on one wire
module _ (list : List ℕ) (e : ℕ) (p : 0 < e) where
  pub after-higher : entry_wire list (e - 1) < entry_wire list e → true ≡ (eqb e 0 || after list (e - 1) e)
  unfolding after
  after-higher h = grind (arith, nat_tests)

  pub after_lower : entry_wire list e < entry_wire list (e - 1) → false ≡ (eqb e 0 || after list (e - 1) e)
  unfolding after
  after_lower h = grind (arith, nat_tests)

  module _ (same : entry_wire list (e - 1) ≡ entry_wire list e) where
    pub after-behind : entry_position list (e - 1) < entry_position list e → true ≡ (eqb e 0 || after list (e - 1) e)
    unfolding after
    after-behind h = grind (arith, nat_tests)

    pub after_not_behind : entry_position list e ≤ entry_position list (e - 1) → false ≡ (eqb e 0 || after list (e - 1) e)
    unfolding after
    after_not_behind h = grind (arith, nat_tests)

-- an entry: 12, then its point
module _ (s : Stage) (list : List ℕ) (e : ℕ) where
  pub entry_not_after : false ≡ (eqb e 0 || after list (e - 1) e) → refusal 12 e ≡ entry_refusal s list e
  unfolding entry_refusal
  entry_not_after h = rw (← h)

  pub entry_point : true ≡ (eqb e 0 || after list (e - 1) e) → point_refusal s (entry_wire list e) (entry_position list e) e ≡ entry_refusal s list e
  unfolding entry_refusal
  entry_point h = rw (← h)

-- a list: its length, then each entry
module _ (s : Stage) (list : List ℕ) where
  pub list_not_threes : (length list % entry_bytes ≡ 0 → ⊥) → refusal 12 0 ≡ list_refusal s list
  unfolding list_refusal
  list_not_threes n = rw (ne_eqb _ _ n)

  point_none : (i t place : ℕ) → met (point_refusal s i t place) ≡ false → none ≡ point_refusal s i t place
  unfolding point_refusal
  point_none i t place =
      none_or (refused_if (not (s.present i && (leb 1 t && ltb t (s.len i)))) 13 place) (refused_if (s.barred i t) 14 place) (none_if (s.barred i t) 14 place refl)

  pub entry-none : (e : ℕ) → met (entry_refusal s list e) ≡ false → none ≡ entry_refusal s list e
  unfolding entry_refusal
  entry-none e =
      none_or (refused_if (not (eqb e 0 || after list (e - 1) e)) 12 e) (point_refusal s (entry_wire list e) (entry_position list e) e)
      (point_none (entry_wire list e) (entry_position list e) e)

  -- a list whose refusal has number 0 meets none
  pub list_none : (list_refusal s list).number ≡ 0 → list_refusal s list ≡ none
  unfolding list_refusal
  list_none e =
      let r12 = refused_if (not (eqb (length list % entry_bytes) 0)) 12 0 in
      let each = first_of (entry_count list) (λ e. entry_refusal s list e) in
      sym
      (none_or r12 each
      (λ u. first-none (λ e. entry_refusal s list e) (entry_count list) (λ i p. entry-none i (first-unmet (λ e. entry_refusal s list e) (entry_count list) u i p)))
      (unmet-number (list_refusal s list) e))

  module _ (a : length list % entry_bytes ≡ 0) where
    pub list_entries : {r : Verdict} → r ≡ first_of (entry_count list) (λ e. entry_refusal s list e) → r ≡ list_refusal s list
    unfolding list_refusal
    list_entries h = rw (eq-eqb _ _ a) h

-- no entry below e is refused, and entry e, if there is one, stands after the one before it
pub record AcceptedTo (s : Stage) (list : List ℕ) (e : ℕ) : Type 0 where
  pub inside : e ≤ entry_count list
  pub accepted : none ≡ first_of e (entry_refusal s list)
  pub stands : e < entry_count list → true ≡ (eqb e 0 || after list (e - 1) e)
