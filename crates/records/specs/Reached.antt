-- How far a pass by rising wire number has come in a jumper list.
-- Assumes nothing.
use Rattle.std.specs.Prelude.{ℕ, ◌+◌, ◌≤◌, ◌<◌, ◌≡◌, List}
use Rattle.std.proofs.Common.{arith}
use Rattle.pieces.specs.Legal.{entry_wire}
use Rattle.pieces.specs.JumperList.{entry_count}
use Rattle.lists.specs.EntriesOfWire.{OfWire, wires-from, of_wire, of_wire_next}
use Rattle.records.specs.ListRight.{ListAccepted}
use Rattle.records.specs.ListRights.{rising_of}

-- the entries before e are those of the wires below i
pub record Reached (list : List ℕ) (i e : ℕ) : Type 0 where
  pub inside : e ≤ entry_count list
  pub before : (d : ℕ) → d < e → entry_wire list d < i
  pub behind : (d : ℕ) → e ≤ d → d < entry_count list → i ≤ entry_wire list d

pub reached_none : (list : List ℕ) → Reached list 0 0
reached_none list =
    record { inside = omega arith; before = λ d p. absurd (native.Mathlib.Nat.lt_irrefl 0 (omega arith)); behind = λ d p q. omega arith }

module _ (ns ws list : List ℕ) (k : ℕ) (accepted : ListAccepted ns ws k list) where
  -- from entry e on those of the next wire come first
  pub reached_first : (i e : ℕ) → Reached list i e → (d f : ℕ) → e ≤ d → d ≤ f → f < entry_count list → entry_wire list f ≡ i → entry_wire list d ≡ i
  reached_first i e r d f p q h w =
      let a = r.behind d p (omega arith) in
      let b = wires-from list (entry_count list) (rising_of accepted.0 ns ws list accepted.1 k accepted.2) d f q h in
      omega arith

  -- the entries of the next wire
  pub reached_wire : (i e end : ℕ) → Reached list i e → e ≤ end → end ≤ entry_count list → ((d : ℕ) → e ≤ d → d < end → entry_wire list d ≡ i) →
      (end < entry_count list → entry_wire list end ≡ i → ⊥) → OfWire list (entry_count list) i e end
  reached_wire i e end r p q here other =
      of_wire list (entry_count list) (rising_of accepted.0 ns ws list accepted.1 k accepted.2) i e end p q r.before here
      (λ l. let a = other l in let b = r.behind end p l in omega arith)

  pub reached_next : (i e end : ℕ) → OfWire list (entry_count list) i e end → Reached list (i + 1) end
  reached_next i e end w =
      record {
        inside = w.inside;
        before = of_wire_next list (entry_count list) (rising_of accepted.0 ns ws list accepted.1 k accepted.2) i e end w;
        behind = λ d p q. let a = w.behind d p q in omega arith;
      }
