-- `lists::wire::entries_end` meets its contract.
-- Assumes nothing.
-- those before the end are of the wire; a step behind it there is none of the wire
use Prim.Native.Nat.{ℕ, ◌+◌, ◌*◌, ◌<◌, ◌≤◌}
use mathlib.Core.Path.{◌≡◌}
use Rattle.pieces.specs.Legal.{entry_wire}
use Rattle.pieces.specs.JumperList.{entry_count}
use Rattle.lists.proofs.wire.entries_end.Given as goal

abbrev pub invariant-loop-step : goal.invariant-loop-step
invariant-loop-step l =
    (l.e ≤ l.end) × (l.end ≤ entry_count l.jumpers) × (l.end + l.step ≤ 2 * entry_count l.jumpers) × ((d : ℕ) → l.e ≤ d → d < l.end → entry_wire l.jumpers d ≡ l.i)
    × (l.end + l.step < entry_count l.jumpers → entry_wire l.jumpers (l.end + l.step) ≡ l.i → ⊥)

abbrev pub decreases-loop-step : goal.decreases-loop-step
decreases-loop-step l = l.step
