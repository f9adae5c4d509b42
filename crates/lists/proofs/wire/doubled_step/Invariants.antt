-- `lists::wire::doubled_step` meets its contract.
-- Assumes nothing.
-- half the step leads to an entry of the wire
use Prim.Native.Nat.{◌+◌, ◌*◌, ◌/◌, ◌-◌, ◌<◌, ◌≤◌}
use mathlib.Core.Path.{◌≡◌}
use Rattle.pieces.specs.Legal.{entry_wire}
use Rattle.pieces.specs.JumperList.{entry_count}
use Rattle.lists.proofs.wire.doubled_step.Given as goal

abbrev pub invariant-loop-step : goal.invariant-loop-step
invariant-loop-step l = (1 ≤ l.step) × (l.e + l.step ≤ 2 * entry_count l.jumpers) × (l.e + l.step / 2 < entry_count l.jumpers) × (entry_wire l.jumpers (l.e + l.step / 2) ≡ l.i)

abbrev pub decreases-loop-step : goal.decreases-loop-step
decreases-loop-step l = 2 * entry_count l.jumpers - (l.e + l.step)
