-- `net::read::wires_refusal` meets its contract. The invariant: no wire below `i` is refused.
-- Assumes nothing.
use Prim.Native.Nat.{◌+◌, ◌<◌, ◌≤◌, ◌-◌}
use mathlib.Core.Path.{◌≡◌}
use Rattle.net.specs.Refusal.{none, first_of, wire_refusal}
use Rattle.net.proofs.read.wires_refusal.Given as goal

abbrev pub invariant-loop-i : goal.invariant-loop-i
invariant-loop-i l = (0 < l.i) × (l.i - 1 ≤ l.i-end - 1) × (none ≡ first_of (l.i - 1) (λ j. wire_refusal l.nodes l.wires (j + 1)))
