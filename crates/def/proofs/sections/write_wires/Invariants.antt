-- `def::sections::write_wires` meets its contract: the wires below `i` are written.
-- Assumes nothing.
use Prim.Native.Nat.{◌+◌, ◌-◌}
use mathlib.Core.Path.{◌≡◌}
use lib.ListN.{length}
use Rattle.laws.specs.Lists.{over}
use Rattle.laws.specs.Gather.{gather}
use Rattle.routes.specs.Nodes.{node_at}
use Rattle.def.specs.Sections.{wire_record}
use Rattle.def.proofs.sections.write_wires.Given as goal

abbrev pub invariant-loop-i : goal.invariant-loop-i
invariant-loop-i l =
    (length l.out ≡ length l.initial.out) × (l.out ≡ over (gather (l.i - 1) (λ j. wire_record (node_at l.nodes (j + 1)))) l.initial.out)
