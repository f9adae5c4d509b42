-- `def::sections::write_nodes` meets its contract: the nodes below `i` are written.
-- Assumes nothing.
use mathlib.Core.Path.{◌≡◌}
use lib.ListN.{length, get_or}
use Rattle.laws.specs.Lists.{over}
use Rattle.laws.specs.Gather.{gather}
use Rattle.routes.specs.Nodes.{node_at}
use Rattle.def.specs.Written.{flagged_node}
use Rattle.def.proofs.sections.write_nodes.Given as goal

abbrev pub invariant-loop-i : goal.invariant-loop-i
invariant-loop-i l =
    (length l.out ≡ length l.initial.out) × (l.out ≡ over (gather l.i (λ j. flagged_node (node_at l.nodes j) (get_or l.flags j 0))) l.initial.out)
