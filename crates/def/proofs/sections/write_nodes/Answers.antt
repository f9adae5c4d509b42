-- `def::sections::write_nodes` meets its contract: the nodes below `i` are written.
-- Assumes nothing.
use mathlib.Core.Path.{refl}
use native.Mathlib.Omega.{arith}
use lib.ListN.{get_or}
use Rattle.laws.specs.Gather.{gather}
use Rattle.laws.specs.Written.{written_next}
use Rattle.net.specs.Layout.{node_bytes}
use borrow.Author.Rules.{rules}
use Rattle.routes.specs.Nodes.{node_at}
use Rattle.def.specs.Written.{flagged_node}
use Rattle.def.proofs.sections.write_nodes.Goals as goal

pub loop-i-init : goal.loop-i-init
unfolding gather
loop-i-init c = (refl, refl)

pub loop-i-preserved : goal.loop-i-preserved
loop-i-preserved c =
    let l = c.loop-i in
    let a = c.args in (
      search rules,
      written_next node_bytes (λ j. flagged_node (node_at a.nodes.now j) (get_or a.flags.now j 0)) (λ j. refl) l.i _ a.out.now _ _ refl (omega arith) l.invariant.1 c.write_node.ensures,
    )
