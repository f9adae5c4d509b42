-- `routes::table::node_on` meets its contract.
-- Assumes nothing.
use mathlib.Core.Path.{◌∙◌}
use Rattle.std.specs.Prelude.{◌&&◌, eqb}
use Rattle.std.proofs.Common.{rules, tests}
use Rattle.std.proofs.lemmas.Iterator.{YieldsList-from_slice}
use Rattle.std.proofs.lemmas.Iterator.Search.{position_from_yields_List}
use Rattle.laws.specs.Sums.{and_comm}
use Rattle.routes.specs.declared.Node.{Node}
use Rattle.routes.specs.Nodes.{node_at, stands_at, known, number_on}
use Rattle.routes.specs.Placing.{first_passing}
use Rattle.routes.proofs.table.node_on.Goals as goal

pub returns : goal.returns
unfolding known number_on
returns c =
    let a = c.args in
    let test = λ (n : Node). stands_at a.x a.y n && eqb n.layer a.layer in
    position_from_yields_List test _ _ _ c.position.ensures.ran (YieldsList-from_slice a.nodes.now (cc)) (λ x b q k. search (rules, tests))
    ∙ first_passing a.nodes.now test _ (λ i l. let n = node_at a.nodes.now i in and_comm (stands_at a.x a.y n) (eqb n.layer a.layer))
