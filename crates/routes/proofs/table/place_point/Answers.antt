-- `routes::table::place_point` meets its contract.
-- Assumes nothing.
use Rattle.routes.specs.Placing.{node_held, no_node_held, placed_again, placed_behind}
use Rattle.routes.proofs.table.place_point.Goals as goal

pub returns-in-Some : goal.returns-in-Some
returns-in-Some c = placed_again _ _ _ c.if-p.false (node_held c.args.nodes.now c.args.p c.node_on-on.ensures c.in-Some.is).0

pub returns-in-None : goal.returns-in-None
returns-in-None c = placed_behind _ _ _ c.if-p.false (no_node_held c.args.nodes.now c.args.p c.node_on-on.ensures c.in-None.is)
