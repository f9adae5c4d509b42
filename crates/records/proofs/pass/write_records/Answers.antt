-- `records::pass::write_records` meets its contract.
-- Assumes nothing.
use Rattle.records.specs.NetWithJumpers.{accepted_of}
use Rattle.records.proofs.pass.write_records.Goals as goal

pub take_wires-requires-else-node_count-le-FEW_NODES-clause-nodes_in_bounds : goal.take_wires-requires-else-node_count-le-FEW_NODES-clause-nodes_in_bounds
take_wires-requires-else-node_count-le-FEW_NODES-clause-nodes_in_bounds c = (accepted_of c.args.net).2.right.sized.few_nodes
