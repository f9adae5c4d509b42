-- `def::write_net` meets its contract.
-- Assumes nothing.
use Rattle.laws.specs.Written.{written_taken}
use Rattle.def.specs.WrittenLaws.{length-nodes, length-wires}
use Rattle.def.proofs.write_net.Goals as goal

-- the parts that are handed on are the sections
pub returns : goal.returns
returns c =
    rw (
      c.from.ensures,
      written_taken _ _ _ _ c.write_nodes.ensures (length-nodes c.args.nodes.now c.args.flags.now),
      written_taken _ _ _ _ c.write_wires.ensures (length-wires c.args.nodes.now),
    ) at c.write.ensures
