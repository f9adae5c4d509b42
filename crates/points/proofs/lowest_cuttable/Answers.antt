-- `points::lowest_cuttable` meets its contract. Assumes nothing.
use Rattle.net.specs.Net.{wire_length}
use Rattle.net.specs.Layout.{newest}
use Rattle.points.specs.Lines.{barred_is, lowest_ap}
use Rattle.points.proofs.lowest_cuttable.Goals as goal

pub returns : goal.returns
returns c =
    let a = c.args in
    lowest_ap a.x (wire_length a.nodes.now a.wires.now a.i) c.lowest_free.result (barred_is newest 0 a.nodes.now a.wires.now a.obstacles.now a.i)
    (rw (c.of_wire.ensures.line, c.length_of-end.ensures.0) at c.lowest_free.ensures)
