-- `points::highest_cuttable` meets its contract. Assumes nothing.
use Rattle.net.specs.Layout.{newest}
use Rattle.points.specs.Lines.{barred_is, highest_ap}
use Rattle.points.proofs.highest_cuttable.Goals as goal

pub returns : goal.returns
returns c =
    let a = c.args in
    highest_ap a.x c.highest_free.result (barred_is newest 0 a.nodes.now a.wires.now a.obstacles.now a.i) (rw c.of_wire.ensures.line at c.highest_free.ensures)
