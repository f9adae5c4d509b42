-- `points::line::Line::of_wire` meets its contract. Assumes nothing.
use Rattle.std.proofs.Common.{arith}
use Rattle.points.specs.Lines.{reaches_of}
use Rattle.points.proofs.line.Line.of_wire.Goals as goal

pub returns-clause-reaches : goal.returns-clause-reaches
returns-clause-reaches c t l =
    let a = c.args in
    let from = c.node_at-from.ensures in
    let to = rw c.wire_at-wire.ensures.parent at c.node_at-to.ensures in
    rw (c.toward.ensures, c.toward-2.ensures, c.wire_at-wire.ensures.layer, from.x, from.y, to.x, to.y)
    (reaches_of a.nodes.now a.wires.now a.i t (λ k. omega (arith, c.type_inv.nodes k)) c.requires l)
