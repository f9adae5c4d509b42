-- `points::length_of` meets its contract. Assumes nothing.
use Rattle.std.proofs.Common.{◌+◌, ◌≡◌, arith}
use Rattle.net.specs.Net.{wire_length}
use Rattle.points.specs.Geometry.{length-small}
use Rattle.points.proofs.length_of.Goals as goal

pub returns : goal.returns
unfolding wire_length
returns c =
    let a = c.args in
    let from = c.node_at-from.ensures in
    let to = rw c.wire_at.ensures.parent at c.node_at-to.ensures in
    let l : c.from.result + c.from-2.result ≡ wire_length a.nodes.now a.wires.now a.i =
    rw (c.from.ensures, c.from-2.ensures, c.abs_diff.ensures, c.abs_diff-2.ensures, from.x, from.y, to.x, to.y)
    in
    let k = length-small a.nodes.now a.wires.now a.i (λ k. omega (arith, c.type_inv.nodes k)) c.requires in
    (l, rw l k)
