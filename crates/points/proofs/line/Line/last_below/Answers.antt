-- `points::line::Line::last_below` meets its contract. Assumes nothing.
use Rattle.std.proofs.Common.{arith}
use Rattle.points.specs.Lines.{obstacle-below}
use Rattle.points.proofs.line.Line.last_below.Goals as goal

pub returns : goal.returns
returns c =
    let m = c.max.ensures in
    obstacle-below c.args.o c.args.self c.last_below.ensures c.last_below-2.ensures (omega arith) (omega arith) (grind arith)
