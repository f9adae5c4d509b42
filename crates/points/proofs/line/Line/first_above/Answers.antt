-- `points::line::Line::first_above` meets its contract. Assumes nothing.
use Rattle.std.proofs.Common.{arith}
use Rattle.points.specs.Lines.{obstacle-above}
use Rattle.points.proofs.line.Line.first_above.Goals as goal

pub returns : goal.returns
returns c =
    let m = c.min.ensures in
    obstacle-above c.args.o c.args.self c.args.end c.requires c.first_above.ensures c.first_above-2.ensures (omega arith) (omega arith) (grind arith)
