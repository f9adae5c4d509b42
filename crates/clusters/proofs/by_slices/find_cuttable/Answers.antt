-- `clusters::by_slices::find_cuttable` meets its contract: below i the arrays have the lowest and the highest positions. Assumes nothing.
use Rattle.std.proofs.Common.{arith}
use Rattle.net.specs.NoClearance.{stage_of}
use Rattle.clusters.proofs.by_slices.find_cuttable.Goals as goal

pub returns : goal.returns
unfolding stage_of
returns c =
    let l = c.loop-i in
    record { low = λ j p. l.invariant.low j (omega arith); high = λ j p. l.invariant.high j (omega arith) }
