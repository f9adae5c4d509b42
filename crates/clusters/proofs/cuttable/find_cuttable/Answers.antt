-- `clusters::cuttable::find_cuttable` meets its contract: below i the array has the lowest and the highest positions. Assumes nothing.
use Rattle.std.proofs.Common.{None, arith}
use Rattle.std.proofs.Math.ListN.{get_or-map}
use Rattle.net.specs.NoClearance.{stage_of}
use Rattle.clusters.specs.Positions.{lo_of, hi_of}
use Rattle.clusters.proofs.cuttable.find_cuttable.Goals as goal

pub returns : goal.returns
unfolding stage_of
returns c =
    let l = c.loop-i in
    record {
      low = λ j p. rw (get_or-map lo_of l.cuttable j None) (l.invariant.low j (omega arith));
      high = λ j p. rw (get_or-map hi_of l.cuttable j None) (l.invariant.high j (omega arith));
    }
