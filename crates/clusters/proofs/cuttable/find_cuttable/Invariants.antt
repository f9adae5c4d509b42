-- `clusters::cuttable::find_cuttable` meets its contract: below i the arrays have the lowest and the highest positions. Assumes nothing.
use Rattle.std.proofs.Common.{ℕ, ◌<◌, None, get_or}
use Rattle.net.specs.Layout.{newest}
use Rattle.net.specs.NoClearance.{stage_of}
use Rattle.clusters.specs.Positions.{lo_of, hi_of}
use Rattle.clusters.specs.FirstPasses.{LowestFree, HighestFree}
use Rattle.clusters.proofs.cuttable.find_cuttable.Given as goal

abbrev pub invariant-loop-i : goal.invariant-loop-i
invariant-loop-i l =
    record {
      low : (j : ℕ) → j < l.i → LowestFree (stage_of newest l.nodes l.wires l.obstacles l.stage) j (lo_of (get_or l.cuttable j None));
      high : (j : ℕ) → j < l.i → HighestFree (stage_of newest l.nodes l.wires l.obstacles l.stage) j (hi_of (get_or l.cuttable j None));
    }
