-- `clusters::by_slices::find_cuttable` meets its contract: below i the arrays have the lowest and the highest positions. Assumes nothing.
use Rattle.std.proofs.Common.{ℕ, ◌<◌, get_or}
use Rattle.net.specs.Layout.{newest}
use Rattle.net.specs.NoClearance.{stage_of}
use Rattle.clusters.specs.FirstPasses.{LowestFree, HighestFree}
use Rattle.clusters.proofs.by_slices.find_cuttable.Given as goal

abbrev pub invariant-loop-i : goal.invariant-loop-i
invariant-loop-i l =
    record {
      low : (j : ℕ) → j < l.i → LowestFree (stage_of newest l.nodes l.wires l.obstacles l.stage) j (get_or l.lo j 0);
      high : (j : ℕ) → j < l.i → HighestFree (stage_of newest l.nodes l.wires l.obstacles l.stage) j (get_or l.hi j 0);
    }
