-- `counting::close::cut_heaviest` meets its contract: the branches cut so far are the heaviest, and the weight left falls with each.
-- Assumes nothing.
use Rattle.std.proofs.Common.{◌≤◌, ◌+◌, get_or}
use Rattle.clusters.specs.Positions.{los}
use Rattle.counting.specs.Close.{branch_sum, Cutting}
use Rattle.counting.proofs.close.cut_heaviest.Given as goal

abbrev pub invariant-loop-left : goal.invariant-loop-left
invariant-loop-left g l =
    record {
      cutting : Cutting l.c.n (los l.c.cuttable) l.c.host l.b.lightest l.initial.cut_any l.cut_any l.r (get_or l.c.fixed l.r 0) l.limit l.cuts l.left;
      weight : l.cuts + l.left ≤ get_or l.c.fixed l.r 0 + branch_sum l.c.n (los l.c.cuttable) l.c.host l.r l.b.lightest;
    }

abbrev pub decreases-loop-left : goal.decreases-loop-left
decreases-loop-left g l = l.left
