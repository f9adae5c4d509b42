-- `counting::close::sum_branches` meets its contract: the sums so far are those of the branches passed.
-- Assumes nothing.
use Rattle.std.proofs.Common.{◌≤◌, ◌≡◌}
use Rattle.clusters.specs.Positions.{los}
use Rattle.counting.specs.Optional.{flags, weights}
use Rattle.counting.specs.Close.{branch_sum, clear_count, flagged_sum}
use Rattle.counting.proofs.close.sum_branches.Given as goal

abbrev pub invariant-loop-j : goal.invariant-loop-j
invariant-loop-j g l =
    record {
      count_is : l.count ≡ branch_sum l.j (los l.c.cuttable) l.c.host l.r l.b.count;
      lightest_is : l.lightest ≡ branch_sum l.j (los l.c.cuttable) l.c.host l.r l.b.lightest;
      free_is : l.free ≡ flagged_sum l.j (los l.c.cuttable) l.c.host l.r (flags l.ungated) (weights l.ungated);
      gated_is : l.gated ≡ clear_count l.j (los l.c.cuttable) l.c.host l.r (flags l.ungated);
      gated_few : l.gated ≤ l.j;
    }
