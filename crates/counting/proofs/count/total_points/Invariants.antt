-- `counting::count::total_points` meets its contract: the sum so far is that of the clusters passed.
-- Assumes nothing.
use Rattle.std.proofs.Common.{◌≡◌}
use Rattle.clusters.specs.Positions.{los}
use Rattle.counting.specs.Count.{root_sum}
use Rattle.counting.proofs.count.total_points.Given as goal

abbrev pub invariant-loop-r : goal.invariant-loop-r
invariant-loop-r g l = l.sum ≡ root_sum l.r (los l.c.cuttable) l.fewest
