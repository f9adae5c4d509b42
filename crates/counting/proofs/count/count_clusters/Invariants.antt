-- `counting::count::count_clusters` meets its contract: before each turn the clusters from r on are closed and climbed, and no branch of a lower one is marked.
-- Assumes nothing.
use Rattle.counting.specs.Count.{work_clusters, Unmarked, CountedFrom}
use Rattle.counting.proofs.count.count_clusters.Given as goal

abbrev pub invariant-loop-r : goal.invariant-loop-r
invariant-loop-r g l =
    record {
      counted : CountedFrom (work_clusters l.nodes l.wires l.obstacles l.c) l.limit l.k l.b l.r;
      unmarked : Unmarked l.c l.k.cut_any l.r;
    }
