-- `clusters::by_slices::clusters_of` meets its contract: below i and j the arrays have the positions and the hosts. Assumes nothing.
use Rattle.std.proofs.Common.{ℕ, ◌<◌, ◌≡◌, cond, None, length, get_or}
use Rattle.clusters.specs.Positions.{lo_of, hi_of}
use Rattle.clusters.specs.FirstPasses.{cuttable}
use Rattle.clusters.proofs.by_slices.clusters_of.Given as goal

abbrev pub invariant-loop-i : goal.invariant-loop-i
invariant-loop-i g l =
    record {
      low : (j : ℕ) → j < l.i → lo_of (get_or l.cuttable j None) ≡ get_or l.lo j 0;
      high : (j : ℕ) → j < l.i → hi_of (get_or l.cuttable j None) ≡ cond (cuttable l.lo j) (get_or l.hi j 0) 0;
    }

abbrev pub invariant-loop-j : goal.invariant-loop-j
invariant-loop-j g l =
    record {
      long : length l.hosts ≡ g.row.N;
      hosts : (i : ℕ) → i < l.j → get_or l.hosts i 0 ≡ get_or l.host i 0;
    }
