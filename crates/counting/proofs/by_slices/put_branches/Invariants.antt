-- `counting::by_slices::put_branches` meets its contract: below r the slices have what k has. Assumes nothing.
use Rattle.std.proofs.Common.{ℕ, ◌<◌, ◌≡◌, false, get_or}
use Rattle.clusters.specs.Positions.{positions}
use Rattle.counting.specs.Optional.{flags}
use Rattle.counting.proofs.by_slices.put_branches.Given as goal

abbrev pub invariant-loop-r : goal.invariant-loop-r
invariant-loop-r g l =
    record {
      frees : (j : ℕ) → j < l.r → get_or l.has_ungated j false ≡ get_or (flags l.k.ungated) j false;
      nears : (j : ℕ) → j < l.r → get_or l.near j 0 ≡ get_or (positions l.k.near) j 0;
    }
