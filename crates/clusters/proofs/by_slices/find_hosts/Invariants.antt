-- `clusters::by_slices::find_hosts` meets its contract: below i the array has the hosts. Assumes nothing.
use Rattle.std.proofs.Common.{ℕ, ◌<◌, ◌≡◌, get_or}
use Rattle.clusters.specs.FirstPasses.{host_of}
use Rattle.clusters.proofs.by_slices.find_hosts.Given as goal

abbrev pub invariant-loop-i : goal.invariant-loop-i
invariant-loop-i l = (j : ℕ) → j < l.i → get_or l.host j 0 ≡ host_of l.wires l.lo l.root j
