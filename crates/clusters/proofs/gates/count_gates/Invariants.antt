-- `clusters::gates::count_gates` meets its contract: the clusters below i have the gates below i. Assumes nothing.
use Rattle.std.proofs.Common.{ℕ, ◌<◌, ◌≡◌, get_or}
use Rattle.clusters.specs.FirstPasses.{gathered, gate_of}
use Rattle.clusters.proofs.gates.count_gates.Given as goal

abbrev pub invariant-loop-i : goal.invariant-loop-i
invariant-loop-i l = (r : ℕ) → r < l.i → get_or l.gates r 0 ≡ gathered l.i l.root (gate_of l.nodes l.component l.sourced) r
