-- `clusters::weights::weigh_clusters` meets its contract: the clusters below i have the weight of the wires below i. Assumes nothing.
use Rattle.std.proofs.Common.{ℕ, ◌+◌, ◌<◌, ◌≡◌, get_or}
use Rattle.clusters.specs.Positions.{los, his}
use Rattle.clusters.specs.FirstPasses.{gathered, lower_weight, upper_weight}
use Rattle.clusters.proofs.weights.weigh_clusters.Given as goal

abbrev pub invariant-loop-i : goal.invariant-loop-i
invariant-loop-i l = (r : ℕ) → r < l.i → get_or l.fixed r 0 ≡ gathered l.i l.root (lower_weight l.nodes l.wires l.stage (los l.cuttable)) r + gathered l.i l.host (upper_weight l.nodes l.wires (los l.cuttable) (his l.cuttable)) r
