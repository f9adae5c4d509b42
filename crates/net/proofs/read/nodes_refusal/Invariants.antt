-- `net::read::nodes_refusal` meets its contract. The invariant: no node below `i` is refused.
-- Assumes nothing.
use mathlib.Core.Path.{◌≡◌}
use Rattle.net.specs.Refusal.{none, first_of, node_refusal}
use Rattle.net.proofs.read.nodes_refusal.Given as goal

abbrev pub invariant-loop-i : goal.invariant-loop-i
invariant-loop-i l = none ≡ first_of l.i (λ j. node_refusal l.nodes j)
