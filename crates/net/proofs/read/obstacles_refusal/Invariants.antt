-- `net::read::obstacles_refusal` meets its contract. The invariant: no obstacle below `k` is refused.
-- Assumes nothing.
use mathlib.Core.Path.{◌≡◌}
use Rattle.net.specs.Refusal.{none, first_of, obstacle_refusal}
use Rattle.net.proofs.read.obstacles_refusal.Given as goal

abbrev pub invariant-loop-k : goal.invariant-loop-k
invariant-loop-k l = none ≡ first_of l.k (λ j. obstacle_refusal l.version l.obstacles j)
