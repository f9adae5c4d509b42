-- `obstacles::prepare` meets its contract: the obstacles below `k` are written.
-- Assumes nothing.
use Rattle.std.proofs.Common.{◌≡◌}
use Rattle.laws.specs.Lists.{over}
use Rattle.laws.specs.Gather.{gather}
use Rattle.obstacles.specs.Prepared.{prepared_record}
use Rattle.obstacles.proofs.prepare.Given as goal

abbrev pub invariant-loop-k : goal.invariant-loop-k
invariant-loop-k l = l.out ≡ over (gather l.k (λ j. prepared_record l.version l.clearance l.obstacles j)) l.initial.out
