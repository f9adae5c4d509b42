-- `points::is_near` meets its contract. Assumes nothing.
use Rattle.std.proofs.Common.{arith}
use Rattle.std.proofs.lemmas.Bool.Decides.{nat_tests}
use Rattle.net.specs.Net.{near}
use Rattle.points.proofs.is_near.Goals as goal

pub returns-then-from-y : goal.returns-then-from-y
unfolding near
returns-then-from-y c = rw (← c.obstacle_bytes.ensures) (grind (arith, nat_tests))

pub returns-else-from-y : goal.returns-else-from-y
unfolding near
returns-else-from-y c = rw (← c.obstacle_bytes.ensures) (grind (arith, nat_tests))
