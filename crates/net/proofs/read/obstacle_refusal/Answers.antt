-- `net::read::obstacle_refusal` meets its contract.
-- Assumes nothing.
use native.Mathlib.Omega.{arith}
use Rattle.std.proofs.lemmas.Bool.Decides.{nat_tests}
use Rattle.net.specs.Refusal.{obstacle_refusal}
use Rattle.net.proofs.read.obstacle_refusal.Goals as goal

pub returns-then-obstacle : goal.returns-then-obstacle
unfolding obstacle_refusal
returns-then-obstacle c = grind (arith, nat_tests)

pub returns-then-obstacle-eq0 : goal.returns-then-obstacle-eq0
unfolding obstacle_refusal
returns-then-obstacle-eq0 c = grind (arith, nat_tests)

pub returns : goal.returns
unfolding obstacle_refusal
returns c = grind (arith, nat_tests)
