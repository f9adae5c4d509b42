-- `net::read::obstacles_refusal` meets its contract.
-- Assumes nothing.
use native.Mathlib.Omega.{arith}
use Rattle.laws.specs.Results.{err_passed}
use Rattle.net.specs.Numbers.{checked}
use Rattle.net.specs.First.{first-start, first_more, first-here}
use Rattle.net.specs.Answered.{met_refusal}
use Rattle.net.proofs.read.obstacles_refusal.Goals as goal

pub loop-k-init : goal.loop-k-init
loop-k-init c = first-start _

pub returns-in_err-obstacle_refusal : goal.returns-in_err-obstacle_refusal
returns-in_err-obstacle_refusal c =
    err_passed checked _ c.from_residual.ensures.1 (first-here _ _ _ (omega arith) c.loop-k.invariant c.in_err-obstacle_refusal.ensures (met_refusal _))

pub loop-k-preserved : goal.loop-k-preserved
loop-k-preserved c = first_more _ _ c.loop-k.invariant c.in_ok-obstacle_refusal.ensures
