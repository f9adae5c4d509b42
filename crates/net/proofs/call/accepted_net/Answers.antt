-- `net::call::accepted_net` meets its contract.
-- Assumes nothing.
use native.Mathlib.Omega.{arith}
use Rattle.std.proofs.lemmas.Bool.Decides.{nat_tests}
use Rattle.net.specs.Refusal.{stage_refusal}
use Rattle.net.proofs.call.accepted_net.Goals as goal

pub returns-then-stage-eq0 : goal.returns-then-stage-eq0
unfolding stage_refusal
returns-then-stage-eq0 c = grind (arith, nat_tests)

pub returns : goal.returns
unfolding stage_refusal
returns c = grind (arith, nat_tests)
