-- `net::read::wire_refusal` meets its contract.
-- Assumes nothing.
use native.Mathlib.Omega.{arith}
use Rattle.std.proofs.lemmas.Bool.Decides.{nat_tests}
use Rattle.net.specs.Refusal.{wire_refusal}
use Rattle.net.proofs.read.wire_refusal.Goals as goal

pub returns-then-i-wire : goal.returns-then-i-wire
unfolding wire_refusal
returns-then-i-wire c = grind (arith, nat_tests)

pub returns-then-wire-eq0 : goal.returns-then-wire-eq0
unfolding wire_refusal
returns-then-wire-eq0 c = grind (arith, nat_tests)

pub returns-then-node-parent-2 : goal.returns-then-node-parent-2
unfolding wire_refusal
returns-then-node-parent-2 c = grind (arith, nat_tests)

pub returns : goal.returns
unfolding wire_refusal
returns c = grind (arith, nat_tests)
