-- `net::read::sections_refusal` meets its contract.
-- Assumes nothing.
use native.Mathlib.Omega.{arith}
use Rattle.std.proofs.lemmas.Bool.Decides.{nat_tests}
use Rattle.net.specs.Refusal.{sections_refusal}
use Rattle.net.proofs.read.sections_refusal.Goals as goal

pub returns-then-nodes-ne0 : goal.returns-then-nodes-ne0
unfolding sections_refusal
returns-then-nodes-ne0 c = grind (arith, nat_tests)

pub returns-then-wires-count : goal.returns-then-wires-count
unfolding sections_refusal
returns-then-wires-count c = grind (arith, nat_tests)

pub returns-then-obstacles-obstacle_bytes : goal.returns-then-obstacles-obstacle_bytes
unfolding sections_refusal
returns-then-obstacles-obstacle_bytes c = grind (arith, nat_tests)

pub returns : goal.returns
unfolding sections_refusal
returns c = grind (arith, nat_tests)
