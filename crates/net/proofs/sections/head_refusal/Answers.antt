-- `net::sections::head_refusal` meets its contract.
-- Assumes nothing.
use native.Mathlib.Omega.{arith}
use Rattle.std.proofs.lemmas.Bool.Decides.{nat_tests}
use Rattle.net.specs.Refusal.{head_refusal}
use Rattle.net.proofs.sections.head_refusal.Goals as goal

pub returns-then-file-lt-HEAD_BYTES : goal.returns-then-file-lt-HEAD_BYTES
unfolding head_refusal
returns-then-file-lt-HEAD_BYTES c = grind (arith, nat_tests)

pub returns : goal.returns
unfolding head_refusal
returns c = grind (arith, nat_tests)
