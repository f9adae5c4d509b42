-- `net::sections::pairs_refusal` meets its contract.
-- Assumes nothing.
use native.Mathlib.Omega.{arith}
use Rattle.std.proofs.lemmas.Bool.Decides.{nat_tests}
use Rattle.net.specs.Refusal.{pairs_refusal}
use Rattle.net.specs.File.{pairs_right}
use Rattle.net.proofs.sections.pairs_refusal.Goals as goal

pub returns-then-offset-ne-HEAD_BYTES : goal.returns-then-offset-ne-HEAD_BYTES
unfolding pairs_refusal pairs_right
returns-then-offset-ne-HEAD_BYTES c = grind (arith, nat_tests)

pub returns : goal.returns
unfolding pairs_refusal pairs_right
returns c = grind (arith, nat_tests)
