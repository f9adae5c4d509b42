-- `lists::check::position_refusal` meets its contract.
-- Assumes nothing.
use native.Mathlib.Omega.{arith}
use Rattle.std.proofs.lemmas.Bool.Decides.{nat_tests}
use Rattle.lists.specs.EntriesChecked.{position_refusal}
use Rattle.lists.proofs.check.position_refusal.Goals as goal

pub returns-then-length-t : goal.returns-then-length-t
unfolding position_refusal
returns-then-length-t c = grind (arith, nat_tests)

pub returns-then-is_barred : goal.returns-then-is_barred
unfolding position_refusal
returns-then-is_barred c = grind (arith, nat_tests)

pub returns : goal.returns
unfolding position_refusal
returns c = grind (arith, nat_tests)
