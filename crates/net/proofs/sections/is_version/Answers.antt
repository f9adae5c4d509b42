-- `net::sections::is_version` meets its contract.
-- Assumes nothing.
use native.Mathlib.Omega.{arith}
use Rattle.std.proofs.lemmas.Bool.Decides.{nat_tests}
use Rattle.net.specs.Refusal.{is_version}
use Rattle.net.proofs.sections.is_version.Goals as goal

pub returns-then-version-from : goal.returns-then-version-from
unfolding is_version
returns-then-version-from c = grind (arith, nat_tests)

pub returns-else-version-from : goal.returns-else-version-from
unfolding is_version
returns-else-version-from c = grind (arith, nat_tests)
