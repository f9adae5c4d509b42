-- `lists::check::list_refusal` meets its contract.
-- Assumes nothing.
use Rattle.std.proofs.Common.{refl, arith}
use Rattle.laws.specs.Results.{err_passed}
use Rattle.net.specs.Numbers.{checked}
use Rattle.net.specs.First.{first-start, first-all}
use Rattle.lists.specs.EntriesChecked.{list_not_threes, list_entries}
use Rattle.lists.proofs.check.list_refusal.Goals as goal

pub returns-then-list-ne0 : goal.returns-then-list-ne0
returns-then-list-ne0 c = list_not_threes _ _ c.if-list-ne0.true

pub loop-e-init : goal.loop-e-init
loop-e-init c = record { inside = omega arith; accepted = first-start _; stands = λ p. refl }

pub returns-in_err-e : goal.returns-in_err-e
returns-in_err-e c = err_passed checked _ c.from_residual.ensures.1 (list_entries _ _ c.if-list-ne0.false c.in_err-e.ensures)

pub returns : goal.returns
returns c = list_entries _ _ c.if-list-ne0.false (first-all _ _ _ (let a = c.loop-e.invariant.inside in omega arith) c.loop-e.invariant.accepted)
