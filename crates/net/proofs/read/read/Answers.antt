-- `net::read::read` meets its contract.
-- Assumes nothing.
use Rattle.laws.specs.Results.{err_passed}
use mathlib.Core.Path.{◌∙◌, refl}
use Rattle.net.specs.Refusal.{none}
use Rattle.net.specs.Numbers.{answered}
use Rattle.net.specs.Answered.{answered_err, answered_ok}
use Rattle.net.specs.Reading.{read_answer_lem}
use Rattle.net.proofs.read.read.Goals as goal

pub returns-in_err-net : goal.returns-in_err-net
returns-in_err-net c =
    err_passed answered _ c.from_residual.ensures.1 (answered_err _ _ ∙ read_answer_lem _ _ _ _ c.in_err-net.ensures.verdict refl refl)

pub returns : goal.returns
returns c = answered_ok _ ∙ read_answer_lem _ none _ _ c.in_ok-net.ensures.verdict c.in_ok-net.ensures.net.1 c.node_count.ensures
