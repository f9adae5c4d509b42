-- `words::Word::number` meets its contract.
-- Assumes nothing.
use native.Mathlib.Omega.{arith}
use mathlib.Core.Path.{◌∙◌, sym}
use Rattle.std.proofs.lemmas.Bool.Decides.{nat_tests}
use Rattle.words.specs.Reading.{number-empty, number-long, number_other, number-whole, read_more}
use Rattle.words.proofs.Word.number.Goals as goal
use Rattle.words.proofs.Word.number.Goals.{then-is_empty-via-then-is_empty, then-is_empty-via-else-is_empty+then-self-gt5}

pub returns-then-is_empty : goal.returns-then-is_empty
returns-then-is_empty c =
    elim c.then-is_empty.branch [
      | then-is_empty-via-then-is_empty w ↦ number-empty _ (grind (arith, nat_tests, c.is_empty.ensures, w.if-is_empty.true))
      | then-is_empty-via-else-is_empty+then-self-gt5 w ↦ number-long _ w.if-self-gt5.true
    ]

pub returns-then-not-is_ascii_digit : goal.returns-then-not-is_ascii_digit
returns-then-not-is_ascii_digit c = number_other _ _ _ c.loop-b.invariant c.loop-b-test.true (sym c.is_ascii_digit.ensures.value ∙ c.if-not-is_ascii_digit.true)

pub loop-b-preserved : goal.loop-b-preserved
loop-b-preserved c =
    rw c.from.ensures
    (read_more _ _ _ c.loop-b.invariant c.loop-b-test.true (sym c.is_ascii_digit.ensures.value ∙ c.if-not-is_ascii_digit.false))

pub returns : goal.returns
returns c = c.ok.ensures.value ∙ number-whole _ _ _ c.loop-b.invariant c.loop-b-test.false _ c.try_from.ensures (λ e. grind (arith, nat_tests, c.is_empty.ensures, c.if-is_empty.false)) c.if-self-gt5.false
