-- `words::Word::layer` meets its contract.
-- Assumes nothing.
use Rattle.words.specs.Words.{layer_of}
use Rattle.words.proofs.Word.layer.Goals as goal

pub returns-in_err-strip_prefix : goal.returns-in_err-strip_prefix
unfolding layer_of
returns-in_err-strip_prefix c = rw c.in_err-strip_prefix.ensures.cases c.from_residual.ensures

pub returns : goal.returns
unfolding layer_of
returns c = let h = c.in_ok-strip_prefix.ensures.cases in rw (h.0, ← h.1) c.layer_of_digits.ensures
