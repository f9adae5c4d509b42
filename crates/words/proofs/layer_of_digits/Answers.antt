-- `words::layer_of_digits` meets its contract.
-- Assumes nothing.
use native.Mathlib.Omega.{arith}
use Rattle.words.specs.Reading.{digits-one, digits-two}
use Rattle.words.proofs.layer_of_digits.Goals as goal

pub returns-in-49-to-57 : goal.returns-in-49-to-57
returns-in-49-to-57 c = digits-one _ (omega arith) (omega arith) (omega arith)

pub returns-in-49 : goal.returns-in-49
returns-in-49 c = digits-two _ (omega arith) (omega arith) (omega arith) (omega arith)
