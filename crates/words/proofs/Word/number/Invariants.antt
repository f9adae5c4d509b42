-- `words::Word::number` meets its contract.
-- Assumes nothing.
use Rattle.words.specs.Reading.{ReadUpTo}
use Rattle.words.proofs.Word.number.Given as goal

abbrev pub invariant-loop-b : goal.invariant-loop-b
invariant-loop-b l = ReadUpTo l.self.bytes.now l.value l.b-index
