-- `words::word_from` meets its contract.
-- Assumes nothing.
use mathlib.Core.Bool.{not}
use mathlib.Core.Path.{◌≡◌, ◌∙◌}
use Rattle.std.specs.List.{prefix_len}
use Rattle.std.proofs.Common.{rules, tests}
use Rattle.std.proofs.lemmas.Iterator.{YieldsList-from_slice}
use Rattle.std.proofs.lemmas.Iterator.Search.{YieldsList-from_take_while}
use Rattle.std.proofs.lemmas.Iterator.Consumers.{count_from_yields_List}
use Rattle.std.proofs.lemmas.List.Folds.{length-prefix_len}
use Rattle.words.specs.Words.{blank}
use Rattle.words.specs.Reading.{part, at-is, next-is, bytes-is}
use Rattle.words.proofs.word_from.Goals as goal

blanks : (c : goal.After-count-length) → c.count-blanks.result ≡ prefix_len blank (part c.args.text.now c.min.result)
blanks c =
    count_from_yields_List _ _ c.count-blanks.ensures.ran
    (YieldsList-from_take_while _ blank (YieldsList-from_slice (part c.args.text.now c.min.result) (cc)) c.take_while.ensures.closure c.take_while.ensures.done (λ x r q k. search (rules, tests)))
    ∙ length-prefix_len blank _

others : (c : goal.After-count-length) → c.count-length.result ≡ prefix_len (λ b. not (blank b)) (part (part c.args.text.now c.min.result) c.count-blanks.result)
others c =
    count_from_yields_List _ _ c.count-length.ensures.ran
    (YieldsList-from_take_while _ (λ b. not (blank b)) (YieldsList-from_slice (part (part c.args.text.now c.min.result) c.count-blanks.result) (cc)) c.take_while-2.ensures.closure c.take_while-2.ensures.done (λ x r q k. search (rules, tests)))
    ∙ length-prefix_len (λ b. not (blank b)) _

pub returns-clause-at : goal.returns-clause-at
returns-clause-at c = at-is _ _ _ _ _ c.min.ensures (blanks c) (others c)

pub returns-clause-next : goal.returns-clause-next
returns-clause-next c = next-is _ _ _ _ _ c.min.ensures (blanks c) (others c)

pub returns-clause-bytes : goal.returns-clause-bytes
returns-clause-bytes c = bytes-is _ _ _ _ _ c.min.ensures (blanks c) (others c)
