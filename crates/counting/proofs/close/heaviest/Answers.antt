-- `counting::close::heaviest` meets its contract: what holds of the branches passed holds of one more.
-- Assumes nothing.
use Rattle.std.proofs.Common.{refl, sym, ◌∙◌, arith}
use Rattle.counting.specs.CloseSums.{heaviest_yes, heaviest_no}
use Rattle.counting.proofs.close.heaviest.Goals as goal
use Rattle.counting.proofs.close.heaviest.Goals.{then-heavier, else-heavier}

pub loop-j-preserved : goal.loop-j-preserved
loop-j-preserved g c =
    let i = c.loop-j.invariant in
    elim c.if-heavier.branch [
      | then-heavier w ↦ rw (w.at-is, w.weight-is) (record { weight_is = refl; inside = omega arith; heaviest = heaviest_yes _ _ _ _ _ _ _ _ i.heaviest (sym c.heavier.ensures ∙ w.if-heavier.true) })
      | else-heavier w ↦ rw (w.at-is, w.weight-is) (record { weight_is = i.weight_is; inside = i.inside; heaviest = heaviest_no _ _ _ _ _ _ _ _ i.heaviest (sym c.heavier.ensures ∙ w.if-heavier.false) })
    ]
