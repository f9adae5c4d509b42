-- `points::is_barred` meets its contract. Assumes nothing.
use Rattle.std.proofs.Common.{◌≡◌, ◌∙◌, sym, length, eqb-true, arith}
use Rattle.std.proofs.lemmas.Bool.Decides.{nat_tests}
use native.Mathlib.Nat.{zero-div}
use borrow.Author.Count.{below_more}
use Rattle.laws.specs.Sum.{any}
use Rattle.laws.specs.Sums.{any-yes, any_none}
use Rattle.points.specs.Lines.{point_on, bars, barred_at}
use Rattle.points.proofs.is_barred.Goals.{else-is_near-via-else-is_near, else-is_near-via-then-is_near+else-line-obstacle_at}
use Rattle.points.proofs.is_barred.Goals as goal

pub returns-then-is_empty : goal.returns-then-is_empty
unfolding barred_at any
returns-then-is_empty c =
    let e : length c.args.obstacles.now ≡ 0 = eqb-true _ 0 (sym c.is_empty.ensures ∙ c.if-is_empty.true) in
    rw (e, zero-div)

pub returns-then-line-obstacle_at : goal.returns-then-line-obstacle_at
unfolding barred_at
returns-then-line-obstacle_at c =
    let a = c.args in
    let p = point_on a.line a.t in
    let n = rw c.at-p.ensures at c.is_near.ensures in
    sym (any-yes _ c.loop-k.k (λ k. bars a.version a.clearance a.obstacles.now a.line.layer k p.x p.y) (omega arith) (grind (arith, nat_tests)))

pub loop-k-preserved : goal.loop-k-preserved
loop-k-preserved c =
    let n = rw c.at-p.ensures at c.is_near.ensures in
    below_more _ _ c.loop-k.invariant
    (elim c.else-is_near.branch [
      | else-is_near-via-else-is_near w ↦ grind (arith, nat_tests)
      | else-is_near-via-then-is_near+else-line-obstacle_at w ↦ grind (arith, nat_tests)
    ])

pub returns : goal.returns
unfolding barred_at
returns c =
    let a = c.args in
    let p = point_on a.line a.t in
    sym (any_none _ (λ k. bars a.version a.clearance a.obstacles.now a.line.layer k p.x p.y) (λ j l. c.loop-k.invariant j (omega arith)))
