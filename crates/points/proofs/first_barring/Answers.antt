-- `points::first_barring` meets its contract. Assumes nothing.
use Rattle.std.proofs.Common.{◌≡◌, ◌∙◌, sym, arith}
use borrow.Author.Count.{below_more}
use Rattle.net.specs.Layout.{newest}
use Rattle.points.specs.Lines.{point_on, barred_at, bars, IsObstacle, bars_is, first-none}
use Rattle.points.proofs.first_barring.Goals.{After-bars}
use Rattle.points.proofs.first_barring.Goals as goal

is_obstacle : (c : After-bars) → IsObstacle newest c.args.obstacles.now c.loop-k.k c.obstacle_at-obstacle.result
is_obstacle c = let e = c.obstacle_at-obstacle.ensures in record { x1 = e.x1; y1 = e.y1; x2 = e.x2; y2 = e.y2; layer = e.layer }

judged : (c : After-bars) → bars newest 0 c.args.obstacles.now c.args.line.layer c.loop-k.k (point_on c.args.line c.args.t).x (point_on c.args.line c.args.t).y ≡ c.bars.result
judged c = let a = c.args in sym (bars_is (is_obstacle c) a.line.layer (point_on a.line a.t)) ∙ sym (rw c.at-p.ensures at c.bars.ensures)

pub returns-then-bars : goal.returns-then-bars
returns-then-bars c =
    let after = (goal.at.returns-then-bars c).After-bars in
    record { k = c.loop-k.k; inside = omega arith; is = is_obstacle after; barring = judged after ∙ c.if-bars.true }

pub loop-k-preserved : goal.loop-k-preserved
loop-k-preserved c = below_more _ _ c.loop-k.invariant (judged (goal.at.loop-k-preserved c).After-bars ∙ c.if-bars.false)

pub returns : goal.returns
unfolding barred_at
returns c =
    let a = c.args in
    first-none _ c.loop-k.k (λ k. bars newest 0 a.obstacles.now a.line.layer k (point_on a.line a.t).x (point_on a.line a.t).y) c.loop-k.invariant (omega arith)
