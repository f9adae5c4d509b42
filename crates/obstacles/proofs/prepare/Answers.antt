-- `obstacles::prepare` meets its contract: the obstacles below `k` are written.
-- Assumes nothing.
use Rattle.std.proofs.Common.{refl, arith}
use Rattle.laws.specs.Gather.{gather}
use Rattle.laws.specs.Written.{written_next}
use Rattle.net.specs.Layout.{newest, obstacle_bytes}
use Rattle.obstacles.specs.Prepared.{prepared_record}
use Rattle.obstacles.proofs.prepare.Goals as goal

pub loop-k-init : goal.loop-k-init
unfolding gather
loop-k-init c = refl

pub loop-k-preserved : goal.loop-k-preserved
loop-k-preserved c =
    let a = c.args in
    let l = c.loop-k in
    let o = c.obstacle_at.ensures in
    written_next (obstacle_bytes newest) (λ j. prepared_record a.version a.clearance a.obstacles.now j) (λ j. refl) l.k _ a.out.now _ _ refl (omega arith) l.invariant
    (rw (c.grown-obstacle.ensures, o.x1, o.y1, o.x2, o.y2, o.layer) at c.write_obstacle.ensures)
