-- `counting::count::total_points` meets its contract: the sum so far is that of the clusters passed.
-- Assumes nothing.
use Rattle.std.proofs.Common.{◌<◌, not, length, sym, ◌∙◌, ap, arith}
use Rattle.clusters.specs.Positions.{los, zero_at, positive_at}
use Rattle.counting.specs.CountTotal.{roots-none, roots-more, roots-same, roots-room}
use Rattle.counting.proofs.count.total_points.Goals as goal
use Rattle.counting.proofs.count.total_points.Goals.{then-is_none, else-is_none}

pub loop-r-init : goal.loop-r-init
loop-r-init g c = sym (roots-none _ _)

pub overflow_add-sum : goal.overflow_add-sum
overflow_add-sum g c =
    let a = c.args in
    omega (arith, roots-room (los a.c.now.cuttable) a.fewest.now c.loop-r.r a.c.now.n (omega arith) (zero_at (a.c.now.cuttable) c.loop-r.r _ (omega arith) (c.is_none.ensures ∙ ap not c.if-is_none.true)))

pub loop-r-preserved : goal.loop-r-preserved
loop-r-preserved g c =
    let a = c.args in
    let l = c.loop-r in
    let stored : l.r < length a.c.now.cuttable = omega arith in
    elim c.if-is_none.branch [
      | then-is_none w ↦ omega (arith, roots-more (los a.c.now.cuttable) a.fewest.now l.r (zero_at a.c.now.cuttable l.r _ stored (c.is_none.ensures ∙ ap not w.if-is_none.true)), w.sum-is)
      | else-is_none w ↦ omega (arith, roots-same (los a.c.now.cuttable) a.fewest.now l.r (positive_at a.c.now.cuttable l.r _ stored (c.is_none.ensures ∙ ap not w.if-is_none.false)), w.sum-is)
    ]
