-- `counting::close::cut_heaviest` meets its contract: the branches cut so far are the heaviest, and the weight left falls with each.
-- Assumes nothing.
use Rattle.std.proofs.Common.{arith}
use Rattle.counting.specs.CloseCutting.{cutting_start, cutting_more, cutting_step, cutting_part}
use Rattle.counting.proofs.close.cut_heaviest.Goals as goal

pub loop-left-init : goal.loop-left-init
loop-left-init g c = record { cutting = cutting_start _ _ _ _ _ _ _ _ _ c.requires.none_cut (omega arith); weight = omega arith }

pub unreachable-requires : goal.unreachable-requires
unreachable-requires g c =
    let m = cutting_more _ _ _ _ _ c.loop-left.invariant.cutting c.in_default.ensures.heaviest c.requires.fixed_le_limit.0 c.loop-left-test.true in
    omega (arith, m.0)

pub overflow_sub-left : goal.overflow_sub-left
overflow_sub-left g c =
    let m = cutting_more _ _ _ _ _ c.loop-left.invariant.cutting c.in-Some.ensures.heaviest c.requires.fixed_le_limit.0 c.loop-left-test.true in
    cutting_part _ _ _ _ _ c.loop-left.invariant.cutting m.1 (omega (arith, m.1.inside, c.loop-left.invariant.cutting.long))

pub loop-left-smaller : goal.loop-left-smaller
loop-left-smaller g c =
    let m = cutting_more _ _ _ _ _ c.loop-left.invariant.cutting c.in-Some.ensures.heaviest c.requires.fixed_le_limit.0 c.loop-left-test.true in
    omega (arith, m.0)

pub loop-left-preserved : goal.loop-left-preserved
loop-left-preserved g c =
    let m = cutting_more _ _ _ _ _ c.loop-left.invariant.cutting c.in-Some.ensures.heaviest c.requires.fixed_le_limit.0 c.loop-left-test.true in
    record {
      cutting = cutting_step _ _ _ _ _ c.loop-left.invariant.cutting c.in-Some.ensures.heaviest m.1 (omega (arith, m.1.inside, c.loop-left.invariant.cutting.long)) c.loop-left-test.true;
      weight = omega (arith, m.0);
    }
