-- `counting::close::sum_branches` meets its contract: the sums so far are those of the branches passed.
-- Assumes nothing.
use Rattle.std.proofs.Common.{◌<◌, length, sym, ◌∙◌, arith}
use Rattle.clusters.specs.Positions.{los}
use Rattle.counting.specs.Optional.{flags, weights, flag_is, number_is}
use Rattle.counting.specs.CloseSums.{branch-none, branch_yes, branch_no, branch-room, option_none, option_clear, option_flagged, option_no, option_room}
use Rattle.counting.proofs.close.sum_branches.Goals as goal
use Rattle.counting.proofs.close.sum_branches.Goals.{then-hangs+in-Some, then-hangs+in-None, else-hangs}

pub loop-j-init : goal.loop-j-init
loop-j-init g c =
    let a = c.args in
    let above = c.requires.r_lt_n.1 in
    let z = option_none (los a.c.now.cuttable) a.c.now.host (weights a.ungated.now) (flags a.ungated.now) a.r above in
    record {
      count_is = sym (branch-none (los a.c.now.cuttable) a.c.now.host a.b.now.count a.r above);
      lightest_is = sym (branch-none (los a.c.now.cuttable) a.c.now.host a.b.now.lightest a.r above);
      free_is = sym z.1;
      gated_is = sym z.0;
      gated_few = omega arith;
    }

pub overflow_add-count : goal.overflow_add-count
overflow_add-count g c =
    let a = c.args in
    let l = c.loop-j in
    let i = l.invariant.count_is in
    let room = branch-room (los a.c.now.cuttable) a.c.now.host a.b.now.count a.r l.j a.c.now.n (omega arith) (sym c.hangs.ensures ∙ c.if-hangs.true) in
    record { fits = omega arith }

pub overflow_add-lightest : goal.overflow_add-lightest
overflow_add-lightest g c =
    let a = c.args in
    let l = c.loop-j in
    let i = l.invariant.lightest_is in
    let room = branch-room (los a.c.now.cuttable) a.c.now.host a.b.now.lightest a.r l.j a.c.now.n (omega arith) (sym c.hangs.ensures ∙ c.if-hangs.true) in
    record { fits = omega arith }

pub overflow_add-free : goal.overflow_add-free
overflow_add-free g c =
    let a = c.args in
    let l = c.loop-j in
    let i = l.invariant.free_is in
    let stored : l.j < length a.ungated.now = omega arith in
    let room = option_room (los a.c.now.cuttable) a.c.now.host (weights a.ungated.now) (flags a.ungated.now) a.r l.j a.c.now.n (omega arith) (sym c.hangs.ensures ∙ c.if-hangs.true) (flag_is a.ungated.now l.j _ c.in-Some.is stored) in
    let weight = number_is a.ungated.now l.j _ c.in-Some.is stored in
    record { fits = omega arith }

pub loop-j-preserved : goal.loop-j-preserved
loop-j-preserved g c =
    let a = c.args in
    let l = c.loop-j in
    let i = l.invariant in
    let stored : l.j < length a.ungated.now = omega arith in
    elim c.if-hangs.branch [
      | then-hangs+in-Some w ↦
          let h = sym c.hangs.ensures ∙ w.if-hangs.true in
          let z = option_flagged (los a.c.now.cuttable) a.c.now.host (weights a.ungated.now) (flags a.ungated.now) a.r l.j h (flag_is a.ungated.now l.j _ w.in-Some.is stored) in
          let weight = number_is a.ungated.now l.j _ w.in-Some.is stored in
          record {
            count_is = omega (arith, w.count-is, branch_yes (los a.c.now.cuttable) a.c.now.host a.b.now.count a.r l.j h);
            lightest_is = omega (arith, w.lightest-is, branch_yes (los a.c.now.cuttable) a.c.now.host a.b.now.lightest a.r l.j h);
            free_is = omega (arith, w.free-is, z.1, weight);
            gated_is = omega (arith, w.gated-is, z.0);
            gated_few = omega (arith, w.gated-is);
          }
      | then-hangs+in-None w ↦
          let h = sym c.hangs.ensures ∙ w.if-hangs.true in
          let z = option_clear (los a.c.now.cuttable) a.c.now.host (weights a.ungated.now) (flags a.ungated.now) a.r l.j h (flag_is a.ungated.now l.j _ w.in-None.is stored) in
          record {
            count_is = omega (arith, w.count-is, branch_yes (los a.c.now.cuttable) a.c.now.host a.b.now.count a.r l.j h);
            lightest_is = omega (arith, w.lightest-is, branch_yes (los a.c.now.cuttable) a.c.now.host a.b.now.lightest a.r l.j h);
            free_is = omega (arith, w.free-is, z.1);
            gated_is = omega (arith, w.gated-is, z.0);
            gated_few = omega (arith, w.gated-is);
          }
      | else-hangs w ↦
          let h = sym c.hangs.ensures ∙ w.if-hangs.false in
          let z = option_no (los a.c.now.cuttable) a.c.now.host (weights a.ungated.now) (flags a.ungated.now) a.r l.j h in
          record {
            count_is = omega (arith, w.count-is, branch_no (los a.c.now.cuttable) a.c.now.host a.b.now.count a.r l.j h);
            lightest_is = omega (arith, w.lightest-is, branch_no (los a.c.now.cuttable) a.c.now.host a.b.now.lightest a.r l.j h);
            free_is = omega (arith, w.free-is, z.1);
            gated_is = omega (arith, w.gated-is, z.0);
            gated_few = omega (arith, w.gated-is);
          }
    ]
