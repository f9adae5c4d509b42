-- `counting::count::count_clusters` meets its contract: before each turn the clusters from r on are closed and climbed, and no branch of a lower one is marked.
-- Assumes nothing.
use Rattle.std.proofs.Common.{◌≡◌, ◌<◌, ◌+◌, ◌-◌, length, rules, arith}
use Rattle.clusters.specs.Positions.{lo_is, hi_is}
use Rattle.counting.specs.CountStep.{closable}
use Rattle.counting.specs.CountArrays.{counted_none, room_of, unmarked_branches, unmarked_less, hung-above, branch_of, counted-turn, counted_root}
use Rattle.counting.proofs.count.count_clusters.Goals as goal

pub loop-r-init : goal.loop-r-init
loop-r-init g c =
    record {
      counted = counted_none _ _ _ _ c.requires.ready _ _ _;
      unmarked = λ j p k h. c.requires.none_marked j p;
    }

pub close-x-requires : goal.close-x-requires
close-x-requires g c =
    let a = c.args in
    let l = c.loop-r in
    let r = l.r - 1 in
    let ready = c.requires.ready in
    let inside : r < a.c.now.n = omega arith in
    let back : r + 1 ≡ l.r = omega arith in
    let room = room_of _ _ _ _ ready _ _ _ r inside (rw (← back) at l.invariant.counted) in
    let none_cut = unmarked_branches _ _ _ _ ready _ r (rw (← back) at l.invariant.unmarked) in
    let above = hung-above _ _ _ _ ready r inside in
    -- the sizes of what is lent, then the clauses
    (search rules, (search rules, (search rules, (search rules, (room, (none_cut, ((inside, above), c.requires.none_hopeless r inside)))))))

pub climb-y-requires-clause-branch : goal.climb-y-requires-clause-branch
climb-y-requires-clause-branch g c =
    let a = c.args in
    let r = c.loop-r.r - 1 in
    let stored : r < length a.c.now.cuttable = omega arith in
    let lo = lo_is a.c.now.cuttable r _ c.in-Some.is stored in
    let hi = hi_is a.c.now.cuttable r _ c.in-Some.is stored in
    let positive = c.in-Some.ends.positive in
    rw (lo, hi) at (branch_of _ _ _ _ c.requires.ready r (omega arith) (omega (arith, lo, positive)))

pub climb-y-requires-clause-closable : goal.climb-y-requires-clause-closable
climb-y-requires-clause-closable g c =
    let a = c.args in
    let l = c.loop-r in
    let r = l.r - 1 in
    let inside : r < a.c.now.n = omega arith in
    let back : r + 1 ≡ l.r = omega arith in
    let room = room_of _ _ _ _ c.requires.ready _ _ _ r inside (rw (← back) at l.invariant.counted) in
    closable _ _ _ _ _ _ _ _ _ _ _ room c.close-x.ensures.closed

pub loop-r-preserved-in-Some : goal.loop-r-preserved-in-Some
loop-r-preserved-in-Some g c =
    let a = c.args in
    let l = c.loop-r in
    let r = l.r - 1 in
    let ready = c.requires.ready in
    let inside : r < a.c.now.n = omega arith in
    let back : r + 1 ≡ l.r = omega arith in
    let stored : r < length a.c.now.cuttable = omega arith in
    let lo = lo_is a.c.now.cuttable r _ c.in-Some.is stored in
    let hi = hi_is a.c.now.cuttable r _ c.in-Some.is stored in
    let positive = c.in-Some.ends.positive in
    record {
      counted =
          rw (c.has_any.ensures, c.any_weight.ensures)
          (counted-turn _ _ _ _ ready _ r inside _ _ _ _ _ c.close-x.ensures
          (record { climbed = λ p. rw (lo, hi) c.climb-y.ensures; none = λ z. absurd (omega (arith, lo, positive)) })
          (record { fewest = omega arith; any_ok = omega arith; any_weight = omega arith; near = omega arith; count = omega arith; lightest = omega arith; ungated = omega arith })
          (rw (← back) at l.invariant.counted));
      unmarked = unmarked_less _ _ _ _ ready _ _ r (rw (← back) at l.invariant.unmarked) c.close-x.ensures.others;
    }

pub loop-r-preserved : goal.loop-r-preserved
loop-r-preserved g c =
    let a = c.args in
    let l = c.loop-r in
    let r = l.r - 1 in
    let ready = c.requires.ready in
    let inside : r < a.c.now.n = omega arith in
    let back : r + 1 ≡ l.r = omega arith in
    let stored : r < length a.c.now.cuttable = omega arith in
    record {
      counted =
          rw (c.has_any.ensures, c.any_weight.ensures)
          (counted_root _ _ _ _ ready _ r inside _ _ _ _ c.close-x.ensures
          (omega arith) (omega arith) (omega arith) (omega arith) (rw (← back) at l.invariant.counted) (lo_is a.c.now.cuttable r _ c.in_default.is stored));
      unmarked = unmarked_less _ _ _ _ ready _ _ r (rw (← back) at l.invariant.unmarked) c.close-x.ensures.others;
    }
