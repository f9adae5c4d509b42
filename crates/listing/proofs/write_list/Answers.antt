-- `listing::write_list` meets its contract: below r every wire's entries are written, one behind the other.
-- Assumes nothing.
use Rattle.std.proofs.Common.{ℕ, ◌*◌, ◌+◌, ◌<◌, ◌≤◌, ◌∙◌, List, false, length, get_or, refl, sym, ap, arith, rules}
use Rattle.std.proofs.lemmas.List.{length-map}
use Rattle.laws.specs.Lists.{over, over_lent}
use Rattle.laws.specs.Sum.{sum}
use Rattle.laws.specs.Gather.{gather}
use Rattle.net.specs.Layout.{entry_bytes}
use Rattle.clusters.specs.Positions.{his, position_of, positions, position_is}
use Rattle.listing.specs.Listing.{list_of, wire_count, wire_entries}
use Rattle.listing.specs.ListingWriting.{length-list_of, list_of-next, count_of-next, room_at, high_count, high_entries, high_short}
use Rattle.listing.proofs.write_list.Goals as goal

room : (c : goal.In-loop-r) →
    entry_bytes * c.loop-r.count + entry_bytes * wire_count (get_or (positions c.args.near.now) c.loop-r.r 0) (get_or c.args.cut_high.now c.loop-r.r false) ≤ length c.loop-r.out
room c =
    let a = c.args in
    let l = c.loop-r in
    room_at (positions a.near.now) a.cut_high.now a.n l.r l.count (length l.out) c.loop-r-test.true l.invariant.0 (omega (arith, l.auto.out))

pub loop-r-init : goal.loop-r-init
unfolding sum gather
loop-r-init c = (refl, refl)

pub overflow_mul-rest : goal.overflow_mul-rest
overflow_mul-rest c = record { fits = omega (arith, room c) }

pub slice_bounds-rest-count : goal.slice_bounds-rest-count
slice_bounds-rest-count c = omega (arith, room c)

pub slice_bounds-rest-start : goal.slice_bounds-rest-start
slice_bounds-rest-start c = let m = room c in search rules

pub write_wire_entries-count-requires : goal.write_wire_entries-count-requires
write_wire_entries-count-requires c =
    let a = c.args in
    let l = c.loop-r in
    let q = c.requires.writable in
    let m = room_at (positions a.near.now) a.cut_high.now a.n l.r l.count (length l.out) c.loop-r-test.true l.invariant.0 (omega (arith, l.auto.out)) in
    let stored : l.r < length a.near.now = omega (arith, q.nears, length-map a.near.now position_of) in
    rw (← position_is a.near.now l.r _ (sym c.index-near-r.is) stored, c.then_some-high.ensures, c.highest.ensures, high_count (get_or (positions a.near.now) l.r 0) (get_or (his a.cuttable.now) l.r 0) (get_or a.cut_high.now l.r false))
    (q.near_short l.r c.loop-r-test.true, high_short _ _ (q.hi_short l.r c.loop-r-test.true), search rules)

pub loop-r-preserved : goal.loop-r-preserved
loop-r-preserved c =
    let a = c.args in
    let l = c.loop-r in
    let m = room_at (positions a.near.now) a.cut_high.now a.n l.r l.count (length l.out) c.loop-r-test.true l.invariant.0 (omega (arith, l.auto.out)) in
    let q = c.requires.writable in
    let stored : l.r < length a.near.now = omega (arith, q.nears, length-map a.near.now position_of) in
    let hi = his a.cuttable.now in
    let near = positions a.near.now in
    let cut_high = a.cut_high.now in
    let e = rw (← position_is a.near.now l.r _ (sym c.index-near-r.is) stored, c.then_some-high.ensures, c.highest.ensures, high_count (get_or near l.r 0) (get_or hi l.r 0) (get_or cut_high l.r false), high_entries l.r (get_or near l.r 0) (get_or hi l.r 0) (get_or cut_high l.r false)) at c.write_wire_entries-count.ensures in
    let next = wire_entries l.r (get_or near l.r 0) (get_or hi l.r 0) (get_or cut_high l.r false) in
    let k = length-list_of hi near cut_high l.r in
    let n = count_of-next hi near cut_high l.r in (
      omega arith,
      over_lent (list_of l.r hi near cut_high) next a.out.now _ _ _ l.invariant.1 (omega arith) (omega arith) e.1
          ∙ ap (λ (x : List ℕ). over x a.out.now) (sym (list_of-next hi near cut_high l.r)),
    )
