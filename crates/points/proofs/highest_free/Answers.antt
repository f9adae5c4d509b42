-- `points::highest_free` meets its contract. Assumes nothing.
use Rattle.std.proofs.Common.{ℕ, ◌<◌, ◌≤◌, ◌≡◌, true, arith}
use Rattle.net.specs.Layout.{newest}
use Rattle.points.specs.Lines.{barred_at, reaches_less, leap_down}
use Rattle.points.proofs.highest_free.Goals as goal

leap : (c : goal.After-last_below-t) →
    (c.last_below-t.result < c.loop-t.t) × ((s : ℕ) → c.last_below-t.result < s → s ≤ c.args.last → barred_at newest 0 c.args.obstacles.now c.args.line s ≡ true)
leap c =
    leap_down c.args.obstacles.now c.args.line c.loop-t.t c.in-Some.ensures
    c.loop-t-test.true
    c.last_below-t.ensures
    c.loop-t.invariant.1

pub first_barring-requires : goal.first_barring-requires
first_barring-requires c = reaches_less c.requires (omega arith)

pub loop-t-smaller : goal.loop-t-smaller
loop-t-smaller c = (leap c).0

pub loop-t-preserved : goal.loop-t-preserved
loop-t-preserved c = (omega (arith, (leap c).0), (leap c).1)
