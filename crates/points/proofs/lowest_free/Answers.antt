-- `points::lowest_free` meets its contract. Assumes nothing.
use Rattle.std.proofs.Common.{ℕ, ◌<◌, ◌≤◌, ◌≡◌, true, arith}
use Rattle.net.specs.Layout.{newest}
use Rattle.points.specs.Lines.{barred_at, reaches_less, leap_up}
use Rattle.points.proofs.lowest_free.Goals as goal

leap : (c : goal.After-first_above-t) →
    (c.loop-t.t < c.first_above-t.result) × ((s : ℕ) → c.args.first ≤ s → s < c.first_above-t.result → barred_at newest 0 c.args.obstacles.now c.args.line s ≡ true)
leap c =
    leap_up c.args.obstacles.now c.args.line c.loop-t.t c.in-Some.ensures
    c.loop-t-test.true
    c.first_above-t.ensures
    c.loop-t.invariant.1

pub first_barring-requires : goal.first_barring-requires
first_barring-requires c = reaches_less c.requires.0 (omega arith)

pub loop-t-smaller : goal.loop-t-smaller
loop-t-smaller c = omega (arith, (leap c).0)

pub loop-t-preserved : goal.loop-t-preserved
loop-t-preserved c = (omega (arith, (leap c).0), (leap c).1)
