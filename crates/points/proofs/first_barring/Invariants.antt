-- `points::first_barring` meets its contract. Assumes nothing.
use Rattle.std.proofs.Common.{ℕ, ◌<◌, ◌≡◌, false}
use Rattle.net.specs.Layout.{newest}
use Rattle.points.specs.Lines.{point_on, bars}
use Rattle.points.proofs.first_barring.Given as goal

abbrev pub invariant-loop-k : goal.invariant-loop-k
invariant-loop-k l = (j : ℕ) → j < l.k → bars newest 0 l.obstacles l.line.layer j (point_on l.line l.t).x (point_on l.line l.t).y ≡ false
