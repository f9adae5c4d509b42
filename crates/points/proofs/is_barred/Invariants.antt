-- `points::is_barred` meets its contract. The invariant: no obstacle below `k` bars the point. Assumes nothing.
use Rattle.std.proofs.Common.{ℕ, ◌<◌, ◌≡◌, false}
use Rattle.points.specs.Lines.{point_on, bars}
use Rattle.points.proofs.is_barred.Given as goal

abbrev pub invariant-loop-k : goal.invariant-loop-k
invariant-loop-k l = (j : ℕ) → j < l.k → bars l.version l.clearance l.obstacles l.line.layer j (point_on l.line l.t).x (point_on l.line l.t).y ≡ false
