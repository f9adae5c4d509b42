-- `points::highest_free` meets its contract. Assumes nothing.
use Rattle.std.proofs.Common.{ℕ, ◌<◌, ◌≤◌, ◌≡◌, true}
use Rattle.net.specs.Layout.{newest}
use Rattle.points.specs.Lines.{barred_at}
use Rattle.points.proofs.highest_free.Given as goal

abbrev pub invariant-loop-t : goal.invariant-loop-t
invariant-loop-t l = (l.t ≤ l.last) × ((s : ℕ) → l.t < s → s ≤ l.last → barred_at newest 0 l.obstacles l.line s ≡ true)

abbrev pub decreases-loop-t : goal.decreases-loop-t
decreases-loop-t l = l.t
