-- `clusters::roots::find_leaders` meets its contract: below i the array has what nodes lead to. Assumes nothing.
use Rattle.std.proofs.Common.{ℕ, ◌<◌, ◌≡◌, Bool, cond, get_or}
use Rattle.net.specs.Net.{wire_parent}
use Rattle.clusters.proofs.roots.find_leaders.Given as goal

abbrev pub invariant-loop-i : goal.invariant-loop-i
invariant-loop-i g l = (j : ℕ) → j < l.i → (b : Bool) × goal.F-post g l.joined j b × (get_or l.leader j 0 ≡ cond b (get_or l.leader (wire_parent l.wires j) 0) j)
