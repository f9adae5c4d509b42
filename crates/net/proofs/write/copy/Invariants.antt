-- `net::write::copy` meets its contract. The invariant: the bytes below `i` are the source's, the others what they were.
-- Assumes nothing.
use mathlib.Core.Path.{◌≡◌}
use lib.ListN.{length, take}
use Rattle.laws.specs.Lists.{over}
use Rattle.net.proofs.write.copy.Given as goal

abbrev pub invariant-loop-i : goal.invariant-loop-i
invariant-loop-i l = (length l.out ≡ length l.initial.out) × (l.out ≡ over (take l.i l.source) l.initial.out)
