-- `net::read::joined_flags` meets its contract. The invariant: the flags of no node below `i` are more.
-- Assumes nothing.
use Prim.Native.Nat.{ℕ, ◌<◌, ◌≤◌}
use Rattle.net.specs.Net.{node_flags}
use Rattle.net.proofs.read.joined_flags.Given as goal

abbrev pub invariant-loop-i : goal.invariant-loop-i
invariant-loop-i l = (j : ℕ) → j < l.i → node_flags l.nodes j ≤ l.flags
