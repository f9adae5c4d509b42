-- `net::read::joined_flags` meets its contract.
-- Assumes nothing.
use Rattle.std.proofs.Common.{arith, eq-or-lt_of_le}
use Rattle.std.proofs.Math.Logic.{⊎_elim}
use Rattle.std.proofs.lemmas.Nat.{le_or_l, le_or_r}
use mathlib.Core.Path.{ap}
use Prim.Native.Nat.{◌<◌}
use Rattle.net.specs.Net.{node_flags}
use Rattle.net.proofs.read.joined_flags.Goals as goal

pub loop-i-init : goal.loop-i-init
loop-i-init c j h = omega (arith, h)

pub loop-i-preserved : goal.loop-i-preserved
loop-i-preserved c j h =
    let f = c.loop-i.flags in
    let g = c.node_at-flags.result.flags in
    ⊎_elim
    (λ e. omega (arith, ap (node_flags c.args.nodes.now) e, c.node_at-flags.ensures.flags, le_or_r f g))
    (λ (l : j < c.loop-i.i). omega (arith, c.loop-i.invariant j l, le_or_l f g))
    (eq-or-lt_of_le (omega (arith, h)))

pub returns : goal.returns
returns c i h = c.loop-i.invariant i (omega (arith, h))
