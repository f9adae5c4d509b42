-- `net::read::nodes_refusal` meets its contract.
-- Assumes nothing.
use mathlib.Core.Path.{refl}
use native.Mathlib.Omega.{arith}
use Rattle.net.specs.Reading.{node_flags_lem, node-right}
use Rattle.net.specs.First.{first-start, first_more, first-here, first-none}
use Rattle.net.proofs.read.nodes_refusal.Goals as goal

pub returns-then-joined_flags-le-MOST_FLAGS : goal.returns-then-joined_flags-le-MOST_FLAGS
returns-then-joined_flags-le-MOST_FLAGS c = first-none _ _ (λ i h. node-right _ _ (omega (arith, c.joined_flags.ensures i h)))

pub loop-i-init : goal.loop-i-init
loop-i-init c = first-start _

pub returns-then-node_at-gt-MOST_FLAGS : goal.returns-then-node_at-gt-MOST_FLAGS
returns-then-node_at-gt-MOST_FLAGS c = first-here _ _ _ (omega arith) c.loop-i.invariant (node_flags_lem _ _ (omega arith)) refl

pub loop-i-preserved : goal.loop-i-preserved
loop-i-preserved c = first_more _ _ c.loop-i.invariant (node-right _ _ (omega arith))
