-- `def::pins::join_pins` meets its contract. The invariant: no pin below `k` is refused, and each node has the flags of the pins below `k`.
-- Assumes nothing.
use mathlib.Core.Path.{◌≡◌}
use Rattle.net.specs.Refusal.{none, first_of}
use Rattle.routes.specs.Nodes.{route_nodes}
use Rattle.def.specs.Pins.{pin_refusal}
use Rattle.def.specs.Joining.{Joined}
use Rattle.def.proofs.pins.join_pins.Given as goal

abbrev pub invariant-loop-k : goal.invariant-loop-k
invariant-loop-k l =
    (none ≡ first_of l.k (λ j. pin_refusal (route_nodes l.reader.text.now l.reader.place) l.pins j)) × Joined (route_nodes l.reader.text.now l.reader.place) l.pins l.k l.flags
