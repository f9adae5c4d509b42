-- The sections of the net that a route and its pins describe. Document 02, routes from DEF.
-- Assumes nothing.
use Rattle.std.specs.Prelude.{ℕ, ◌+◌, ◌-◌, List, [], ◌∷◌, ◌++◌, length}
use Rattle.laws.specs.Bytes.{bytes16}
use Rattle.laws.specs.Gather.{gather}
use Rattle.routes.specs.declared.Node.{Node}
use Rattle.routes.specs.Nodes.{node_at}
use Rattle.def.specs.Pins.{pin_count, flags_of}

-- a node: x, y, flags
unfoldable pub node_record : List ℕ → Node → List ℕ
node_record pins n = bytes16 n.x ++ bytes16 n.y ++ (flags_of pins n (pin_count pins) ∷ [])

unfoldable pub node_section : List Node → List ℕ → List ℕ
node_section nodes pins = gather (length nodes) (λ i. node_record pins (node_at nodes i))

-- a wire, from wire 1 on: parent, layer, factor; all factors are 1
abbrev pub wire_record : Node → List ℕ
wire_record n = n.parent ∷ n.wire ∷ 1 ∷ []

unfoldable pub wire_section : List Node → List ℕ
wire_section nodes = gather (length nodes - 1) (λ i. wire_record (node_at nodes (i + 1)))
