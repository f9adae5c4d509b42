-- Laws of the sections as they are written: their lengths.
-- Assumes nothing.
use Rattle.std.specs.Prelude.{ℕ, ◌-◌, ◌*◌, ◌≡◌, ◌+◌, refl, List, length, get_or}
use Rattle.laws.specs.Gathers.{length-records}
use Rattle.net.specs.Layout.{node_bytes, wire_bytes}
use Rattle.routes.specs.declared.Node.{Node}
use Rattle.routes.specs.Nodes.{node_at}
use Rattle.def.specs.Sections.{wire_record, wire_section}
use Rattle.def.specs.Written.{flagged_node, flagged_nodes}

pub length-nodes : (nodes : List Node) (flags : List ℕ) → length (flagged_nodes nodes flags) ≡ node_bytes * length nodes
length-nodes nodes flags = length-records node_bytes (λ i. flagged_node (node_at nodes i) (get_or flags i 0)) (λ i. refl) (length nodes)

pub length-wires : (nodes : List Node) → length (wire_section nodes) ≡ wire_bytes * (length nodes - 1)
unfolding wire_section
length-wires nodes = length-records wire_bytes (λ i. wire_record (node_at nodes (i + 1))) (λ i. refl) (length nodes - 1)
