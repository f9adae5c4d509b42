-- The sections that are written from the table are those of the route's nodes, and how long they are.
-- Assumes nothing.
use Rattle.std.specs.Prelude.{ℕ, ◌+◌, ◌-◌, ◌*◌, ◌<◌, ◌≤◌, ◌≡◌, List, length}
use Rattle.std.proofs.Math.Path.{refl}
use native.Mathlib.Omega.{arith}
use Rattle.laws.specs.Gathers.{gather_ap, length-records}
use Rattle.net.specs.Layout.{node_bytes, wire_bytes, most_nodes}
use Rattle.net.specs.Net.{node_count}
use Rattle.net.specs.Refusal.{refusal, net_refusal}
use Rattle.net.specs.First.{first_of_lem}
use Rattle.net.specs.Reading.{sections_many}
use Rattle.routes.specs.declared.Node.{Node}
use Rattle.routes.specs.Nodes.{node_at}
use Rattle.def.specs.Pins.{pin_count}
use Rattle.def.specs.Sections.{node_record, node_section, wire_record, wire_section}
use Rattle.def.specs.Written.{flagged_nodes}
use Rattle.def.specs.Joining.{Joined}

-- the nodes with the flags joined for them
pub nodes-written : (nodes : List Node) (pins flags : List ℕ) → length nodes ≤ most_nodes → Joined nodes pins (pin_count pins) flags → flagged_nodes nodes flags ≡ node_section nodes pins
unfolding node_section node_record
nodes-written nodes pins flags few j = gather_ap (length nodes) (λ i l. rw (j.each few i l))

-- how long they are
module _ (nodes : List Node) (pins : List ℕ) where
  nodes_length : length (node_section nodes pins) ≡ node_bytes * length nodes
  unfolding node_section node_record
  nodes_length = length-records node_bytes (λ i. node_record pins (node_at nodes i)) (λ i. refl) (length nodes)

  pub nodes-count : node_count (node_section nodes pins) ≡ length nodes
  nodes-count = let n = nodes_length in omega arith

  pub wires_length : length (wire_section nodes) ≡ wire_bytes * (node_count (node_section nodes pins) - 1)
  unfolding wire_section
  wires_length = rw nodes-count (length-records wire_bytes (λ i. wire_record (node_at nodes (i + 1))) (λ i. refl) (length nodes - 1))

  -- more nodes than a net may have: 4
  pub too_many : (ws os : List ℕ) → most_nodes < length nodes → refusal 4 0 ≡ net_refusal 1 (node_section nodes pins) ws os
  unfolding net_refusal
  too_many ws os h =
      let n = nodes_length in
      first_of_lem _ _ (sections_many 1 (node_section nodes pins) ws os (omega arith) (λ z. omega arith) (omega arith)) refl
