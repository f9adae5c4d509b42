-- What the pass over the pins starts from and keeps: the route's table, and the flags joined so far.
-- Assumes nothing.
use Rattle.std.specs.Prelude.{ℕ, ◌<◌, ◌≤◌, ◌≡◌, cond, List, Option, Some, None, length, get_or}
use denote.Ref.{Bor}
use Rattle.std.specs.Int.Bits.{bit_or}
use Rattle.net.specs.Layout.{most_nodes}
use Rattle.paths.specs.Form.{points_of}
use Rattle.routes.specs.declared.Node.{Node}
use Rattle.routes.specs.Nodes.{node_at, stands_on, route_nodes}
use Rattle.def.specs.Pins.{pin_x, pin_y, pin_layer, pin_flags, flags_of}

-- a route was read: the number of its points, and its nodes, where a net may have so many
pub record Routed (text : List ℕ) (place p : ℕ) (nodes : Option (Bor (List Node))) : Type 0 where
  pub points : p ≡ length (points_of text place)
  pub few : (n : Bor (List Node)) → nodes ≡ Some n → (n.now ≡ route_nodes text place) × (length (route_nodes text place) ≤ most_nodes)
  pub many : nodes ≡ None → most_nodes < length (route_nodes text place)

-- each node has the flags of the first k pins, where all nodes are in the table
pub record Joined (nodes : List Node) (pins : List ℕ) (k : ℕ) (flags : List ℕ) : Type 0 where
  pub each : length nodes ≤ most_nodes → (i : ℕ) → i < length nodes → get_or flags i 0 ≡ flags_of pins (node_at nodes i) k

-- the flags of pin 0 were joined to those of its node
pub record JoinedOne (nodes : List Node) (pins flags after : List ℕ) : Type 0 where
  pub each : length nodes ≤ most_nodes → (i : ℕ) → i < length nodes →
      get_or after i 0 ≡ bit_or (get_or flags i 0) (cond (stands_on (pin_x pins 0) (pin_y pins 0) (pin_layer pins 0) (node_at nodes i)) (pin_flags pins 0) 0)
