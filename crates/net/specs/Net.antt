-- Document 01, "The net": nodes, wires, obstacles, points; document 02: an obstacle's layer (CR 2), clearance (CR 4). A net is its version and its three
-- sections, as bytes.
-- Assumes nothing.
use Rattle.std.specs.Prelude.{ℕ, ◌+◌, ◌-◌, ◌*◌, ◌/◌, ◌%◌, Bool, ◌&&◌, cond, List, length, get_or, leb, ltb, eqb}
use Rattle.laws.specs.Sum.{any}
use Rattle.laws.specs.Bytes.{le16}
use Rattle.net.specs.Layout.{node_bytes, wire_bytes, obstacle_bytes, most_layers}

-- the number of nodes; they are numbered from 0
abbrev pub node_count : List ℕ → ℕ
node_count nodes = length nodes / node_bytes

-- a node: x and y, then flags
abbrev pub node_x : List ℕ → ℕ → ℕ
node_x nodes i = le16 nodes (node_bytes * i)

abbrev pub node_y : List ℕ → ℕ → ℕ
node_y nodes i = le16 nodes (node_bytes * i + 2)

abbrev pub node_flags : List ℕ → ℕ → ℕ
node_flags nodes i = get_or nodes (node_bytes * i + 4) 0

-- flags: bit 0 gate, bit 1 source
abbrev pub is_gate : ℕ → Bool
is_gate flags = eqb (flags % 2) 1

abbrev pub is_source : ℕ → Bool
is_source flags = eqb (flags / 2 % 2) 1

-- wire i, from wire 1 on: the parent of node i, the wire's layer and factor
abbrev pub wire_parent : List ℕ → ℕ → ℕ
wire_parent wires i = get_or wires (wire_bytes * (i - 1)) 0

abbrev pub wire_layer : List ℕ → ℕ → ℕ
wire_layer wires i = get_or wires (wire_bytes * (i - 1) + 1) 0

abbrev pub wire_factor : List ℕ → ℕ → ℕ
wire_factor wires i = get_or wires (wire_bytes * (i - 1) + 2) 0

-- the distance of two coordinates
abbrev pub distance : ℕ → ℕ → ℕ
distance a b = (a - b) + (b - a)

-- the length of wire i: the distance in steps of its ends, which share x or y
unfoldable pub wire_length : List ℕ → List ℕ → ℕ → ℕ
wire_length nodes wires i =
    distance (node_x nodes i) (node_x nodes (wire_parent wires i)) + distance (node_y nodes i) (node_y nodes (wire_parent wires i))

-- the coordinate t steps from one towards another
abbrev pub toward : ℕ → ℕ → ℕ → ℕ
toward from to t = cond (ltb from to) (from + t) (cond (ltb to from) (from - t) from)

-- the point at position t of wire i: t steps from node i towards its parent
unfoldable pub point_x : List ℕ → List ℕ → ℕ → ℕ → ℕ
point_x nodes wires i t = toward (node_x nodes i) (node_x nodes (wire_parent wires i)) t

unfoldable pub point_y : List ℕ → List ℕ → ℕ → ℕ → ℕ
point_y nodes wires i t = toward (node_y nodes i) (node_y nodes (wire_parent wires i)) t

-- the number of obstacles; they are numbered from 0
abbrev pub obstacle_count : ℕ → List ℕ → ℕ
obstacle_count version obstacles = length obstacles / obstacle_bytes version

-- an obstacle: x1, y1, x2, y2
abbrev pub obstacle_x1 : ℕ → List ℕ → ℕ → ℕ
obstacle_x1 version obstacles k = le16 obstacles (obstacle_bytes version * k)

abbrev pub obstacle_y1 : ℕ → List ℕ → ℕ → ℕ
obstacle_y1 version obstacles k = le16 obstacles (obstacle_bytes version * k + 2)

abbrev pub obstacle_x2 : ℕ → List ℕ → ℕ → ℕ
obstacle_x2 version obstacles k = le16 obstacles (obstacle_bytes version * k + 4)

abbrev pub obstacle_y2 : ℕ → List ℕ → ℕ → ℕ
obstacle_y2 version obstacles k = le16 obstacles (obstacle_bytes version * k + 6)

-- then its layer; version 1 obstacles read as layer 16
abbrev pub obstacle_layer : ℕ → List ℕ → ℕ → ℕ
obstacle_layer version obstacles k = cond (eqb version 1) most_layers (get_or obstacles (obstacle_bytes version * k + 8) 0)

-- the point x, y lies at most a clearance outside obstacle k in x, and at most that far outside in y
unfoldable pub near : ℕ → ℕ → List ℕ → ℕ → ℕ → ℕ → Bool
near version clearance obstacles k x y =
    leb (obstacle_x1 version obstacles k) (x + clearance) && leb x (obstacle_x2 version obstacles k + clearance)
    && (leb (obstacle_y1 version obstacles k) (y + clearance) && leb y (obstacle_y2 version obstacles k + clearance))

-- the point at position t of wire i is barred: it lies so near an obstacle, and the wire's layer is at most the obstacle's
unfoldable pub barred : ℕ → ℕ → List ℕ → List ℕ → List ℕ → ℕ → ℕ → Bool
barred version clearance nodes wires obstacles i t =
    any (obstacle_count version obstacles)
    (λ k.
    near version clearance obstacles k (point_x nodes wires i t) (point_y nodes wires i t)
    && leb (wire_layer wires i) (obstacle_layer version obstacles k))
