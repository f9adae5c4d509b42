-- Widths and limits of document 01's files, each stated once.
-- Assumes nothing.
use Rattle.std.specs.Prelude.{ℕ, cond, eqb}

-- the newest version of net files
abbrev pub newest : ℕ
newest = 2

-- bytes of the head: version, pair count and three pairs
abbrev pub head_bytes : ℕ
head_bytes = 28

-- bytes of a node, a wire, an obstacle (from version 2 on it ends with a layer), a jumper list entry and a piece record
abbrev pub node_bytes : ℕ
node_bytes = 5

abbrev pub wire_bytes : ℕ
wire_bytes = 3

abbrev pub obstacle_bytes : ℕ → ℕ
obstacle_bytes version = cond (eqb version 1) 8 9

abbrev pub entry_bytes : ℕ
entry_bytes = 3

abbrev pub record_bytes : ℕ
record_bytes = 12

-- the most nodes, obstacles and layers (or stages), and the greatest flags
abbrev pub most_nodes : ℕ
most_nodes = 256

abbrev pub most_obstacles : ℕ
most_obstacles = 256

abbrev pub most_layers : ℕ
most_layers = 16

abbrev pub most_flags : ℕ
most_flags = 3
