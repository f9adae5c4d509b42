-- Bounds of lengths and weights that follow from the limits of document 01's files.
-- Assumes nothing.
use Rattle.std.specs.Prelude.{ℕ, ◌*◌, ◌^◌}
use Rattle.net.specs.Layout.{most_nodes}

-- above each coordinate, length and position
abbrev pub length_bound : ℕ
length_bound = 65536

-- above each factor
abbrev pub factor_bound : ℕ
factor_bound = 256

-- above the weight of a wire
abbrev pub wire_weight_bound : ℕ
wire_weight_bound = length_bound * factor_bound

-- above the weight of all wire of a net
abbrev pub net_weight_bound : ℕ
net_weight_bound = most_nodes * wire_weight_bound

-- above each sum of weights that repair makes
abbrev pub weight_bound : ℕ
weight_bound = 2 ^ 48
