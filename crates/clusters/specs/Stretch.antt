-- The weight of a part of a wire.
-- Assumes nothing.
use Rattle.std.specs.Prelude.{ℕ, ◌-◌, ◌*◌, List}
use Rattle.net.specs.Net.{wire_factor}

-- the weight of wire i from one position to another
abbrev pub stretch_weight : List ℕ → ℕ → ℕ → ℕ → ℕ
stretch_weight ws i from to = wire_factor ws i * (to - from)
