-- The sections of a net file, by their pairs in the head.
-- Assumes nothing.
use Rattle.std.specs.Prelude.{ℕ, ◌<◌}
use Rattle.std.proofs.Common.{arith}
use Rattle.net.specs.declared.sections.Section.{Section}
use Rattle.net.specs.declared.sections.Section.TheVariants.{Nodes, Wires, Obstacles}

abbrev pub index_of : Section → ℕ
index_of Nodes = 0
index_of Wires = 1
index_of Obstacles = 2

pub index-low : (s : Section) → index_of s < 3
index-low Nodes = omega arith
index-low Wires = omega arith
index-low Obstacles = omega arith
