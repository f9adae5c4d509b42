-- The weight of a piece with nodes, wire by wire. That it is the weight of its steps is a theorem.
-- Assumes nothing.
use Rattle.std.specs.Prelude.{ℕ, ◌+◌, ◌-◌, ◌*◌, ◌&&◌, eqb}
use Rattle.laws.specs.Sum.{χ, sum}
use Rattle.net.specs.Stage.{Stage}
use Rattle.pieces.specs.Piece.{Points}
use Rattle.pieces.specs.Name.{cut_at, first_jumper, last_jumper, lowest_node}

-- what wire i adds to the piece whose lowest node is h: its steps up to the first jumper (all where there is none) if its lower end is in the piece, and
-- those above the last jumper if its upper end is
unfoldable pub wire_adds : Stage → Points → ℕ → ℕ → ℕ
wire_adds s J h i =
    χ (eqb (lowest_node s J i) h) (first_jumper s J i * s.factor i)
    + χ (cut_at s J i && eqb (lowest_node s J (s.parent i)) h) ((s.len i - last_jumper s J i) * s.factor i)

unfoldable pub node_weight : Stage → Points → ℕ → ℕ
node_weight s J h = sum s.nodes (λ i. χ (s.present i) (wire_adds s J h i))
