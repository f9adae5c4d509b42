-- What the nodes and wires below i give to a piece with nodes: its weight, its flags, its layers. For all nodes and wires these are the piece's own (NodeRecords).
-- Assumes nothing.
use Rattle.std.specs.Prelude.{ℕ, zero, suc, Bool, ◌&&◌, ◌||◌, List, ltb, eqb}
use Rattle.laws.specs.Sum.{χ, sum, any}
use Rattle.laws.specs.Masks.{mask}
use Rattle.net.specs.Layout.{most_layers}
use Rattle.net.specs.Stage.{Stage}
use Rattle.pieces.specs.Piece.{Points}
use Rattle.pieces.specs.Name.{cut_at, first_jumper, lowest_node}
use Rattle.pieces.specs.Weight.{wire_adds}
use Rattle.records.specs.Record.{node_fields}

-- flag b of node k: 0 gate, 1 source
abbrev pub flag : Stage → ℕ → ℕ → Bool
flag s zero k = s.gate k
flag s (suc b) k = s.source k

-- wire k has a step in the piece whose lowest node is h
unfoldable pub steps_in : Stage → Points → ℕ → ℕ → Bool
steps_in s J h k = (eqb (lowest_node s J k) h && ltb 0 (first_jumper s J k)) || (eqb (lowest_node s J (s.parent k)) h && cut_at s J k)

-- weight, flags and layers of the piece whose lowest node is h
unfoldable pub weight_below : Stage → Points → ℕ → ℕ → ℕ
weight_below s J i h = sum i (λ k. χ (s.present k) (wire_adds s J h k))

unfoldable pub flags_below : Stage → Points → ℕ → ℕ → ℕ
flags_below s J i h = mask 2 (λ b. any i (λ k. flag s b k && eqb (lowest_node s J k) h))

unfoldable pub layers_below : Stage → Points → ℕ → ℕ → ℕ
layers_below s J i h = mask most_layers (λ b. any i (λ k. s.present k && (steps_in s J h k && eqb (s.layer k) (suc b))))

-- the record of the piece whose lowest node is h
abbrev pub record_below : Stage → ℕ → Points → ℕ → ℕ → List ℕ
record_below s limit J i h = node_fields limit h (weight_below s J i h) (flags_below s J i h) (layers_below s J i h)
