-- Document 01, "Files": the names of all pieces in order, the record of each, and the report.
-- That these are the names of the pieces, each once, in rising order, is a theorem. Assumes nothing.
use Rattle.std.specs.Prelude.{ℕ, suc, ◌+◌, ◌^◌, Bool, ◌&&◌, ltb, eqb}
use mathlib.Core.List.{List, [], ◌∷◌, ◌++◌, flat_map}
use Rattle.laws.specs.Sum.{χ, sum, any, lowest}
use Rattle.laws.specs.Gather.{only, gather}
use Rattle.laws.specs.Bytes.{bytes16, bytes32}
use Rattle.net.specs.Layout.{most_layers}
use Rattle.net.specs.Stage.{Stage}
use Rattle.pieces.specs.Piece.{Points, step, Group, weight_of, has_gate, has_source, is_harmful}
use Rattle.pieces.specs.Name.{Name, name, last_jumper, lowest_node, named}

-- the piece with nodes whose lowest node is i
unfoldable pub node_names : Stage → Points → ℕ → List Name
node_names s J i = only (eqb (lowest_node s J i) i) (name i 0)

-- the stretches between jumpers of wire i, which begin at each jumper but the last
unfoldable pub stretch_names : Stage → Points → ℕ → List Name
stretch_names s J i = gather (s.len i) (λ t. only (s.present i && (J i t && ltb t (last_jumper s J i))) (name i t))

-- the names of all pieces
unfoldable pub piece_names : Stage → Points → List Name
piece_names s J = gather s.nodes (λ i. node_names s J i ++ stretch_names s J i)

-- flags: bit 0 gate, bit 1 source, bit 2 harmful
unfoldable pub flags_of : Stage → ℕ → Group → ℕ
flags_of s limit P = χ (has_gate s P) 1 + χ (has_source s P) 2 + χ (is_harmful s limit P) 4

-- a step of layer b + 1 is in it
unfoldable pub has_layer : Stage → Group → ℕ → Bool
has_layer s P b = any s.nodes (λ i. s.present i && (eqb (s.layer i) (suc b) && any (s.len i) (λ t. P (step i (suc t)))))

unfoldable pub layers_of : Stage → Group → ℕ
layers_of s P = sum most_layers (λ b. χ (has_layer s P b) (2 ^ b))

unfoldable pub layer_count : Stage → Group → ℕ
layer_count s P = sum most_layers (λ b. χ (has_layer s P b) 1)

unfoldable pub lowest_layer : Stage → Group → ℕ
lowest_layer s P = χ (any most_layers (has_layer s P)) (suc (lowest most_layers (has_layer s P)))

-- the twelve bytes of a piece record
unfoldable pub record_of : Stage → ℕ → Points → Name → List ℕ
record_of s limit J n =
    let P = named s J n in
    n.number ∷ bytes16 n.position ++ bytes32 (weight_of s P) ++ flags_of s limit P ∷ bytes16 (layers_of s P) ++ layer_count s P ∷ lowest_layer s P ∷ []

-- the records of all pieces, one behind the other
unfoldable pub report_of : Stage → ℕ → Points → List ℕ
report_of s limit J = flat_map (record_of s limit J) (piece_names s J)
