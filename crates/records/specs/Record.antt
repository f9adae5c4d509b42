-- The bytes of a piece record from its fields, as the program has them.
-- Assumes nothing.
use Rattle.std.specs.Prelude.{ℕ, suc, ◌+◌, ◌-◌, ◌*◌, ◌%◌, ◌^◌, ◌≡◌, not, ◌&&◌, cond, List, [], ◌∷◌, ◌++◌, get_or, ltb, eqb}
use Rattle.std.specs.Int.Bits.{bit_or}
use Rattle.std.specs.Int.Count.{ones, count_trailing_zeros}
use Rattle.laws.specs.Sum.{χ}
use Rattle.laws.specs.Gather.{gather}
use Rattle.laws.specs.Bytes.{le16, le32, bytes16, bytes32}
use Rattle.net.specs.Layout.{most_layers}
use Rattle.net.specs.Net.{is_gate, is_source}
use Rattle.pieces.specs.Legal.{entry_position}

-- the lowest layer of a mask, or 0 where it is empty
abbrev pub lowest_of : ℕ → ℕ
lowest_of layers = cond (eqb layers 0) 0 (suc (count_trailing_zeros most_layers layers))

-- weight and flags; number and position before them; layers, how many they are, and the lowest
abbrev pub weight_part : ℕ → ℕ → List ℕ
weight_part weight flags = bytes32 weight ++ flags ∷ []

abbrev pub head_part : ℕ → ℕ → ℕ → ℕ → List ℕ
head_part number position weight flags = number ∷ bytes16 position ++ weight_part weight flags

abbrev pub layers_part : ℕ → List ℕ
layers_part layers = bytes16 layers ++ ones layers ∷ lowest_of layers ∷ []

-- number, position, weight, flags, layers, and from these how many they are and the lowest
unfoldable pub fields : ℕ → ℕ → ℕ → ℕ → ℕ → List ℕ
fields number position weight flags layers =
    head_part number position weight flags ++ layers_part layers

-- bit 2 where the piece is harmful
abbrev pub with_harm : ℕ → ℕ → ℕ → ℕ
with_harm limit weight flags = flags + χ (is_gate flags && (not (is_source flags) && ltb limit weight)) 4

-- the record of a piece with nodes
abbrev pub node_fields : ℕ → ℕ → ℕ → ℕ → ℕ → List ℕ
node_fields limit number weight flags layers = fields number 0 weight (with_harm limit weight flags) layers

-- r begins with the record of a piece with nodes: its position is 0, and its layers, their number and the lowest agree
pub record NodeRecord (r : List ℕ) : Type 0 where
  pub low : get_or r 1 0 ≡ 0
  pub high : get_or r 2 0 ≡ 0
  pub count : get_or r 10 0 ≡ ones (le16 r 8)
  pub lowest : get_or r 11 0 ≡ lowest_of (le16 r 8)

-- the record that begins r, of a piece with nodes, when a weight, a node's flags and layers are joined to the piece
unfoldable pub joined : ℕ → ℕ → ℕ → ℕ → List ℕ → List ℕ
joined limit weight flags layers r =
    node_fields limit (get_or r 0 0) (le32 r 3 + weight) (bit_or (get_or r 7 0 % 4) flags) (bit_or (le16 r 8) layers)

-- the record of the stretch of wire i from entry d of a jumper list to the next
unfoldable pub stretch_fields : List ℕ → ℕ → ℕ → ℕ → ℕ → List ℕ
stretch_fields list i factor layer d =
    fields i (entry_position list d) ((entry_position list (d + 1) - entry_position list d) * factor) 0 (2 ^ (layer - 1))

-- the records of n stretches from entry e on
unfoldable pub stretches_fields : List ℕ → ℕ → ℕ → ℕ → ℕ → ℕ → List ℕ
stretches_fields list i factor layer e n = gather n (λ d. stretch_fields list i factor layer (e + d))
