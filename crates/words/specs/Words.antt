-- The words of a DEF text: where they stand, and what they spell. Document 02, routes from DEF.
-- Assumes nothing.
use Rattle.std.specs.Prelude.{ℕ, ◌+◌, ◌-◌, ◌*◌, Bool, true, not, ◌&&◌, ◌||◌, cond, List, [], ◌∷◌, Option, Some, None, eqb, ltb, length, take, drop}
use Rattle.std.specs.List.{prefix_len}
use Rattle.std.specs.Str.{bytes_eq}

-- words are parted by bytes 9, 10, 13 or 32
unfoldable pub blank : ℕ → Bool
blank b = eqb b 9 || (eqb b 10 || (eqb b 13 || eqb b 32))

-- where a word stands: its first byte, and the place after it
pub record Span : Type 0 where
  pub at : ℕ
  pub next : ℕ

-- the first byte of the first word from a place on; where no word is left, the text's length
unfoldable pub word_start : List ℕ → ℕ → ℕ
word_start text place = place + prefix_len blank (drop place text)

-- the place after the word that begins at a place
unfoldable pub word_end : List ℕ → ℕ → ℕ
word_end text at = at + prefix_len (λ b. not (blank b)) (drop at text)

-- the first word from a place on: its first byte and the place after it
abbrev pub word_from : List ℕ → ℕ → Span
word_from text place = record { at = word_start text place; next = word_end text (word_start text place) }

-- its bytes; none where no word is left
unfoldable pub spelling : List ℕ → Span → List ℕ
spelling text w = take (w.next - w.at) (drop w.at text)

-- two words are the same
abbrev pub same : List ℕ → List ℕ → Bool
same = bytes_eq

-- `+`, `ROUTED`, `NEW`, `(`, `)`, `*`, `;`, `metal`
abbrev pub plus_word : List ℕ
plus_word = 43 ∷ []

abbrev pub routed_word : List ℕ
routed_word = 82 ∷ 79 ∷ 85 ∷ 84 ∷ 69 ∷ 68 ∷ []

abbrev pub new_word : List ℕ
new_word = 78 ∷ 69 ∷ 87 ∷ []

abbrev pub open_word : List ℕ
open_word = 40 ∷ []

abbrev pub close_word : List ℕ
close_word = 41 ∷ []

abbrev pub star_word : List ℕ
star_word = 42 ∷ []

abbrev pub end_word : List ℕ
end_word = 59 ∷ []

abbrev pub metal_word : List ℕ
metal_word = 109 ∷ 101 ∷ 116 ∷ 97 ∷ 108 ∷ []

-- a digit, `0` to `9`
unfoldable pub digit : ℕ → Bool
digit b = not (ltb b 48) && ltb b 58

-- every byte is a digit
unfoldable pub digits : List ℕ → Bool
digits [] = true
digits (b ∷ l) = digit b && digits l

-- the number that digits behind a number v make, in base ten
unfoldable pub value_from : ℕ → List ℕ → ℕ
value_from v [] = v
value_from v (b ∷ l) = value_from (10 * v + (b - 48)) l

-- numbers are 1 to 5 digits, 0 to 65,535
unfoldable pub is_number : List ℕ → Bool
is_number w = ltb 0 (length w) && (ltb (length w) 6 && (digits w && ltb (value_from 0 w) 65536))

abbrev pub number_of : List ℕ → ℕ
number_of w = value_from 0 w

abbrev pub spelled_number : List ℕ → Option ℕ
spelled_number w = cond (is_number w) (Some (number_of w)) None

-- `metal1` to `metal16`: the layer
unfoldable pub layer_digits : List ℕ → Option ℕ
layer_digits [] = None
layer_digits (a ∷ []) = cond (ltb 48 a && ltb a 58) (Some (a - 48)) None
layer_digits (a ∷ b ∷ []) = cond (eqb a 49 && (digit b && ltb b 55)) (Some (b - 38)) None
layer_digits (a ∷ b ∷ c ∷ l) = None

unfoldable pub layer_of : List ℕ → Option ℕ
layer_of w = cond (same (take 5 w) metal_word) (layer_digits (drop 5 w)) None
