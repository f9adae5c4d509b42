-- The form of a net's routing in a DEF text: `+ ROUTED`, then paths, separated by `NEW`, then `;`. Document 02, routes from DEF.
-- Assumes nothing.
use Rattle.std.specs.Prelude.{ℕ, zero, suc, Bool, true, false, not, ◌&&◌, cond, List, [], ◌∷◌, ◌++◌, Option, Some, None, is_none, Result, Ok, Err, ltb, length}
use Rattle.std.specs.Option.{option_map}
use Rattle.words.specs.Words.{word_from, spelling, same, plus_word, routed_word, new_word, open_word, close_word, star_word, end_word, spelled_number, layer_of}
use Rattle.paths.specs.declared.Point.{Point}
use Rattle.paths.specs.declared.Wrong.{Wrong}
use Rattle.paths.specs.declared.Read.{Read}
use Rattle.paths.specs.declared.Read.TheVariants.{End, Whole}

-- the bytes of the first word from a place on, and the place after it
abbrev pub word_at : List ℕ → ℕ → List ℕ
word_at text place = spelling text (word_from text place)

abbrev pub after : List ℕ → ℕ → ℕ
after text place = (word_from text place).next

-- the text leaves the form at the first byte of the word from a place on, or at the text's length where it ends early
abbrev pub leaves : List ℕ → ℕ → Result Read Wrong
leaves text place = Err (record { 0 = (word_from text place).at })

-- the word from a place on has to pass a test, or to be read as a value; else the text leaves the form there
abbrev pub must : List ℕ → ℕ → Bool → Result Read Wrong → Result Read Wrong
must text place true rest = rest
must text place false rest = leaves text place

abbrev pub must_be : List ℕ → ℕ → Option ℕ → (ℕ → Result Read Wrong) → Result Read Wrong
must_be text place (Some v) rest = rest v
must_be text place None rest = leaves text place

-- a coordinate: a number; or `*`, never in a path's first point, which repeats that of the point before
unfoldable pub coordinate : Option ℕ → List ℕ → Option ℕ
coordinate before w = cond (same w star_word) before (spelled_number w)

-- a point `( x y )` from a place on: of a path of a layer, the path's first or behind another
unfoldable pub point_from : List ℕ → ℕ → ℕ → Option Point → Result Read Wrong
point_from text place layer before =
    let x_place = after text place in
    let y_place = after text x_place in
    let end = after text y_place in
    must text place (same (word_at text place) open_word)
    (must_be text x_place (coordinate (option_map (λ p. p.x) before) (word_at text x_place))
    (λ x. must_be text y_place (coordinate (option_map (λ p. p.y) before) (word_at text y_place))
    (λ y. must text end (same (word_at text end) close_word)
    (Ok (Whole (record { at = (word_from text place).at; layer = layer; first = is_none before; x = x; y = y }) (after text end))))))

-- a path from a place on: `metal1` to `metal16`, then its first point
unfoldable pub path_from : List ℕ → ℕ → Result Read Wrong
path_from text place = must_be text place (layer_of (word_at text place)) (λ layer. point_from text (after text place) layer None)

-- behind a point of a path: after its first one another; after a later one another, or `NEW` and a path, or `;`
unfoldable pub behind : List ℕ → ℕ → Point → Result Read Wrong
behind text place p =
    cond (not p.first && same (word_at text place) end_word) (Ok (End (after text place)))
    (cond (not p.first && same (word_at text place) new_word) (path_from text (after text place))
    (point_from text place p.layer (Some p)))

-- the beginning: `+ ROUTED`, then a path
unfoldable pub beginning : List ℕ → ℕ → Result Read Wrong
beginning text place =
    must text place (same (word_at text place) plus_word)
    (must text (after text place) (same (word_at text (after text place)) routed_word) (path_from text (after text (after text place))))

-- the point that is read, if it is whole; and what stands behind it
unfoldable pub point_in : Result Read Wrong → List Point
point_in (Err w) = []
point_in (Ok (End next)) = []
point_in (Ok (Whole p next)) = p ∷ []

unfoldable pub onward : List ℕ → Result Read Wrong → Result Read Wrong
onward text (Err w) = Err w
onward text (Ok (End next)) = Ok (End next)
onward text (Ok (Whole p next)) = behind text next p

-- the points read in n steps, in the order of the text, and what stands behind them
unfoldable pub read_points : ℕ → List ℕ → Result Read Wrong → List Point
read_points zero text r = []
read_points (suc n) text r = point_in r ++ read_points n text (onward text r)

unfoldable pub read_ending : ℕ → List ℕ → Result Read Wrong → Result Read Wrong
read_ending zero text r = r
read_ending (suc n) text r = read_ending n text (onward text r)

-- a place past the text counts as its end
unfoldable pub start : List ℕ → ℕ → ℕ
start text place = cond (ltb (length text) place) (length text) place

-- the points of the routing from a place on, and where it ends or leaves the form; a text has no more points than bytes, so that no step is left
unfoldable pub points_of : List ℕ → ℕ → List Point
points_of text place = read_points (suc (length text)) text (beginning text (start text place))

unfoldable pub ending_of : List ℕ → ℕ → Result Read Wrong
ending_of text place = read_ending (suc (length text)) text (beginning text (start text place))
