-- What each test of the reader shows of the form.
-- Assumes nothing.
use Rattle.std.specs.Prelude.{ℕ, ◌≡◌, refl, Bool, true, false, List, Option, Some, None, is_some, Result, Err}
use Rattle.std.proofs.Common.{◌∙◌, sym, ap}
use Rattle.words.specs.Words.{Span, word_from, spelling, same, star_word, spelled_number, layer_of}
use Rattle.paths.specs.declared.Wrong.{Wrong}
use Rattle.paths.specs.declared.Read.{Read}
use Rattle.paths.specs.Form.{word_at, after, must, coordinate}

-- `*` is no coordinate of a path's first point, and that of the point before in a later one
module _ (w : List ℕ) where
  pub star_first : same w star_word ≡ true → None ≡ coordinate None w
  unfolding coordinate
  star_first h = rw h

  pub star_later : (before : ℕ) → same w star_word ≡ true → Some before ≡ coordinate (Some before) w
  unfolding coordinate
  star_later before h = rw h

  pub no_star : (before : Option ℕ) → same w star_word ≡ false → spelled_number w ≡ coordinate before w
  unfolding coordinate
  no_star before h = rw h

-- the word from a place on
module _ (text : List ℕ) (place : ℕ) {w : Span} (e : w ≡ word_from text place) where
  pub next_word : {v : Span} → v ≡ word_from text w.next → v ≡ word_from text (after text place)
  next_word q = q ∙ ap (λ (u : Span). word_from text u.next) e

  pub spells : {t b : Bool} (m : List ℕ) → t ≡ same (spelling text w) m → t ≡ b → same (word_at text place) m ≡ b
  spells m q h = ap (λ (u : Span). same (spelling text u) m) (sym e) ∙ sym q ∙ h

  -- a layer
  module _ {l : Option ℕ} (q : l ≡ layer_of (spelling text w)) where
    pub layer-here : l ≡ layer_of (word_at text place)
    layer-here = q ∙ ap (λ (u : Span). layer_of (spelling text u)) e

    pub no-layer : l ≡ None → is_some (layer_of (word_at text place)) ≡ false
    no-layer z = rw (← layer-here, z)

    pub is_layer : (l ≡ None → ⊥) → is_some (layer_of (word_at text place)) ≡ true
    is_layer z = rw (← layer-here) (some l z)
      where
        some : (o : Option ℕ) → (o ≡ None → ⊥) → is_some o ≡ true
        some (Some n) n_none = refl
        some None n_none = absurd (n_none refl)

  -- a coordinate
  module _ (before : Option ℕ) {v : Option ℕ} (q : v ≡ coordinate before (spelling text w)) where
    read_here : v ≡ coordinate before (word_at text place)
    read_here = q ∙ ap (λ (u : Span). coordinate before (spelling text u)) e

    pub no-coordinate : v ≡ None → is_some (coordinate before (word_at text place)) ≡ false
    no-coordinate h = rw (← read_here, h)

    pub is_coordinate_lem : {n : ℕ} → v ≡ Some n → (is_some (coordinate before (word_at text place)) ≡ true) × (Some n ≡ coordinate before (word_at text place))
    is_coordinate_lem h = (rw (← read_here, h), sym h ∙ read_here)

  -- it does not pass its test
  pub failed : {t : Bool} (rest : Result Read Wrong) → t ≡ false → Err (record { 0 = w.at }) ≡ must text place t rest
  failed rest h = rw h (ap (λ (v : Span). Err (record { 0 = v.at })) e)

-- it passes its test
pub passed : (text : List ℕ) (place : ℕ) {t : Bool} {r rest : Result Read Wrong} → t ≡ true → r ≡ rest → r ≡ must text place t rest
passed text place h q = rw h q
