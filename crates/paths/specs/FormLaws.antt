-- Laws of the form: what is read lies within the text, and there are steps enough to read all of it.
-- Assumes nothing.
use Prim.Native.Nat.{ℕ, zero, suc, ◌+◌, ◌-◌, ◌<◌, ◌≤◌}
use Rattle.std.proofs.Math.Path.{◌≡◌, refl, sym, ap}
use Rattle.std.specs.Prelude.{Bool, not, ◌&&◌, cond, Option, Some, None, option_map, is_none, Result, Ok, Err, ltb, length, get_or}
use Rattle.std.proofs.Math.Bool.{true, false}
use mathlib.Core.List.{List, [], ◌∷◌, ◌++◌}
use native.Mathlib.Omega.{arith}
use Rattle.std.proofs.Common.{add-zero, ltb-true, ltb-false}
use Rattle.laws.specs.Sums.{by, and_right}
use Rattle.words.specs.Words.{word_from, same, open_word, close_word, plus_word, routed_word, star_word, end_word, new_word, digits, is_number, number_of, spelled_number, layer_of}
use Rattle.words.specs.WordsLaws.{place-≤-at, at-≤-next, next_fits, word_next, word_byte, layer-most}
use Rattle.paths.specs.declared.Point.{Point}
use Rattle.paths.specs.declared.Wrong.{Wrong}
use Rattle.paths.specs.declared.Read.{Read}
use Rattle.paths.specs.declared.Read.TheVariants.{End, Whole}
use Rattle.paths.specs.Form.{word_at, after, must, must_be, point_from, path_from, behind, beginning, point_in, onward, read_points, read_ending, start, points_of, ending_of, coordinate}

-- the ranges of the numbers of a point
pub record InRange (p : Point) : Type 0 where
  pub x : p.x < 65536
  pub y : p.y < 65536
  pub layer_low : 0 < p.layer
  pub layer_high : p.layer ≤ 16

-- a number is below 65,536, and so is a coordinate
number-below : (w : List ℕ) (v : ℕ) → spelled_number w ≡ Some v → v < 65536
unfolding is_number
number-below w v =
    by (is_number w)
    (λ y. rw y
    (λ e. let z : number_of w ≡ v = cc in rw z at (ltb-true _ _ (and_right (digits w) _ (and_right (ltb (length w) 6) _ (and_right (ltb 0 (length w)) _ y))))))
    (λ z. rw z (λ e. cc))

pub coordinate-below : (before : Option ℕ) → ((b : ℕ) → before ≡ Some b → b < 65536) → (w : List ℕ) (v : ℕ) → coordinate before w ≡ Some v → v < 65536
unfolding coordinate
coordinate-below before r w v = by (same w star_word) (λ y. rw y (r v)) (λ z. rw z (number-below w v))

before-below : (before : Option Point) (f : Point → ℕ) → ((p : Point) → before ≡ Some p → f p < 65536)
    → (b : ℕ) → option_map f before ≡ Some b → b < 65536
before-below (Some p) f r b e = let z : f p ≡ b = cc in rw z at (r p refl)
before-below None f r b e = cc

-- what was read from a place on, where no end may stand, lies behind it and within the text
abbrev pub Starts : List ℕ → ℕ → Result Read Wrong → Type 0
Starts text place (Err w) = (place ≤ w.0) × (w.0 ≤ length text)
Starts text place (Ok (End next)) = ⊥
Starts text place (Ok (Whole p next)) = (place ≤ p.at) × (p.at < next) × (next ≤ length text) × InRange p

-- the same where an end may stand: the byte before it is `;`
abbrev pub Sound : List ℕ → ℕ → Result Read Wrong → Type 0
Sound text place (Err w) = Starts text place (Err w)
Sound text place (Ok (End next)) = (place < next) × (next ≤ length text) × (get_or text (next - 1) 0 ≡ 59)
Sound text place (Ok (Whole p next)) = Starts text place (Ok (Whole p next))

-- how much is left behind a whole point: a measure of reading on
unfoldable pub left : List ℕ → Result Read Wrong → ℕ
left text (Err w) = 0
left text (Ok (End next)) = 0
left text (Ok (Whole p next)) = suc (length text - next)

-- every point of a list is in range
unfoldable pub AllInRange : List Point → Type 0
AllInRange [] = Unit {0}
AllInRange (p ∷ l) = InRange p × AllInRange l

module _ (text : List ℕ) where
  starts_sound : (place : ℕ) (r : Result Read Wrong) → Starts text place r → Sound text place r
  starts_sound place (Err w) s = s
  starts_sound place (Ok (End next)) s = absurd s
  starts_sound place (Ok (Whole p next)) s = s

  sound-before : (place later : ℕ) (r : Result Read Wrong) → place ≤ later → Sound text later r → Sound text place r
  sound-before place later (Err w) h s = (omega arith, s.1)
  sound-before place later (Ok (End next)) h s = (omega arith, s.1, s.2)
  sound-before place later (Ok (Whole p next)) h s = (omega arith, s.1, s.2, s.3)

  -- the word from a place on, and one of a single byte
  word_within : (place : ℕ) → place ≤ length text → (place ≤ (word_from text place).at) × ((word_from text place).at ≤ after text place) × (after text place ≤ length text)
  word_within place h = (place-≤-at text place h, at-≤-next text place h, next_fits text place h)

  byte_word : (place b : ℕ) → place ≤ length text → same (word_at text place) (b ∷ []) ≡ true
      → (after text place ≡ (word_from text place).at + 1) × (get_or text (word_from text place).at 0 ≡ b)
  byte_word place b h e = (word_next text place h (b ∷ []) e, rw add-zero at (word_byte text place h (b ∷ []) e 0 (omega arith)))

  -- the word from a place on has to pass a test
  must_starts : (from place : ℕ) (t : Bool) (rest : Result Read Wrong) → from ≤ place → place ≤ length text → (t ≡ true → Starts text from rest)
      → Starts text from (must text place t rest)
  must_starts from place true rest g h s = s refl
  must_starts from place false rest g h s = let w = word_within place h in (omega arith, omega arith)

  must_be_starts : (from place : ℕ) (o : Option ℕ) (rest : ℕ → Result Read Wrong) → from ≤ place → place ≤ length text
      → ((v : ℕ) → o ≡ Some v → Starts text from (rest v)) → Starts text from (must_be text place o rest)
  must_be_starts from place (Some v) rest g h s = s v refl
  must_be_starts from place None rest g h s = let w = word_within place h in (omega arith, omega arith)

  module _ (from place : ℕ) (g : from ≤ place) (h : place ≤ length text) where
    point_starts : (layer : ℕ) (before : Option Point) → (0 < layer) × (layer ≤ 16) → ((p : Point) → before ≡ Some p → InRange p)
        → Starts text from (point_from text place layer before)
    unfolding point_from
    point_starts layer before l r =
        let x = after text place in
        let y = after text x in
        let z = after text y in
        let o = word_within place h in
        let i = word_within x o.2 in
        let j = word_within y i.2 in
        let k = word_within z j.2 in
        let read = λ (u v : ℕ). Ok (Whole (record { at = (word_from text place).at; layer = layer; first = is_none before; x = u; y = v }) (after text z)) in
        let closed = λ (u v : ℕ). must text z (same (word_at text z) close_word) (read u v) in
        let at_y = λ (u : ℕ). must_be text y (coordinate (option_map (λ p. p.y) before) (word_at text y)) (closed u) in
        must_starts from place (same (word_at text place) open_word) _ g h
        (λ t. must_be_starts from x _ at_y (omega arith) o.2
        (λ u e. must_be_starts from y _ (closed u) (omega arith) i.2
        (λ v f. must_starts from z (same (word_at text z) close_word) (read u v) (omega arith) j.2
        (λ w. (
          omega arith,
          omega (arith, (byte_word place 40 h t).0),
          k.2,
          record {
            x = coordinate-below _ (before-below before (λ p. p.x) (λ p q. (r p q).x)) (word_at text x) u e;
            y = coordinate-below _ (before-below before (λ p. p.y) (λ p q. (r p q).y)) (word_at text y) v f;
            layer_low = l.0;
            layer_high = l.1;
          },
        )))))

  path_starts : (from place : ℕ) → from ≤ place → place ≤ length text → Starts text from (path_from text place)
  unfolding path_from
  path_starts from place g h =
      let w = word_within place h in
      must_be_starts from place (layer_of (word_at text place)) _ g h
      (λ l e. point_starts from (after text place) (omega arith) w.2 l None (layer-most (word_at text place) l e) (λ p q. cc))

  beginning_starts : (place : ℕ) → place ≤ length text → Starts text place (beginning text place)
  unfolding beginning
  beginning_starts place h =
      let x = after text place in
      let w = word_within place h in
      let v = word_within x w.2 in
      must_starts place place (same (word_at text place) plus_word) _ (omega arith) h
      (λ t. must_starts place x (same (word_at text x) routed_word) _ (omega arith) w.2
      (λ u. path_starts place (after text x) (omega arith) v.2))

  pub beginning-sound : (place : ℕ) → place ≤ length text → Sound text place (beginning text place)
  beginning-sound place h = starts_sound place (beginning text place) (beginning_starts place h)

  pub beginning_not_end : (place next : ℕ) → place ≤ length text → beginning text place ≡ Ok (End next) → ⊥
  beginning_not_end place next h e = rw e at (beginning_starts place h)

  -- one of two
  cond-sound : (place : ℕ) (t : Bool) (a b : Result Read Wrong) → (t ≡ true → Sound text place a) → Sound text place b → Sound text place (cond t a b)
  cond-sound place true a b p q = p refl
  cond-sound place false a b p q = q

  pub behind-sound : (place : ℕ) (q : Point) → place ≤ length text → InRange q → Sound text place (behind text place q)
  unfolding behind
  behind-sound place q h f =
      let x = after text place in
      let w = word_within place h in
      let point = point_from text place q.layer (Some q) in
      cond-sound place (not q.first && same (word_at text place) end_word) (Ok (End x)) _
      (λ e.
      let b = byte_word place 59 h (and_right (not q.first) _ e) in
      let n : x - 1 ≡ (word_from text place).at = omega arith in
      (omega arith, w.2, rw n b.1))
      (cond-sound place (not q.first && same (word_at text place) new_word) (path_from text x) point
      (λ e. starts_sound place (path_from text x) (path_starts place x (omega arith) w.2))
      (starts_sound place point
      (point_starts place place (omega arith) h q.layer (Some q) (f.layer_low, f.layer_high) (λ p e. let z : q ≡ p = cc in rw z at f))))

  pub sound-from : (place : ℕ) (r : Result Read Wrong) → Sound text place r → Sound text 0 r
  sound-from place r s = sound-before 0 place r (omega arith) s

  -- reading on
  onward-sound : (place : ℕ) (r : Result Read Wrong) → Sound text place r → Sound text place (onward text r)
  unfolding onward
  onward-sound place (Err w) s = s
  onward-sound place (Ok (End next)) s = s
  onward-sound place (Ok (Whole p next)) s = sound-before place next (behind text next p) (omega arith) (behind-sound next p s.2 s.3)

  pub left-most : (place : ℕ) (r : Result Read Wrong) → Sound text place r → left text r ≤ length text - place
  unfolding left
  left-most place (Err w) s = omega arith
  left-most place (Ok (End next)) s = omega arith
  left-most place (Ok (Whole p next)) s = omega arith

  pub behind-left : (p : Point) (next : ℕ) → Sound text 0 (Ok (Whole p next)) → left text (behind text next p) < left text (Ok (Whole p next))
  unfolding left
  behind-left p next s = omega (arith, left-most next (behind text next p) (behind-sound next p s.2 s.3))

  onward-left : (n : ℕ) (r : Result Read Wrong) → Sound text 0 r → left text r ≤ suc n → left text (onward text r) ≤ n
  unfolding left onward
  onward-left n (Err w) s h = omega arith
  onward-left n (Ok (End next)) s h = omega arith
  onward-left n (Ok (Whole p next)) s h = omega (arith, behind-left p next s)

  -- what leaves the form or ends
  pub points_wrong : (n : ℕ) (w : Wrong) → read_points n text (Err w) ≡ []
  unfolding read_points point_in onward
  points_wrong zero w = refl
  points_wrong (suc n) w = points_wrong n w

  pub points-end : (n next : ℕ) → read_points n text (Ok (End next)) ≡ []
  unfolding read_points point_in onward
  points-end zero next = refl
  points-end (suc n) next = points-end n next

  pub ending_wrong : (n : ℕ) (w : Wrong) → read_ending n text (Err w) ≡ Err w
  unfolding read_ending onward
  ending_wrong zero w = refl
  ending_wrong (suc n) w = ending_wrong n w

  pub ending-end : (n next : ℕ) → read_ending n text (Ok (End next)) ≡ Ok (End next)
  unfolding read_ending onward
  ending-end zero next = refl
  ending-end (suc n) next = ending-end n next

  -- one step more changes nothing where no more is left than there are steps
  points-more : (n : ℕ) (r : Result Read Wrong) → Sound text 0 r → left text r ≤ n → read_points (suc n) text r ≡ read_points n text r
  unfolding read_points point_in onward left
  points-more zero (Err w) s h = refl
  points-more zero (Ok (End next)) s h = refl
  points-more zero (Ok (Whole p next)) s h = absurd (omega arith)
  points-more (suc n) r s h = ap (λ (l : List Point). point_in r ++ l) (points-more n (onward text r) (onward-sound 0 r s) (onward-left n r s h))

  ending-more : (n : ℕ) (r : Result Read Wrong) → Sound text 0 r → left text r ≤ n → read_ending (suc n) text r ≡ read_ending n text r
  unfolding read_ending onward left
  ending-more zero (Err w) s h = refl
  ending-more zero (Ok (End next)) s h = refl
  ending-more zero (Ok (Whole p next)) s h = absurd (omega arith)
  ending-more (suc n) r s h = ending-more n (onward text r) (onward-sound 0 r s) (onward-left n r s h)

  module _ (p : Point) (next : ℕ) (s : Sound text 0 (Ok (Whole p next))) where
    pub sound-step : Sound text 0 (behind text next p)
    unfolding onward
    sound-step = onward-sound 0 (Ok (Whole p next)) s

    few : left text (behind text next p) ≤ length text
    few = omega (arith, left-most 0 (behind text next p) sound-step)

    pub points-step : read_points (suc (length text)) text (Ok (Whole p next)) ≡ p ∷ read_points (suc (length text)) text (behind text next p)
    unfolding read_points point_in onward
    points-step = ap (λ (l : List Point). p ∷ l) (sym (points-more (length text) (behind text next p) sound-step few))

    pub ending-step : read_ending (suc (length text)) text (Ok (Whole p next)) ≡ read_ending (suc (length text)) text (behind text next p)
    unfolding read_ending onward
    ending-step = sym (ending-more (length text) (behind text next p) sound-step few)

  -- all of it read
  read_sound : (n place : ℕ) (r : Result Read Wrong) → Sound text place r → Sound text place (read_ending n text r)
  unfolding read_ending
  read_sound zero place r s = s
  read_sound (suc n) place r s = read_sound n place (onward text r) (onward-sound place r s)

  read_left : (n : ℕ) (r : Result Read Wrong) → Sound text 0 r → left text r ≤ n → left text (read_ending n text r) ≡ 0
  unfolding read_ending
  read_left zero r s h = omega arith
  read_left (suc n) r s h = read_left n (onward text r) (onward-sound 0 r s) (onward-left n r s h)

  read_in_range : (n : ℕ) (r : Result Read Wrong) → Sound text 0 r → AllInRange (read_points n text r)
  unfolding read_points point_in onward AllInRange
  read_in_range zero r s = tt
  read_in_range (suc n) (Err w) s = read_in_range n (Err w) s
  read_in_range (suc n) (Ok (End next)) s = read_in_range n (Ok (End next)) s
  read_in_range (suc n) (Ok (Whole p next)) s = (s.3, read_in_range n (behind text next p) (sound-step p next s))

  read_some : (n : ℕ) (r : Result Read Wrong) → ((next : ℕ) → r ≡ Ok (End next) → ⊥) → (next : ℕ) → read_ending (suc n) text r ≡ Ok (End next) → 0 < length (read_points (suc n) text r)
  unfolding read_points point_in
  read_some n (Err w) b next e = let z : ◌≡◌ {A = ℕ} 0 1 = cc (ending_wrong (suc n) w) in absurd (omega arith)
  read_some n (Ok (End end)) b next e = absurd (b end refl)
  read_some n (Ok (Whole p end)) b next e = omega arith

  pub start-within : (place : ℕ) → start text place ≤ length text
  unfolding start
  start-within place =
      by (ltb (length text) place) (λ e. rw e (omega arith)) (λ e. rw e (ltb-false (length text) place e))

  module _ (place : ℕ) where
    from_start : Sound text (start text place) (beginning text (start text place))
    from_start = beginning-sound (start text place) (start-within place)

    pub start-sound : Sound text 0 (beginning text (start text place))
    start-sound = sound-from (start text place) (beginning text (start text place)) from_start

    pub ending-sound : Sound text (start text place) (ending_of text place)
    unfolding ending_of
    ending-sound = read_sound (suc (length text)) (start text place) (beginning text (start text place)) from_start

    pub ending-stops : (p : Point) (next : ℕ) → ending_of text place ≡ Ok (Whole p next) → ⊥
    unfolding ending_of left
    ending-stops p next e =
        let r = beginning text (start text place) in
        let z = rw e at (read_left (suc (length text)) r start-sound (omega (arith, left-most 0 r start-sound))) in
        omega arith

    pub points_in_range : AllInRange (points_of text place)
    unfolding points_of
    points_in_range = read_in_range (suc (length text)) (beginning text (start text place)) start-sound

    module _ (next : ℕ) (e : ending_of text place ≡ Ok (End next)) where
      pub end-above : (place < next) × (next ≤ length text) × (get_or text (next - 1) 0 ≡ 59)
      unfolding start
      end-above =
          let s = rw e at ending-sound in
          (by (ltb (length text) place) (λ t. absurd (omega (arith, rw t at s.0))) (λ t. rw t at s.0), s.1, s.2)

      pub end-points : 0 < length (points_of text place)
      unfolding points_of ending_of
      end-points = read_some (length text) (beginning text (start text place)) (λ n q. beginning_not_end _ n (start-within place) q) next e
