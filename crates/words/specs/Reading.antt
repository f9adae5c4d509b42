-- What each test of the code shows of a word.
-- Assumes nothing.
use Prim.Native.Nat.{ℕ, suc, ◌+◌, ◌-◌, ◌*◌, ◌^◌, ◌<◌, ◌≤◌, min}
use Rattle.std.specs.Prelude.{◌≡◌, refl, Bool, cond, true, false, not, ◌&&◌, List, [], ◌∷◌, Some, None, Result, Ok, Err, eqb, ltb, take, drop, get_or}
use Rattle.std.specs.List.{prefix_len}
use Rattle.std.specs.Result.{OkIff, result_ok}
use Rattle.std.specs.Char.{is_ascii_digit}
use Rattle.std.proofs.Math.Bool.{and-false}
use Rattle.std.proofs.Common.{◌∙◌, sym, add-one, lit<, drop-cons, drop_of_length-le}
use native.Mathlib.Omega.{arith}
use Rattle.std.proofs.Math.Nat.{pow-succ', pow-le-pow_right}
use Rattle.std.proofs.Math.ListN.{length, length-drop}
use borrow.Author.Tests.{lt-ltb, le-ltb, eq-eqb}
use Rattle.std.proofs.lemmas.Bool.Decides.{nat_tests}
use Rattle.std.proofs.lemmas.Bool.{ltb-true, ltb-false, not-true, eqb-true}
use Rattle.std.proofs.lemmas.List.{drop_min}
use Rattle.std.proofs.Math.Seq.{length-take-le, take_at, drop_at, take-add, drop-drop}
use Rattle.laws.specs.Place.{part-all}
use Rattle.laws.specs.Sums.{by, and_left, and_right, not_true_false}
use Rattle.words.specs.WordsLaws.{spelling-length}
use Rattle.words.specs.Words.{Span, same, metal_word, layer_of, blank, word_start, word_end, word_from, spelling, digit, digits, value_from, is_number, spelled_number, layer_digits}

-- the first word from a place on: what is left of the text, and of the word
abbrev pub part : List ℕ → ℕ → List ℕ
part text i = take (length text - i) (drop i text)

module _ (text : List ℕ) (place m blanks others : ℕ) (e : m ≡ min place (length text)) (b : blanks ≡ prefix_len blank (part text m))
    (o : others ≡ prefix_len (λ b. not (blank b)) (part (part text m) blanks)) where
  rest-is : part text m ≡ drop place text
  rest-is = part-all m text ∙ rw e (drop_min place text)

  word-is : part (part text m) blanks ≡ drop (place + blanks) text
  word-is = part-all blanks (part text m) ∙ rw rest-is (drop-drop blanks place text)

  pub at-is : place + blanks ≡ word_start text place
  unfolding word_start
  at-is = rw (b, rest-is)

  pub next-is : place + blanks + others ≡ word_end text (word_start text place)
  unfolding word_end
  next-is = rw (← at-is, o, word-is)

  pub bytes-is : take others (part (part text m) blanks) ≡ spelling text (word_from text place)
  unfolding spelling
  bytes-is =
      let n : place + blanks + others - (place + blanks) ≡ others = omega arith in
      rw (← next-is, ← at-is, n, word-is)

-- the bytes from one place to another: the first, and those behind it
pub part_none : (text : List ℕ) (i e : ℕ) → e ≤ i → take (e - i) (drop i text) ≡ []
part_none text i e h = let z : e - i ≡ 0 = omega arith in rw z

pub part-cons : (text : List ℕ) (i e : ℕ) → i < e → e ≤ length text
    → take (e - i) (drop i text) ≡ get_or text i 0 ∷ take (e - (i + 1)) (drop (i + 1) text)
part-cons text i e h k =
    let n : e - i ≡ suc (e - (i + 1)) = omega arith in
    let l : i < length text = omega arith in
    rw (n, drop-cons text i 0 l, add-one i)

-- a digit
pub digit-yes : (b : ℕ) → 48 ≤ b → b ≤ 57 → digit b ≡ true
unfolding digit
digit-yes b h k = rw (le-ltb b 48 h) (lt-ltb b 58 (omega arith))

pub digit_low : (b : ℕ) → b < 48 → digit b ≡ false
unfolding digit
digit_low b h = rw (lt-ltb b 48 h)

digit-high : (b : ℕ) → 57 < b → digit b ≡ false
unfolding digit
digit-high b h = rw (le-ltb b 48 (omega arith)) (le-ltb b 58 (omega arith))

digit-ascii : (b : ℕ) → digit b ≡ is_ascii_digit b
unfolding digit
digit-ascii b = grind (arith, nat_tests)

-- a word read up to i, with the value v: what is left of it decides, behind v, as the whole word does
pub record ReadUpTo (w : List ℕ) (v i : ℕ) : Type 0 where
  pub below : v < 10 ^ i
  pub all : digits (drop i w) ≡ digits w
  pub value : value_from v (drop i w) ≡ value_from 0 w

module _ (w : List ℕ) where
  pub number-empty : length w ≡ 0 → None ≡ spelled_number w
  unfolding is_number
  number-empty e = rw e

  pub number-long : 5 < length w → None ≡ spelled_number w
  unfolding is_number
  number-long l = rw (le-ltb (length w) 6 (omega arith), and-false)

  pub read_none : ReadUpTo w 0 0
  read_none = record { below = lit< tt; all = refl; value = refl }

  module _ (v i : ℕ) (r : ReadUpTo w v i) where
    -- the next byte
    module _ (l : i < length w) where
      pub value-fits : length w ≤ 5 → v < 10000
      value-fits n = omega (arith, r.below, pow-le-pow_right {n = 10} (lit< tt) {i = i} {j = 4} (omega arith))

      pub number_other : is_ascii_digit (get_or w i 0) ≡ false → None ≡ spelled_number w
      unfolding digits is_number
      number_other d = simp (← r.all, drop-cons w i 0 l, digit-ascii, d, and-false)

      pub number-low : get_or w i 0 < 48 → None ≡ spelled_number w
      number-low g = number_other (sym (digit-ascii (get_or w i 0)) ∙ digit_low (get_or w i 0) g)

      pub number-high : 57 < get_or w i 0 → None ≡ spelled_number w
      number-high g = number_other (sym (digit-ascii (get_or w i 0)) ∙ digit-high (get_or w i 0) g)

      pub read_more : is_ascii_digit (get_or w i 0) ≡ true → ReadUpTo w (10 * v + (get_or w i 0 - 48)) (i + 1)
      unfolding digits value_from
      read_more d =
          let s = drop-cons w i 0 l in
          let b : get_or w i 0 ≤ 57 = grind (arith, nat_tests, d) in
          record {
            below = rw (add-one i, pow-succ' 10 i) (omega arith);
            all = rw (← r.all, s, digit-ascii (get_or w i 0), d, add-one i);
            value = rw (← r.value, s, add-one i);
          }

    -- no byte is left
    module _ (l : length w ≤ i) where
      value_read : value_from 0 w ≡ v
      unfolding value_from
      value_read = rw (← r.value, drop_of_length-le w l)

      digits_read : digits w ≡ true
      unfolding digits
      digits_read = rw (← r.all, drop_of_length-le w l)

      pub number_large : 65536 ≤ v → None ≡ spelled_number w
      unfolding is_number
      number_large g = simp (value_read, le-ltb v 65536 g, and-false)

      pub number-right : (length w ≡ 0 → ⊥) → length w ≤ 5 → v < 65536 → Some v ≡ spelled_number w
      unfolding is_number
      number-right e n g =
          rw (lt-ltb 0 (length w) (omega (arith, e)), lt-ltb (length w) 6 (omega arith), digits_read, value_read, lt-ltb v 65536 g)

      pub number-whole : {E : Type 0} (n : Result ℕ E) → OkIff n (v < 65536) v → (length w ≡ 0 → ⊥) → length w ≤ 5 → result_ok n ≡ spelled_number w
      number-whole (Ok x) h e n = rw (h.1) (number-right e n h.0)
      number-whole (Err x) h e n = number_large (omega (arith, h))

-- one or two digits of a layer
pub digits-none : (l : List ℕ) → (length l ≡ 1 → ⊥) → (length l ≡ 2 → ⊥) → None ≡ layer_digits l
unfolding layer_digits
digits-none [] n m = refl
digits-none (a ∷ []) n m = absurd (n refl)
digits-none (a ∷ b ∷ []) n m = absurd (m refl)
digits-none (a ∷ b ∷ c ∷ l) n m = refl

pub digits-one : (l : List ℕ) → length l ≡ 1 → 49 ≤ get_or l 0 0 → get_or l 0 0 ≤ 57 → Some (get_or l 0 0 - 48) ≡ layer_digits l
unfolding layer_digits
digits-one [] e h k = absurd (omega arith)
digits-one (a ∷ []) e h k = rw (lt-ltb 48 a (omega arith), lt-ltb a 58 (omega arith))
digits-one (a ∷ b ∷ l) e h k = absurd (omega arith)

pub digits-two : (l : List ℕ) → length l ≡ 2 → get_or l 0 0 ≡ 49 → 48 ≤ get_or l 1 0 → get_or l 1 0 ≤ 54 → Some (10 + (get_or l 1 0 - 48)) ≡ layer_digits l
unfolding layer_digits digit
digits-two [] e h k m = absurd (omega arith)
digits-two (a ∷ []) e h k m = absurd (omega arith)
digits-two (a ∷ b ∷ []) e h k m =
    let n : b - 38 ≡ 10 + (b - 48) = omega arith in
    rw (eq-eqb a 49 h, le-ltb b 48 k, lt-ltb b 58 (omega arith), lt-ltb b 55 (omega arith), n)
digits-two (a ∷ b ∷ c ∷ l) e h k m = absurd (omega arith)

-- other bytes
pub digits-one_other : (l : List ℕ) → length l ≡ 1 → (49 ≤ get_or l 0 0 → get_or l 0 0 ≤ 57 → ⊥) → None ≡ layer_digits l
unfolding layer_digits
digits-one_other [] e n = absurd (omega arith)
digits-one_other (a ∷ []) e n =
    let z : (ltb 48 a && ltb a 58) ≡ false = not_true_false _ (λ t. n (ltb-true 48 a (and_left (ltb 48 a) _ t)) (omega (arith, ltb-true a 58 (and_right (ltb 48 a) _ t)))) in
    rw z
digits-one_other (a ∷ b ∷ l) e n = absurd (omega arith)

pub digits-two_other : (l : List ℕ) → length l ≡ 2 → (get_or l 0 0 ≡ 49 → 48 ≤ get_or l 1 0 → get_or l 1 0 ≤ 54 → ⊥) → None ≡ layer_digits l
unfolding layer_digits digit
digits-two_other [] e n = absurd (omega arith)
digits-two_other (a ∷ []) e n = absurd (omega arith)
digits-two_other (a ∷ b ∷ []) e n =
    let d = not (ltb b 48) && ltb b 58 in
    let z : (eqb a 49 && (d && ltb b 55)) ≡ false = not_true_false _
    (λ t.
    let u = and_right (eqb a 49) _ t in
    n (eqb-true a 49 (and_left (eqb a 49) _ t)) (ltb-false b 48 (not-true (ltb b 48) (and_left (not (ltb b 48)) _ (and_left d _ u))))
    (omega (arith, ltb-true b 55 (and_right d _ u))))
    in
    rw z
digits-two_other (a ∷ b ∷ c ∷ l) e n = absurd (omega arith)

pub digits_other : (l : List ℕ) → (length l ≡ 1 → 49 ≤ get_or l 0 0 → get_or l 0 0 ≤ 57 → ⊥) → (length l ≡ 2 → get_or l 0 0 ≡ 49 → 48 ≤ get_or l 1 0 → get_or l 1 0 ≤ 54 → ⊥) → None ≡ layer_digits l
digits_other [] n m = digits-none [] (λ e. omega arith) (λ e. omega arith)
digits_other (a ∷ []) n m = digits-one_other (a ∷ []) refl (n refl)
digits_other (a ∷ b ∷ []) n m = digits-two_other (a ∷ b ∷ []) refl (m refl)
digits_other (a ∷ b ∷ c ∷ l) n m = digits-none (a ∷ b ∷ c ∷ l) (λ e. omega arith) (λ e. omega arith)

-- a layer: one or two digits behind `metal`
module _ (text : List ℕ) (w : Span) (h : w.at ≤ w.next) (k : w.next ≤ length text) where
  pub layer-none : (w.next - w.at ≡ 6 → ⊥) → (w.next - w.at ≡ 7 → ⊥) → None ≡ layer_of (spelling text w)
  unfolding layer_of
  layer-none n m =
      let e = length-drop 5 (spelling text w) in
      let s = spelling-length text w h k in
      rw (← digits-none (drop 5 (spelling text w)) (λ y. n (omega arith)) (λ z. m (omega arith)))
      (by (same (take 5 (spelling text w)) metal_word) (λ y. rw y) (λ z. rw z))

  module _ (l : 5 < w.next - w.at) (t : Bool) (e : t ≡ same (spelling text (record { at = w.at; next = w.at + 5 })) metal_word) where
    layer-parts : layer_of (spelling text w) ≡ cond t (layer_digits (take (w.next - (w.at + 5)) (drop (w.at + 5) text))) None
    unfolding layer_of spelling
    layer-parts =
        let n : w.next - w.at ≡ 5 + (w.next - (w.at + 5)) = omega arith in
        let m : w.at + 5 - w.at ≡ 5 = omega arith in
        let f = length-take-le 5 (drop w.at text) (omega (arith, length-drop w.at text)) in
        rw (e, n, m, take-add 5 (w.next - (w.at + 5)) (drop w.at text), take_at _ _ 5 f, drop_at _ _ 5 f, drop-drop 5 w.at text)

    pub layer_other : t ≡ false → None ≡ layer_of (spelling text w)
    layer_other z = rw (layer-parts, z)

    module _ (y : t ≡ true) where
      pub layer-one : w.next - w.at ≡ 6 → layer_digits (get_or text (w.at + 5) 0 ∷ []) ≡ layer_of (spelling text w)
      layer-one n =
          rw (layer-parts, y, part-cons text (w.at + 5) w.next (omega arith) k, part_none text (w.at + 5 + 1) w.next (omega arith))

      pub layer-two : w.next - w.at ≡ 7 → layer_digits (get_or text (w.at + 5) 0 ∷ get_or text (w.at + 5 + 1) 0 ∷ []) ≡ layer_of (spelling text w)
      layer-two n =
          rw (
            layer-parts,
            y,
            part-cons text (w.at + 5) w.next (omega arith) k,
            part-cons text (w.at + 5 + 1) w.next (omega arith) k,
            part_none text (w.at + 5 + 1 + 1) w.next (omega arith),
          )
