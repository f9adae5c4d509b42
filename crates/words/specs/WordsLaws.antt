-- Laws of the words of a text: where they stand, and when they are the same.
-- Assumes nothing.
use Rattle.std.specs.Prelude.{ℕ, ◌+◌, ◌-◌, ◌<◌, ◌≤◌, ◌≡◌, refl, Bool, true, false, cond, ◌&&◌, Some, None, eqb, ltb, length, take, drop, get_or}
use Rattle.std.specs.List.{prefix_len}
use Rattle.std.proofs.Common.{◌∙◌, sym, ap, add-one, drop_of_length-le, ext_get_or}
use Rattle.std.proofs.lemmas.Bool.{ltb-true, ltb-false, not-true}
use Rattle.std.proofs.Math.Bool.{not}
use mathlib.Core.List.{List, [], ◌∷◌}
use native.Mathlib.Omega.{arith}
use Rattle.std.proofs.Math.ListN.{length-drop}
use Rattle.std.proofs.Math.Seq.{length-take-le, drop-cons, get_or-take, get_or-drop}
use Rattle.std.proofs.lemmas.List.Sums.{prefix_len-le-length}
use Rattle.std.proofs.lemmas.Slice.Eq.{bytes_eq-Decides}
use Rattle.laws.specs.Sums.{by, and_left, and_right, not_true_false}
use Rattle.words.specs.Words.{Span, blank, word_start, word_end, word_from, spelling, same, digit, metal_word, layer_digits, layer_of}

-- how many bytes from a place on pass a test
module _ (test : ℕ → Bool) (l : List ℕ) (i : ℕ) where
  prefix-fits : i ≤ length l → i + prefix_len test (drop i l) ≤ length l
  prefix-fits h = omega (arith, prefix_len-le-length test (drop i l), length-drop i l)

  pub leading-more : i < length l → test (get_or l i 0) ≡ true → i + 1 + prefix_len test (drop (i + 1) l) ≡ i + prefix_len test (drop i l)
  leading-more h e = rw (add-one i, drop-cons l i 0 h, e) (omega arith)

  pub leading-stop : i < length l → test (get_or l i 0) ≡ false → i + prefix_len test (drop i l) ≡ i
  leading-stop h e = rw (drop-cons l i 0 h, e) (omega arith)

  pub leading_end : length l ≤ i → i + prefix_len test (drop i l) ≡ i
  leading_end h = rw (drop_of_length-le l h) (omega arith)

-- a word stands between its place and the text's length
module _ (text : List ℕ) (place : ℕ) (h : place ≤ length text) where
  start_fits : word_start text place ≤ length text
  unfolding word_start
  start_fits = prefix-fits blank text place h

  pub place-≤-at : place ≤ (word_from text place).at
  unfolding word_start
  place-≤-at = omega arith

  pub at-≤-next : (word_from text place).at ≤ (word_from text place).next
  unfolding word_end
  at-≤-next = omega arith

  pub next_fits : (word_from text place).next ≤ length text
  unfolding word_end
  next_fits = prefix-fits (λ b. not (blank b)) text (word_start text place) start_fits

-- the same words
pub same-eq : (l m : List ℕ) → same l m ≡ true → l ≡ m
same-eq l m = (bytes_eq-Decides l m).0

pub same_self : (l : List ℕ) → same l l ≡ true
same_self l = (bytes_eq-Decides l l).1 refl

-- the bytes of a word
module _ (text : List ℕ) (w : Span) (h : w.at ≤ w.next) (k : w.next ≤ length text) where
  pub spelling-length : length (spelling text w) ≡ w.next - w.at
  unfolding spelling
  spelling-length = length-take-le (w.next - w.at) (drop w.at text) (omega (arith, length-drop w.at text))

  spelling-byte : (i : ℕ) → i < w.next - w.at → get_or (spelling text w) i 0 ≡ get_or text (w.at + i) 0
  unfolding spelling
  spelling-byte i l = get_or-take (w.next - w.at) (drop w.at text) i 0 l ∙ get_or-drop w.at text i 0

  module _ (m : List ℕ) where
    -- a word that is spelled so
    module _ (e : same (spelling text w) m ≡ true) where
      pub spelled-next : w.next ≡ w.at + length m
      spelled-next = omega (arith, spelling-length, ap length (same-eq (spelling text w) m e))

      pub spelled-byte : (i : ℕ) → i < length m → get_or text (w.at + i) 0 ≡ get_or m i 0
      spelled-byte i l = sym (spelling-byte i (omega (arith, spelled-next))) ∙ ap (λ (s : List ℕ). get_or s i 0) (same-eq (spelling text w) m e)

    pub spelled : w.next - w.at ≡ length m → ((i : ℕ) → i < length m → get_or text (w.at + i) 0 ≡ get_or m i 0)
        → same (spelling text w) m ≡ true
    spelled n f =
        rw (ext_get_or 0 (spelling text w) m (spelling-length ∙ n)
        (λ i l. let b : i < length m = omega (arith, spelling-length) in spelling-byte i (omega arith) ∙ f i b))
        (same_self m)

    -- a word of another length, or with another byte
    pub other_length : (w.next - w.at ≡ length m → ⊥) → same (spelling text w) m ≡ false
    other_length n = not_true_false (same (spelling text w) m) (λ e. n (omega (arith, spelled-next e)))

    pub other_byte : (i : ℕ) → i < length m → (get_or text (w.at + i) 0 ≡ get_or m i 0 → ⊥) → same (spelling text w) m ≡ false
    other_byte i l n = not_true_false (same (spelling text w) m) (λ e. n (spelled-byte e i l))

-- the same of the first word from a place on
module _ (text : List ℕ) (place : ℕ) (h : place ≤ length text) (m : List ℕ) (e : same (spelling text (word_from text place)) m ≡ true) where
  pub word_next : (word_from text place).next ≡ (word_from text place).at + length m
  word_next = spelled-next text (word_from text place) (at-≤-next text place h) (next_fits text place h) m e

  pub word_byte : (i : ℕ) → i < length m → get_or text ((word_from text place).at + i) 0 ≡ get_or m i 0
  word_byte = spelled-byte text (word_from text place) (at-≤-next text place h) (next_fits text place h) m e

-- the first layer is 1, and the last 16
chosen : (t : Bool) (x n : ℕ) → (t ≡ true → (0 < x) × (x ≤ 16)) → cond t (Some x) None ≡ Some n → (0 < n) × (n ≤ 16)
chosen true x n h e = let z : x ≡ n = cc in rw z at (h refl)
chosen false x n h e = cc

digits-most : (l : List ℕ) (n : ℕ) → layer_digits l ≡ Some n → (0 < n) × (n ≤ 16)
unfolding layer_digits digit
digits-most [] n e = cc
digits-most (a ∷ []) n e =
    chosen (ltb 48 a && ltb a 58) (a - 48) n
    (λ t. let l = ltb-true 48 a (and_left (ltb 48 a) _ t) in let m = ltb-true a 58 (and_right (ltb 48 a) _ t) in (omega arith, omega arith))
    e
digits-most (a ∷ b ∷ []) n e =
    let d = not (ltb b 48) && ltb b 58 in
    chosen (eqb a 49 && (d && ltb b 55)) (b - 38) n
    (λ t.
    let u = and_right (eqb a 49) _ t in
    let l = ltb-false b 48 (not-true (ltb b 48) (and_left (not (ltb b 48)) _ (and_left d _ u))) in
    let m = ltb-true b 55 (and_right d _ u) in
    (omega arith, omega arith))
    e
digits-most (a ∷ b ∷ c ∷ l) n e = cc

pub layer-most : (w : List ℕ) (n : ℕ) → layer_of w ≡ Some n → (0 < n) × (n ≤ 16)
unfolding layer_of
layer-most w n = by (same (take 5 w) metal_word) (λ y. rw y (digits-most (drop 5 w) n)) (λ z. rw z (λ e. cc))
