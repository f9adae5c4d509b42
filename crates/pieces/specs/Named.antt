-- The elements of a name are a piece, and every piece is the elements of one name.
-- Assumes nothing.
use Rattle.std.specs.Prelude.{ℕ, suc, ◌≤◌, ◌<◌, ◌≡◌, refl, true, false, ◌&&◌}
use Rattle.std.proofs.Common.{sym, ◌∙◌, arith}
use Rattle.std.proofs.Math.Dec.{eqb}
use borrow.Author.Tests.{eq-eqb, eqb-true}
use Rattle.laws.specs.Sum.{highest}
use Rattle.laws.specs.Sums.{by, no_both, not_true_false, and_left, and_right, and_intro}
use Rattle.net.specs.Stage.{Stage}
use Rattle.net.specs.Formed.{Formed}
use Rattle.pieces.specs.Piece.{Points, Element, node, step, Touch, along, foot, head, via, Connected, touching, same, back, chain, Group, Piece, is_real}
use Rattle.pieces.specs.Real.{Real, a_node, a_step, real_is, is_real_lem}
use Rattle.pieces.specs.Inside.{Inside}
use Rattle.pieces.specs.Name.{first_jumper, last_jumper, name_of, named, name}
use Rattle.pieces.specs.Jumpers.{step-cases, number_mid, position-low, position-high, position_mid}
use Rattle.pieces.specs.Names.{connected-name, name-connected}

module _ (s : Stage) (J : Points) where
  pub named-yes : {n p : ℕ} (e : Element) → Real s e → (name_of s J e).number ≡ n → (name_of s J e).position ≡ p → named s J (name n p) e ≡ true
  unfolding named
  named-yes {n} {p} e r a b = and_intro (real_is s r) (and_intro (eq-eqb (name_of s J e).number n a) (eq-eqb (name_of s J e).position p b))

  pub named-real : (n p : ℕ) (e : Element) → named s J (name n p) e ≡ true → Real s e
  unfolding named
  named-real n p e h = is_real_lem s e (and_left (is_real s e) (eqb (name_of s J e).number n && eqb (name_of s J e).position p) h)

  pub named-number : (n p : ℕ) (e : Element) → named s J (name n p) e ≡ true → (name_of s J e).number ≡ n
  unfolding named
  named-number n p e h =
      let r = and_right (is_real s e) (eqb (name_of s J e).number n && eqb (name_of s J e).position p) h in
      eqb-true (name_of s J e).number n (and_left (eqb (name_of s J e).number n) (eqb (name_of s J e).position p) r)

  pub named-position : (n p : ℕ) (e : Element) → named s J (name n p) e ≡ true → (name_of s J e).position ≡ p
  unfolding named
  named-position n p e h =
      let r = and_right (is_real s e) (eqb (name_of s J e).number n && eqb (name_of s J e).position p) h in
      eqb-true (name_of s J e).position p (and_right (eqb (name_of s J e).number n) (eqb (name_of s J e).position p) r)

module _ (s : Stage) (J : Points) (formed : Formed s) where
  parent-real : (i : ℕ) → s.present i ≡ true → Real s (node (s.parent i))
  parent-real i p = let a = formed.inside i p in let b = formed.below i p in a_node {i = s.parent i} (omega arith)

  touch_real : {d e : Element} → Touch s J d e → Real s d × Real s e
  touch_real (along {i} {t} p low high n) = (a_step {t = t} p low (omega arith), a_step {t = suc t} p (omega arith) high)
  touch_real (foot {i} p l) = (a_node (formed.inside i p), a_step {t = 1} p (omega arith) l)
  touch_real (head {i} p l) = (a_step {t = s.len i} p l (omega arith), parent-real i p)
  touch_real (via {i} p l) = (a_node (formed.inside i p), parent-real i p)

  -- what is connected to a real element is real
  connected-real : {d e : Element} → Connected s J d e → (Real s d → Real s e) × (Real s e → Real s d)
  connected-real (touching t) = let r = touch_real t in (λ x. r.1, λ x. r.0)
  connected-real same = (λ x. x, λ x. x)
  connected-real (back c) = let r = connected-real c in (r.1, r.0)
  connected-real (chain c c') =
      let r = connected-real c in let q = connected-real c' in (λ x. q.0 (r.0 x), λ x. r.1 (q.1 x))

module _ (s : Stage) (J : Points) (formed : Formed s) (inside : Inside s J) where
  pub named-piece : (e : Element) → Real s e → Piece s J (named s J (name_of s J e))
  named-piece e r =
      let n = (name_of s J e).number in
      let p = (name_of s J e).position in
      record {
        one = e;
        has_one = named-yes s J e r refl refl;
        real = λ f x. real_is s (named-real s J n p f x);
        connected = λ d f x y.
            name-connected s J formed inside d f (named-real s J n p d x) (named-real s J n p f y)
            (named-number s J n p d x ∙ sym (named-number s J n p f y), named-position s J n p d x ∙ sym (named-position s J n p f y));
        largest = λ d f x c.
            let m = connected-name s J formed inside c in
            named-yes s J f ((connected-real s J formed c).0 (named-real s J n p d x)) (sym m.0 ∙ named-number s J n p d x) (sym m.1 ∙ named-position s J n p d x);
      }

  pub piece-named : (P : Group) → Piece s J P → (d : Element) → P d ≡ true → (e : Element) → P e ≡ named s J (name_of s J d) e
  piece-named P piece d has e =
      let n = (name_of s J d).number in
      let p = (name_of s J d).position in
      by (P e)
      (λ y.
      let m = connected-name s J formed inside (piece.connected d e has y) in
      y ∙ sym (named-yes s J e (is_real_lem s e (piece.real e y)) (sym m.0) (sym m.1)))
      (λ z.
      z ∙ sym (not_true_false (named s J (name n p) e) (λ y.
      no_both
      (piece.largest d e has
      (name-connected s J formed inside d e (is_real_lem s d (piece.real d has)) (named-real s J n p e y)
      (sym (named-number s J n p e y), sym (named-position s J n p e y))))
      z)))

  -- a name with a position above 0 has no node
  pub stretch_no_node : (n p k : ℕ) → 1 ≤ p → named s J (name n p) (node k) ≡ false
  stretch_no_node n p k q =
      not_true_false (named s J (name n p) (node k)) (λ y. let e : 0 ≡ p = named-position s J n p (node k) y in omega arith)

  -- a name with a position above 0 is a stretch between two jumpers of one wire
  pub named-stretch : (n p i t : ℕ) → 1 ≤ p → named s J (name n p) (step i t) ≡ true →
      (n ≡ i) × (first_jumper s J i < t) × (t ≤ last_jumper s J i) × (highest t (λ x. J i x) ≡ p)
  named-stretch n p i t q y =
      let num = named-number s J n p (step i t) y in
      let pos = named-position s J n p (step i t) y in
      step-cases s J inside i t
      (λ low. let e = position-low s J inside i t low in absurd (native.Mathlib.Nat.lt_irrefl 0 (omega arith)))
      (λ f h. let e = position-high s J inside i t f h in absurd (native.Mathlib.Nat.lt_irrefl 0 (omega arith)))
      (λ f h. (sym num ∙ number_mid s J inside i t f h, f, h, sym (position_mid s J inside i t f h) ∙ pos))
