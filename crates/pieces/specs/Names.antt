-- Two elements have one name exactly when they are connected.
-- Assumes nothing.
use Prim.Native.Nat.{ℕ, zero, suc, ◌≤◌, ◌<◌}
use Rattle.std.specs.Prelude.{◌≡◌, refl, true, cond, eqb}
use Rattle.std.proofs.Math.Path.{sym}
use Rattle.std.proofs.Common.{◌∙◌}
use Rattle.std.proofs.Math.Bool.{false}
use native.Mathlib.Omega.{arith}
use borrow.Author.Tests.{ne_eqb, eqb-true, eqb-false}
use Rattle.laws.specs.Sum.{any, highest}
use Rattle.laws.specs.Sums.{by, no_both, highest-most}
use Rattle.net.specs.Stage.{Stage}
use Rattle.net.specs.Formed.{Formed}
use Rattle.pieces.specs.Piece.{Points, Element, node, step, Touch, along, foot, head, via, Connected, touching, same, back, chain}
use Rattle.pieces.specs.Real.{Real, a_step}
use Rattle.pieces.specs.Inside.{Inside}
use Rattle.pieces.specs.Name.{cut_at, first_jumper, last_jumper, joins, lowest_node, name_of}
use Rattle.pieces.specs.Lowest.{joins-yes, joins-present, joins-uncut, lowest_node-up, lowest_node-stop, joins-below}
use Rattle.pieces.specs.Jumpers.{first-uncut, first-jumper, last-jumper, below-first, above-last, first-≤, first-last, above_first_cut, step-cases, number-low, position-low, number-high, position-high, number_mid, position_mid, below_mid}

-- two elements have one name
abbrev pub SameName : Stage → Points → Element → Element → Type 0
SameName s J d e = ((name_of s J d).number ≡ (name_of s J e).number) × ((name_of s J d).position ≡ (name_of s J e).position)

-- an element of a name
chosen : ℕ → ℕ → Element
chosen n p = cond (eqb p 0) (node n) (step n (suc p))

module _ (s : Stage) (J : Points) (formed : Formed s) (inside : Inside s J) where
  along-name : (i t : ℕ) → t < s.len i → J i t ≡ false → SameName s J (step i t) (step i (suc t))
  unfolding highest
  along-name i t l n =
      step-cases s J inside i t
      (λ low.
      let low' : suc t ≤ first_jumper s J i = not_first low in
      (number-low s J inside i t low ∙ sym (number-low s J inside i (suc t) low'), position-low s J inside i t low ∙ sym (position-low s J inside i (suc t) low')))
      (λ p q.
      let p' : first_jumper s J i < suc t = omega arith in
      let q' : last_jumper s J i < suc t = omega arith in
      (number-high s J inside i t p q ∙ sym (number-high s J inside i (suc t) p' q'), position-high s J inside i t p q ∙ sym (position-high s J inside i (suc t) p' q')))
      (λ p q.
      let p' : first_jumper s J i < suc t = omega arith in
      let q' : suc t ≤ last_jumper s J i = not_last p q in
      let e : highest (suc t) (λ p. J i p) ≡ highest t (λ p. J i p) = rw n in
      (number_mid s J inside i t p q ∙ sym (number_mid s J inside i (suc t) p' q'), position_mid s J inside i t p q ∙ sym (position_mid s J inside i (suc t) p' q' ∙ e)))
    where
      not_first : t ≤ first_jumper s J i → suc t ≤ first_jumper s J i
      not_first low =
          by (cut_at s J i)
          (λ c.
          by (eqb t (first_jumper s J i))
          (λ e. absurd (no_both (rw (← eqb-true t (first_jumper s J i) e) at (first-jumper s J inside i c)) n))
          (λ e. let ne = eqb-false t (first_jumper s J i) e in omega arith))
          (λ u. let e = first-uncut s J inside i u in omega arith)

      not_last : first_jumper s J i < t → t ≤ last_jumper s J i → suc t ≤ last_jumper s J i
      not_last p q =
          by (eqb t (last_jumper s J i))
          (λ e.
          absurd (no_both (rw (← eqb-true t (last_jumper s J i) e) at (last-jumper s J inside i (above_first_cut s J inside i t (omega arith) p))) n))
          (λ e. let ne = eqb-false t (last_jumper s J i) e in omega arith)

  foot-name : (i : ℕ) → 1 ≤ s.len i → SameName s J (node i) (step i 1)
  foot-name i l = (sym (number-low s J inside i 1 low), sym (position-low s J inside i 1 low))
    where
      low : 1 ≤ first_jumper s J i
      low =
          by (cut_at s J i) (λ c. (first-last s J inside i c).0) (λ u. let e = first-uncut s J inside i u in omega arith)

  head-name : (i : ℕ) → s.present i ≡ true → SameName s J (step i (s.len i)) (node (s.parent i))
  head-name i present =
      by (cut_at s J i)
      (λ c.
      let b = first-last s J inside i c in
      let p : first_jumper s J i < s.len i = omega arith in
      let q : last_jumper s J i < s.len i = omega arith in
      (number-high s J inside i (s.len i) p q, position-high s J inside i (s.len i) p q))
      (λ u.
      let e = first-uncut s J inside i u in
      let p : s.len i ≤ first_jumper s J i = omega arith in
      (number-low s J inside i (s.len i) p ∙ lowest_node-up s J formed i (joins-yes s J i present u), position-low s J inside i (s.len i) p))

  via-name : (i : ℕ) → s.present i ≡ true → s.len i ≡ 0 → SameName s J (node i) (node (s.parent i))
  unfolding cut_at any
  via-name i present l =
      let u : cut_at s J i ≡ false = rw l in
      (lowest_node-up s J formed i (joins-yes s J i present u), refl)

  touch_name : {d e : Element} → Touch s J d e → SameName s J d e
  touch_name (along {i} {t} p low high n) = along-name i t high n
  touch_name (foot {i} p l) = foot-name i l
  touch_name (head {i} p l) = head-name i p
  touch_name (via {i} p l) = via-name i p l

  pub connected-name : {d e : Element} → Connected s J d e → SameName s J d e
  connected-name (touching t) = touch_name t
  connected-name same = (refl, refl)
  connected-name (back c) = let n = connected-name c in (sym n.0, sym n.1)
  connected-name (chain c c') = let n = connected-name c in let m = connected-name c' in (n.0 ∙ m.0, n.1 ∙ m.1)

  -- steps with no jumper between them
  steps-connected : (i a b : ℕ) → s.present i ≡ true → 1 ≤ a → a ≤ b → b ≤ s.len i → ((x : ℕ) → a ≤ x → x < b → J i x ≡ false) → Connected s J (step i a) (step i b)
  steps-connected i a zero present p q l n = absurd (native.Mathlib.Nat.lt_irrefl 0 (omega arith))
  steps-connected i a (suc b) present p q l n =
      by (eqb a (suc b))
      (λ e. rw (eqb-true a (suc b) e) same)
      (λ e.
      let ne = eqb-false a (suc b) e in
      chain (steps-connected i a b present p (omega arith) (omega arith) (λ x y z. n x y (omega arith))) (touching (along present (omega arith) (omega arith) (n b (omega arith) (omega arith)))))

  to-foot : (i t : ℕ) → s.present i ≡ true → 1 ≤ t → t ≤ first_jumper s J i → Connected s J (step i t) (node i)
  to-foot i t present p q =
      let l = first-≤ s J inside i in
      back (chain (touching (foot present (omega arith))) (steps-connected i 1 t present (omega arith) p (omega arith) (λ x y z. below-first s J inside i x (omega arith))))

  to-head : (i t : ℕ) → s.present i ≡ true → 1 ≤ t → t ≤ s.len i → last_jumper s J i < t → Connected s J (step i t) (node (s.parent i))
  to-head i t present p l q =
      chain (steps-connected i t (s.len i) present p l (omega arith) (λ x y z. above-last s J inside i x (omega arith))) (touching (head present (omega arith)))

  joins-connected : (i : ℕ) → joins s J i ≡ true → Connected s J (node i) (node (s.parent i))
  joins-connected i j =
      let present = joins-present s J i j in
      let e = first-uncut s J inside i (joins-uncut s J i j) in
      by (eqb (s.len i) 0)
      (λ z. touching (via present (eqb-true (s.len i) 0 z)))
      (λ z.
      let ne = eqb-false (s.len i) 0 z in
      chain (back (to-foot i (s.len i) present (omega arith) (omega arith))) (touching (head present (omega arith))))

  pub to-lowest : (i : ℕ) → Connected s J (node i) (node (lowest_node s J i))
  to-lowest i = below (suc i) i (omega arith)
    where
      below : (k i : ℕ) → i < k → Connected s J (node i) (node (lowest_node s J i))
      below zero i p = absurd (native.Mathlib.Nat.lt_irrefl 0 (omega arith))
      below (suc k) i p =
          by (joins s J i)
          (λ j.
          let b = joins-below s J formed i j in
          rw (lowest_node-up s J formed i j) (chain (joins-connected i j) (below k (s.parent i) (omega arith))))
          (λ j. rw (lowest_node-stop s J formed i j) same)

  -- every element is connected to the chosen one of its name
  to-chosen : (e : Element) → Real s e → Connected s J e (chosen (name_of s J e).number (name_of s J e).position)
  unfolding chosen
  to-chosen (node i) r = to-lowest i
  to-chosen (step i t) (a_step present p l) =
      step-cases s J inside i t
      (λ low.
      rw (number-low s J inside i t low, position-low s J inside i t low) (chain (to-foot i t present p low) (to-lowest i)))
      (λ f h.
      rw (number-high s J inside i t f h, position-high s J inside i t f h) (chain (to-head i t present p l h) (to-lowest (s.parent i))))
      (λ f h.
      let b = below_mid s J inside i t l f in
      let g = inside i (highest t (λ p. J i p)) b.1 in
      rw (number_mid s J inside i t f h, position_mid s J inside i t f h, ne_eqb (highest t (λ p. J i p)) 0 (λ e. omega arith)) (back (steps-connected i (suc (highest t (λ p. J i p))) t present (omega arith) (omega arith) l (λ x y z. highest-most t x (λ p. J i p) z y))))

  pub name-connected : (d e : Element) → Real s d → Real s e → SameName s J d e → Connected s J d e
  name-connected d e r r' n =
      let c : Connected s J d (chosen (name_of s J e).number (name_of s J e).position) = rw (n.0, n.1) at (to-chosen d r) in
      chain c (back (to-chosen e r'))
