-- The weight of a piece, wire by wire: of a piece with nodes, and of a stretch between two jumpers.
-- Assumes nothing.
use Prim.Native.Nat.{ℕ, suc, ◌+◌, ◌-◌, ◌*◌, ◌≤◌, ◌<◌}
use Rattle.std.specs.Prelude.{◌≡◌, refl, Bool, true, ◌&&◌, ltb, eqb}
use Rattle.std.proofs.Math.Path.{sym}
use Rattle.std.proofs.Common.{◌∙◌, ap, arith}
use Rattle.std.proofs.Math.Bool.{false}
use native.Mathlib.Nat.{mul-zero, sub-zero}
use Rattle.std.proofs.Math.Dec.{leb}
use borrow.Author.Tests.{leb-true, lt-ltb, le-ltb, le-leb, lt-leb, ne_eqb}
use Rattle.laws.specs.Sum.{χ, sum, any, highest}
use Rattle.laws.specs.Sums.{by, not_true_false, and_true, and_false, and_left, and_right, and_intro, and_no_left, and_no_right, χ-yes, χ-no, χ_ap, χ-zero, sum_ap, sum-+, sum-zero, sum_one, sum-stretch, highest-passes, highest-none, highest-≥, highest-last}
use Rattle.net.specs.Stage.{Stage}
use Rattle.net.specs.Formed.{Formed}
use Rattle.pieces.specs.Piece.{Points, Element, step, Group, weight_of}
use Rattle.pieces.specs.Real.{Real, a_step, real_is}
use Rattle.pieces.specs.Inside.{Inside}
use Rattle.pieces.specs.Name.{cut_at, first_jumper, last_jumper, lowest_node, step_name, named, name}
use Rattle.pieces.specs.Weight.{wire_adds, node_weight}
use Rattle.pieces.specs.Jumpers.{first-≤, first-last, first-least, last-most, above_first_cut, step-cases, number-low, number-high, number_mid, position-low, position-high, position_mid, below_mid}
use Rattle.pieces.specs.Named.{named-yes, named-stretch}

-- groups with the same elements weigh the same
pub weight-same : (s : Stage) (P Q : Group) → ((e : Element) → P e ≡ Q e) → weight_of s P ≡ weight_of s Q
unfolding weight_of
weight-same s P Q same =
    sum_ap s.nodes (λ i l.
    ap (λ (x : ℕ). χ (s.present i) x) (sum_ap (s.len i) (λ t k. ap (λ (b : Bool). χ b (s.factor i)) (same (step i (suc t))))))

χ-mul : (t : Bool) (n x : ℕ) → n * χ t x ≡ χ t (n * x)
χ-mul true n x = refl
χ-mul false n x = mul-zero n

-- the name of a real step decides whether it is in a named group
named_step : (s : Stage) (J : Points) (n p a b i t : ℕ) → Real s (step i t) → (step_name s J i t).number ≡ a → (step_name s J i t).position ≡ b →
    named s J (name n p) (step i t) ≡ (eqb a n && eqb b p)
unfolding named
named_step s J n p a b i t r x y = rw (real_is s r, x, y)

module _ (s : Stage) (J : Points) (inside : Inside s J) (h i : ℕ) (present : s.present i ≡ true) where
  -- what a step adds to the piece whose lowest node is h
  low-adds : ℕ → ℕ
  low-adds t = χ (ltb t (first_jumper s J i)) (χ (eqb (lowest_node s J i) h) (s.factor i))

  high-adds : ℕ → ℕ
  high-adds t = χ (cut_at s J i && leb (last_jumper s J i) t) (χ (eqb (lowest_node s J (s.parent i)) h) (s.factor i))

  step-adds : (t : ℕ) → t < s.len i → χ (named s J (name h 0) (step i (suc t))) (s.factor i) ≡ low-adds t + high-adds t
  unfolding low-adds high-adds
  step-adds t l =
      let r : Real s (step i (suc t)) = a_step {t = suc t} present (omega arith) l in
      step-cases s J inside i (suc t)
      (λ low.
      let e = named_step s J h 0 (lowest_node s J i) 0 i (suc t) r (number-low s J inside i (suc t) low) (position-low s J inside i (suc t) low) in
      rw (e, and_true (eqb (lowest_node s J i) h), lt-ltb t (first_jumper s J i) low, not-above low) (omega arith))
      (λ f g.
      let e =
      named_step s J h 0 (lowest_node s J (s.parent i)) 0 i (suc t) r (number-high s J inside i (suc t) f g) (position-high s J inside i (suc t) f g) in
      rw (e, and_true (eqb (lowest_node s J (s.parent i)) h), le-ltb t (first_jumper s J i) (omega arith), above_first_cut s J inside i (suc t) l f, le-leb (last_jumper s J i) t (omega arith)) (omega arith))
      (λ f g.
      let b = below_mid s J inside i (suc t) l f in
      let c = inside i (highest (suc t) (λ p. J i p)) b.1 in
      let e =
      named_step s J h 0 i (highest (suc t) (λ p. J i p)) i (suc t) r (number_mid s J inside i (suc t) f g) (position_mid s J inside i (suc t) f g) in
      rw (e, ne_eqb (highest (suc t) (λ p. J i p)) 0 (λ z. omega arith), and_false (eqb i h), le-ltb t (first_jumper s J i) (omega arith), above_first_cut s J inside i (suc t) l f, lt-leb (last_jumper s J i) t g) (omega arith))
    where
      not-above : suc t ≤ first_jumper s J i → (cut_at s J i && leb (last_jumper s J i) t) ≡ false
      not-above low =
          not_true_false (cut_at s J i && leb (last_jumper s J i) t) (λ y.
          let c = first-last s J inside i (and_left (cut_at s J i) (leb (last_jumper s J i) t) y) in
          let d = leb-true (last_jumper s J i) t (and_right (cut_at s J i) (leb (last_jumper s J i) t) y) in
          omega arith)

  low_sum : sum (s.len i) low-adds ≡ χ (eqb (lowest_node s J i) h) (first_jumper s J i * s.factor i)
  unfolding low-adds
  low_sum =
      let x = χ (eqb (lowest_node s J i) h) (s.factor i) in
      sum-stretch (s.len i) 0 (first_jumper s J i) x low-adds (omega arith) (first-≤ s J inside i)
      (λ t y z. χ-yes x (lt-ltb t (first_jumper s J i) z))
      (λ t y z. absurd (native.Mathlib.Nat.lt_irrefl 0 (omega arith)))
      (λ t y z. χ-no x (le-ltb t (first_jumper s J i) z))
      ∙ rw (sub-zero (first_jumper s J i)) (χ-mul (eqb (lowest_node s J i) h) (first_jumper s J i) (s.factor i))

  high_sum : sum (s.len i) high-adds ≡ χ (cut_at s J i && eqb (lowest_node s J (s.parent i)) h) ((s.len i - last_jumper s J i) * s.factor i)
  unfolding high-adds
  high_sum =
      let x = χ (eqb (lowest_node s J (s.parent i)) h) (s.factor i) in
      by (cut_at s J i)
      (λ c.
      let b = first-last s J inside i c in
      sum-stretch (s.len i) (last_jumper s J i) (s.len i) x high-adds (omega arith) (omega arith)
      (λ t y z. χ-yes x (and_intro c (le-leb (last_jumper s J i) t y)))
      (λ t y z. χ-no x (and_no_right (cut_at s J i) (lt-leb (last_jumper s J i) t z)))
      (λ t y z. absurd (native.Mathlib.Nat.lt_irrefl 0 (omega arith)))
      ∙ (χ-mul (eqb (lowest_node s J (s.parent i)) h) (s.len i - last_jumper s J i) (s.factor i) ∙ rw c))
      (λ u.
      sum-zero (s.len i) {f = high-adds} (λ t l. χ-no x (and_no_left (leb (last_jumper s J i) t) u))
      ∙ sym (χ-no ((s.len i - last_jumper s J i) * s.factor i) (and_no_left (eqb (lowest_node s J (s.parent i)) h) u)))

  wire-adds : sum (s.len i) (λ t. χ (named s J (name h 0) (step i (suc t))) (s.factor i)) ≡ wire_adds s J h i
  unfolding wire_adds
  wire-adds =
      let a = sum_ap (s.len i) {g = λ t. low-adds t + high-adds t} step-adds in
      let b = sum-+ (s.len i) low-adds high-adds in
      omega (arith, low_sum, high_sum)

module _ (s : Stage) (J : Points) (inside : Inside s J) where
  -- the weight of the piece whose lowest node is h
  pub class_weight : (h : ℕ) → weight_of s (named s J (name h 0)) ≡ node_weight s J h
  unfolding weight_of node_weight
  class_weight h = sum_ap s.nodes (λ i l. χ_ap (s.present i) (λ p. wire-adds s J inside h i p))

  -- the weight of the stretch between the consecutive jumpers p and q of wire i
  pub stretch-weight : Formed s → (i p q : ℕ) → s.present i ≡ true → J i p ≡ true → J i q ≡ true → p < q → ((t : ℕ) → p < t → t < q → J i t ≡ false) →
      weight_of s (named s J (name i p)) ≡ (q - p) * s.factor i
  unfolding weight_of
  stretch-weight formed i p q present at_p at-q less none =
      sum_one s.nodes i adds (formed.inside i present) (λ j l ne. χ_ap (s.present j) (λ w. others j ne) ∙ χ-zero (s.present j))
      ∙ (χ-yes (sum (s.len i) (λ t. χ (named s J (name i p) (step i (suc t))) (s.factor i))) present ∙ own)
    where
      adds : ℕ → ℕ
      adds j = χ (s.present j) (sum (s.len j) (λ t. χ (named s J (name i p) (step j (suc t))) (s.factor j)))

      low : 1 ≤ p
      low = (inside i p at_p).0

      others : (j : ℕ) → (j ≡ i → ⊥) → sum (s.len j) (λ t. χ (named s J (name i p) (step j (suc t))) (s.factor j)) ≡ 0
      others j ne =
          sum-zero (s.len j) (λ t l.
          χ-no (s.factor j) (not_true_false (named s J (name i p) (step j (suc t))) (λ y. ne (sym (named-stretch s J formed inside i p j (suc t) low y).0))))

      out : (t : ℕ) → (highest (suc t) (λ x. J i x) ≡ p → ⊥) → χ (named s J (name i p) (step i (suc t))) (s.factor i) ≡ 0
      out t ne = χ-no (s.factor i) (not_true_false (named s J (name i p) (step i (suc t))) (λ y. ne (named-stretch s J formed inside i p i (suc t) low y).3))

      below : (t : ℕ) → highest (suc t) (λ x. J i x) ≡ p → p < suc t
      below t e =
          by (any (suc t) (λ x. J i x))
          (λ y. let r = highest-passes (suc t) (λ x. J i x) y in omega (arith, r.0))
          (λ z. let r = highest-none (suc t) (λ x. J i x) z in omega arith)

      own : sum (s.len i) (λ t. χ (named s J (name i p) (step i (suc t))) (s.factor i)) ≡ (q - p) * s.factor i
      own =
          let b = inside i q at-q in
          sum-stretch (s.len i) p q (s.factor i) (λ t. χ (named s J (name i p) (step i (suc t))) (s.factor i)) (omega arith) (omega arith)
          (λ t y z.
          let f = first-least s J inside i p at_p in
          let l = last-most s J inside i q at-q in
          let f' : first_jumper s J i < suc t = omega arith in
          let l' : suc t ≤ last_jumper s J i = omega arith in
          χ-yes (s.factor i)
          (named-yes s J (step i (suc t)) (a_step {t = suc t} present (omega arith) (omega arith)) (number_mid s J inside i (suc t) f' l')
          (position_mid s J inside i (suc t) f' l' ∙ highest-last (suc t) p (λ x. J i x) (omega arith) at_p (λ x u v. none x u (omega arith)))))
          (λ t y z.
          out t (λ e. let r = below t e in omega arith))
          (λ t y z.
          out t (λ e. let r = highest-≥ (suc t) q (λ x. J i x) (omega arith) at-q in omega arith))
