-- Laws of a wire's first and last jumper, and the three places that a step can have to them.
-- Assumes nothing.
use Rattle.std.specs.Prelude.{ℕ, ◌≤◌, ◌<◌, ◌≡◌, true, false, leb, ltb}
use Rattle.std.proofs.Common.{arith}
use borrow.Author.Tests.{ltb-true, ltb-false, leb-true, leb-false, lt-ltb, le-ltb, le-leb, lt-leb}
use Rattle.laws.specs.Sum.{highest}
use Rattle.laws.specs.Sums.{by, no_both, not_true_false, any-yes, lowest-passes, lowest-least, lowest-none, lowest-≤, highest-passes, highest-most, highest-none}
use Rattle.net.specs.Stage.{Stage}
use Rattle.pieces.specs.Piece.{Points}
use Rattle.pieces.specs.Inside.{Inside}
use Rattle.pieces.specs.Name.{cut_at, first_jumper, last_jumper, lowest_node, step_name}

module _ (s : Stage) (J : Points) (inside : Inside s J) where
  pub jumper-cuts : (i t : ℕ) → J i t ≡ true → cut_at s J i ≡ true
  unfolding cut_at
  jumper-cuts i t h = any-yes (s.len i) t (λ p. J i p) (inside i t h).1 h

  pub uncut-none : (i t : ℕ) → cut_at s J i ≡ false → J i t ≡ false
  uncut-none i t u = not_true_false (J i t) (λ h. no_both (jumper-cuts i t h) u)

  pub first-uncut : (i : ℕ) → cut_at s J i ≡ false → first_jumper s J i ≡ s.len i
  unfolding cut_at first_jumper
  first-uncut i u = lowest-none (s.len i) (λ t. J i t) u

  pub last-uncut : (i : ℕ) → cut_at s J i ≡ false → last_jumper s J i ≡ 0
  unfolding cut_at last_jumper
  last-uncut i u = highest-none (s.len i) (λ t. J i t) u

  pub first-≤ : (i : ℕ) → first_jumper s J i ≤ s.len i
  unfolding first_jumper
  first-≤ i = lowest-≤ (s.len i) (λ t. J i t)

  pub first-jumper : (i : ℕ) → cut_at s J i ≡ true → J i (first_jumper s J i) ≡ true
  unfolding cut_at first_jumper
  first-jumper i c = (lowest-passes (s.len i) (λ t. J i t) c).1

  pub last-jumper : (i : ℕ) → cut_at s J i ≡ true → J i (last_jumper s J i) ≡ true
  unfolding cut_at last_jumper
  last-jumper i c = (highest-passes (s.len i) (λ t. J i t) c).1

  pub below-first : (i t : ℕ) → t < first_jumper s J i → J i t ≡ false
  unfolding first_jumper
  below-first i t p = lowest-least (s.len i) t (λ p. J i p) p

  pub above-last : (i t : ℕ) → last_jumper s J i < t → J i t ≡ false
  unfolding last_jumper
  above-last i t p = not_true_false (J i t) (λ h. no_both h (highest-most (s.len i) t (λ q. J i q) (inside i t h).1 p))

  pub first-least : (i t : ℕ) → J i t ≡ true → first_jumper s J i ≤ t
  first-least i t h =
      by (ltb t (first_jumper s J i))
      (λ lt. absurd (no_both h (below-first i t (ltb-true t (first_jumper s J i) lt))))
      (λ ge. ltb-false t (first_jumper s J i) ge)

  pub last-most : (i t : ℕ) → J i t ≡ true → t ≤ last_jumper s J i
  last-most i t h =
      by (ltb (last_jumper s J i) t)
      (λ lt. absurd (no_both h (above-last i t (ltb-true (last_jumper s J i) t lt))))
      (λ ge. ltb-false (last_jumper s J i) t ge)

  -- the bounds of a cut wire's first and last jumper
  pub first-last : (i : ℕ) → cut_at s J i ≡ true → (1 ≤ first_jumper s J i) × (first_jumper s J i ≤ last_jumper s J i) × (last_jumper s J i < s.len i)
  first-last i c =
      let f = inside i (first_jumper s J i) (first-jumper i c) in
      let l = inside i (last_jumper s J i) (last-jumper i c) in
      let m = last-most i (first_jumper s J i) (first-jumper i c) in
      omega arith

  -- a wire with a step above its first jumper is cut
  pub above_first_cut : (i t : ℕ) → t ≤ s.len i → first_jumper s J i < t → cut_at s J i ≡ true
  above_first_cut i t p q =
      by (cut_at s J i) (λ c. c) (λ u. let e = first-uncut i u in absurd (native.Mathlib.Nat.lt_irrefl 0 (omega arith)))

  -- a step lies at or below the first jumper, above the last, or between two
  pub step-cases : {C : Type 0} (i t : ℕ) →
      (t ≤ first_jumper s J i → C) →
      (first_jumper s J i < t → last_jumper s J i < t → C) →
      (first_jumper s J i < t → t ≤ last_jumper s J i → C) → C
  step-cases i t low high mid =
      by (leb t (first_jumper s J i))
      (λ a. low (leb-true t (first_jumper s J i) a))
      (λ b.
      by (ltb (last_jumper s J i) t)
      (λ c. high (leb-false t (first_jumper s J i) b) (ltb-true (last_jumper s J i) t c))
      (λ d. mid (leb-false t (first_jumper s J i) b) (ltb-false (last_jumper s J i) t d)))

  -- the name of a step in each case
  pub number-low : (i t : ℕ) → t ≤ first_jumper s J i → (step_name s J i t).number ≡ lowest_node s J i
  unfolding step_name
  number-low i t p = rw (le-leb t (first_jumper s J i) p)

  pub position-low : (i t : ℕ) → t ≤ first_jumper s J i → (step_name s J i t).position ≡ 0
  unfolding step_name
  position-low i t p = rw (le-leb t (first_jumper s J i) p)

  pub number-high : (i t : ℕ) → first_jumper s J i < t → last_jumper s J i < t → (step_name s J i t).number ≡ lowest_node s J (s.parent i)
  unfolding step_name
  number-high i t p q = rw (lt-leb t (first_jumper s J i) p, lt-ltb (last_jumper s J i) t q)

  pub position-high : (i t : ℕ) → first_jumper s J i < t → last_jumper s J i < t → (step_name s J i t).position ≡ 0
  unfolding step_name
  position-high i t p q = rw (lt-leb t (first_jumper s J i) p, lt-ltb (last_jumper s J i) t q)

  pub number_mid : (i t : ℕ) → first_jumper s J i < t → t ≤ last_jumper s J i → (step_name s J i t).number ≡ i
  unfolding step_name
  number_mid i t p q = rw (lt-leb t (first_jumper s J i) p, le-ltb (last_jumper s J i) t q)

  pub position_mid : (i t : ℕ) → first_jumper s J i < t → t ≤ last_jumper s J i → (step_name s J i t).position ≡ highest t (λ p. J i p)
  unfolding step_name
  position_mid i t p q = rw (lt-leb t (first_jumper s J i) p, le-ltb (last_jumper s J i) t q)

  -- the highest jumper below a step that has one
  pub below_mid : (i t : ℕ) → t ≤ s.len i → first_jumper s J i < t → (highest t (λ p. J i p) < t) × (J i (highest t (λ p. J i p)) ≡ true)
  below_mid i t p q =
      highest-passes t (λ p. J i p) (any-yes t (first_jumper s J i) (λ p. J i p) q (first-jumper i (above_first_cut i t p q)))
