-- Laws of conditions in order: what holds where none of them is met, and which is the first.
-- Assumes nothing.
use Prim.Native.Nat.{ℕ, zero, suc, ◌+◌, ◌-◌, ◌<◌}
use Rattle.std.specs.Prelude.{◌≡◌, Bool, true, false, ◌&&◌, cond, ◌⊎◌, eqb}
use Rattle.std.proofs.Common.{◌∙◌, sym, inl, inr, eq-or-lt_of_le, add-one, arith, ne_eqb}
use Rattle.std.proofs.Math.Path.{refl}
use Rattle.std.proofs.Math.Logic.{⊎_elim}
use Rattle.net.specs.Refusal.{Verdict, none, refused_if, met, or_else, first_of}

-- two tests that do not both hold
pub and_no : (a b : Bool) → (a && b) ≡ false → (a ≡ false) ⊎ (b ≡ false)
and_no true b e = inr e
and_no false b e = inl refl

-- a condition that is not met does not hold
pub unmet_if : (t : Bool) (n p : ℕ) → eqb n 0 ≡ false → met (refused_if t n p) ≡ false → t ≡ false
unmet_if true n p d e = cc
unmet_if false n p d e = refl

pub none_if : (t : Bool) (n p : ℕ) → eqb n 0 ≡ false → met (refused_if t n p) ≡ false → none ≡ refused_if t n p
none_if t n p d e = rw (unmet_if t n p d e)

-- a refusal is met if its number is not 0
pub met-number : (r : Verdict) → (r.number ≡ 0 → ⊥) → met r ≡ true
met-number r h = rw (ne_eqb _ _ h)

pub unmet-number : (r : Verdict) → r.number ≡ 0 → met r ≡ false
unmet-number r h = rw h

-- the first of two
module _ (a b : Verdict) where
  pub first-met : met a ≡ true → or_else a b ≡ a
  first-met h = rw h

  pub second-first : met a ≡ false → or_else a b ≡ b
  second-first h = rw h

  unmet_l' : (t : Bool) → met a ≡ t → met (cond t a b) ≡ false → met a ≡ false
  unmet_l' true h e = e
  unmet_l' false h e = h

  unmet_r' : (t : Bool) → met a ≡ t → met (cond t a b) ≡ false → met b ≡ false
  unmet_r' true h e = cc
  unmet_r' false h e = e

  pub unmet_l : met (or_else a b) ≡ false → met a ≡ false
  unmet_l e = unmet_l' (met a) refl e

  pub unmet_r : met (or_else a b) ≡ false → met b ≡ false
  unmet_r e = unmet_r' (met a) refl e

  pub none_or : (met b ≡ false → none ≡ b) → met (or_else a b) ≡ false → none ≡ or_else a b
  none_or h e = h (unmet_r e) ∙ sym (second-first (unmet_l e))

  pub first_of_lem : {r : Verdict} → r ≡ a → met r ≡ true → r ≡ or_else a b
  first_of_lem q m = q ∙ sym (first-met (rw (← q) m))

  pub rest_of : {r s : Verdict} → r ≡ a → met r ≡ false → s ≡ b → s ≡ or_else a b
  rest_of q m e = e ∙ sym (second-first (rw (← q) m))

  or_assoc' : (c : Verdict) (t : Bool) → met a ≡ t → or_else (cond t a b) c ≡ cond t a (or_else b c)
  or_assoc' c true h = rw h
  or_assoc' c false h = refl

  pub or_assoc : (c : Verdict) → or_else (or_else a b) c ≡ or_else a (or_else b c)
  or_assoc c = or_assoc' c (met a) refl

-- the first of the records in order
module _ (f : ℕ → Verdict) where
  pub first-unmet : (n : ℕ) → met (first_of n f) ≡ false → (i : ℕ) → i < n → met (f i) ≡ false
  unfolding first_of
  first-unmet zero e i h = absurd (omega arith)
  first-unmet (suc n) e i h =
      ⊎_elim (λ q. rw q (unmet_r (first_of n f) (f n) e)) (λ l. first-unmet n (unmet_l (first_of n f) (f n) e) i l)
      (eq-or-lt_of_le (omega arith))

  pub first-at : (n i : ℕ) → i < n → met (first_of i f) ≡ false → met (f i) ≡ true → first_of n f ≡ f i
  unfolding first_of
  first-at zero i h u m = absurd (omega arith)
  first-at (suc n) i h u m =
      ⊎_elim (λ q. rw (← q) (second-first (first_of i f) (f i) u))
      (λ l. rw (first-at n i l u m) (first-met (f i) (f n) m))
      (eq-or-lt_of_le (omega arith))

  pub first-start : none ≡ first_of 0 f
  unfolding first_of
  first-start = refl

  pub first_more : (i : ℕ) → none ≡ first_of i f → none ≡ f i → none ≡ first_of (i + 1) f
  unfolding first_of
  first_more i e h = rw (add-one i, ← e) h

  -- the first refusal met
  pub first-here : (n i : ℕ) {r : Verdict} → i < n → none ≡ first_of i f → r ≡ f i → met r ≡ true → r ≡ first_of n f
  first-here n i h e q m = rw q (sym (first-at n i h (rw (← e)) (rw (← q) m)))

  pub first-all : (n i : ℕ) → i ≡ n → none ≡ first_of i f → none ≡ first_of n f
  first-all n i q e = rw (← q) e

  pub first-none : (n : ℕ) → ((i : ℕ) → i < n → none ≡ f i) → none ≡ first_of n f
  unfolding first_of
  first-none zero h = refl
  first-none (suc n) h = rw (← first-none n (λ i l. h i (omega arith))) (h n (omega arith))

-- the same for records that are numbered from 1
module _ (g : ℕ → Verdict) where
  back : (i : ℕ) → 0 < i → i - 1 + 1 ≡ i
  back i h = omega arith

  forth : (i : ℕ) → 0 < i → i + 1 - 1 ≡ i - 1 + 1
  forth i h = omega arith

  pub first_more_1 : (i : ℕ) → 0 < i → none ≡ first_of (i - 1) (λ j. g (j + 1)) → none ≡ g i → none ≡ first_of (i + 1 - 1) (λ j. g (j + 1))
  first_more_1 i h e q = rw (forth i h) (first_more (λ j. g (j + 1)) (i - 1) e (rw (back i h) q))

  pub first_here_1 : (n i : ℕ) {r : Verdict} → 0 < i → i < n → none ≡ first_of (i - 1) (λ j. g (j + 1)) → r ≡ g i → met r ≡ true
      → r ≡ first_of (n - 1) (λ j. g (j + 1))
  first_here_1 n i h l e q m = first-here (λ j. g (j + 1)) (n - 1) (i - 1) (omega arith) e (rw (back i h) q) m
