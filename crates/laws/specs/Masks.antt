-- Laws of masks: numbers given bit by bit by a test.
-- Assumes nothing.
use Rattle.std.specs.Prelude.{ℕ, zero, suc, ◌+◌, ◌*◌, ◌/◌, ◌%◌, ◌^◌, ◌<◌, max, ◌≡◌, refl, Bool, true, false, ◌&&◌, ◌||◌, eqb}
use Rattle.std.proofs.Common.{◌∙◌, ap, arith, pow_pos}
use native.Mathlib.Nat.{pow-suc}
use Rattle.std.specs.Int.Bits.{bit_or, or_step}
use Rattle.std.specs.Int.Count.{ones, count_trailing_zeros, ones_step}
use Rattle.laws.specs.Sum.{χ, sum, any, lowest}
use Rattle.laws.specs.Sums.{χ-≤, χ-yes, sum_ap, sum-mul, sum-zero, sum_pick', term-≤, any-no, lowest-passes, lowest-least}

-- the number whose bit b is set where the test of b holds, of the bits below n
abbrev pub mask : ℕ → (ℕ → Bool) → ℕ
mask n f = sum n (λ b. χ (f b) (2 ^ b))

-- ---- the lowest term first
pub sum_low : (n : ℕ) (f : ℕ → ℕ) → sum (suc n) f ≡ f 0 + sum n (λ i. f (suc i))
unfolding sum
sum_low zero f = omega arith
sum_low (suc n) f = let a = sum_low n f in omega arith

double : (t : Bool) (b : ℕ) → χ t (2 ^ suc b) ≡ 2 * χ t (2 ^ b)
double true b = let e = pow-suc 2 b in omega arith
double false b = refl

mask_low : (n : ℕ) (f : ℕ → Bool) → mask (suc n) f ≡ 2 * mask n (λ b. f (suc b)) + χ (f 0) 1
mask_low n f =
    let a = sum_low n (λ b. χ (f b) (2 ^ b)) in
    let d = sum_ap n {f = λ b. χ (f (suc b)) (2 ^ suc b)} {g = λ b. 2 * χ (f (suc b)) (2 ^ b)} (λ b p. double (f (suc b)) b) in
    let e = sum-mul n 2 (λ b. χ (f (suc b)) (2 ^ b)) in
    omega arith

bit : (t : Bool) → χ t 1 < 2
bit true = omega arith
bit false = omega arith

mask_half : (n : ℕ) (f : ℕ → Bool) → mask (suc n) f / 2 ≡ mask n (λ b. f (suc b))
mask_half n f = let a = mask_low n f in let b = bit (f 0) in omega arith

mask_odd : (n : ℕ) (f : ℕ → Bool) → mask (suc n) f % 2 ≡ χ (f 0) 1
mask_odd n f = let a = mask_low n f in let b = bit (f 0) in omega arith

-- a mask of n bits is below 2 ^ n
pub mask_fits : (n : ℕ) (f : ℕ → Bool) → mask n f < 2 ^ n
unfolding sum
mask_fits zero f = omega arith
mask_fits (suc n) f = let a = mask_fits n f in let b = χ-≤ (f n) (2 ^ n) in let e = pow-suc 2 n in omega arith

-- ---- masks of equal tests, of one bit, under a test
pub mask_ap : (n : ℕ) {f g : ℕ → Bool} → ((b : ℕ) → b < n → f b ≡ g b) → mask n f ≡ mask n g
mask_ap n h = sum_ap n (λ b p. ap (λ (t : Bool). χ t (2 ^ b)) (h b p))

pub mask_one : (n k : ℕ) → k < n → mask n (λ b. eqb k b) ≡ 2 ^ k
mask_one n k p = sum_pick' n k (λ b. 2 ^ b) p

pub mask-test : (n : ℕ) (t : Bool) (f : ℕ → Bool) → mask n (λ b. t && f b) ≡ χ t (mask n f)
mask-test n true f = refl
mask-test n false f = sum-zero n (λ b p. refl)

-- ---- joined bit by bit
both : (s t : Bool) → max (χ s 1) (χ t 1) ≡ χ (s || t) 1
both true true = refl
both true false = refl
both false true = refl
both false false = refl

pub mask-or : (n : ℕ) (f g : ℕ → Bool) → bit_or (mask n f) (mask n g) ≡ mask n (λ b. f b || g b)
unfolding sum
mask-or zero f g = refl
mask-or (suc n) f g =
    or_step (mask (suc n) f) (mask (suc n) g)
    ∙ rw (mask_half n f, mask_half n g, mask_odd n f, mask_odd n g, mask-or n (λ b. f (suc b)) (λ b. g (suc b)), both (f 0) (g 0))
    (let a = mask_low n (λ b. f b || g b) in omega arith)

-- ---- how many bits, and the lowest
pub mask_ones : (n : ℕ) (f : ℕ → Bool) → ones (mask n f) ≡ sum n (λ b. χ (f b) 1)
unfolding sum ones
mask_ones zero f = refl
mask_ones (suc n) f =
    ones_step (mask (suc n) f)
    ∙ rw (mask_half n f, mask_odd n f, mask_ones n (λ b. f (suc b))) (let a = sum_low n (λ b. χ (f b) 1) in omega arith)

least : (n p : ℕ) (f : ℕ → Bool) → p < n → f p ≡ true → ((j : ℕ) → j < p → f j ≡ false) → count_trailing_zeros n (mask n f) ≡ p
unfolding count_trailing_zeros
least zero p f l h k = absurd (native.Mathlib.Nat.lt_irrefl 0 (omega arith))
least (suc n) zero f l h k = rw (mask_odd n f, h)
least (suc n) (suc p) f l h k =
    rw (mask_odd n f, k 0 (omega arith), mask_half n f)
    (ap suc (least n p (λ b. f (suc b)) (omega arith) h (λ j q. k (suc j) (omega arith))))

pub mask-lowest : (n : ℕ) (f : ℕ → Bool) → any n f ≡ true → count_trailing_zeros n (mask n f) ≡ lowest n f
mask-lowest n f h =
    let r = lowest-passes n f h in least n (lowest n f) f r.0 r.1 (λ j l. lowest-least n j f l)

-- a mask is 0 exactly where no test holds
pub mask-none : (n : ℕ) (f : ℕ → Bool) → any n f ≡ false → mask n f ≡ 0
mask-none n f h = sum-zero n (λ b p. ap (λ (t : Bool). χ t (2 ^ b)) (any-no n b f h p))

pub mask-some : (n : ℕ) (f : ℕ → Bool) → any n f ≡ true → mask n f ≡ 0 → ⊥
mask-some n f h e =
    let r = lowest-passes n f h in
    let a = term-≤ n (lowest n f) (λ b. χ (f b) (2 ^ b)) r.0 in
    let b = χ-yes (2 ^ lowest n f) r.1 in
    let c = pow_pos (lowest n f) in
    native.Mathlib.Nat.lt_irrefl 0 (omega arith)
