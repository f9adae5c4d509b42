-- Laws of tests, of sums with a test, of `any`, and of the lowest and highest number that passes a test.
-- Assumes nothing.
use Rattle.std.specs.Prelude.{ℕ, zero, suc, ◌+◌, ◌-◌, ◌*◌, ◌≤◌, ◌<◌, ◌≡◌, refl, Bool, true, false, not, ◌&&◌, ◌||◌, ◌⊎◌, ◌≢◌, eqb, ltb}
use Rattle.std.proofs.Common.{sym, ◌∙◌, ap, true≢false, inl, inr, ⊎_elim, arith, add-one, eq-eqb, ne_eqb, eqb-true, ltb-true, ltb-false}
use native.Mathlib.Nat.{mul-add, mul-zero}
use Rattle.std.proofs.lemmas.Bool.{eqb-false}
use Rattle.laws.specs.Sum.{χ, sum, any, lowest, highest}

-- a test holds or fails
pub tf : (t : Bool) → (t ≡ true) ⊎ (t ≡ false)
tf true = inl refl
tf false = inr refl

-- by cases on a test
pub by : {C : Type 0} (t : Bool) → (t ≡ true → C) → (t ≡ false → C) → C
by true f g = f refl
by false f g = g refl

pub no_both : {t : Bool} → t ≡ true → t ≡ false → ⊥
no_both p q = true≢false (sym p ∙ q)

pub not_true_false : (t : Bool) → (t ≡ true → ⊥) → t ≡ false
not_true_false true h = absurd (h refl)
not_true_false false h = refl

pub not_false_true : (t : Bool) → (t ≡ false → ⊥) → t ≡ true
not_false_true true h = refl
not_false_true false h = absurd (h refl)

-- two tests that imply each other
pub same_test : (a b : Bool) → (a ≡ true → b ≡ true) → (b ≡ true → a ≡ true) → a ≡ b
same_test true true p q = refl
same_test true false p q = absurd (no_both (p refl) refl)
same_test false true p q = absurd (no_both (q refl) refl)
same_test false false p q = refl

-- equality may be asked either way round
pub eqb_sym : (a b : ℕ) → eqb a b ≡ eqb b a
eqb_sym a b =
    by (eqb a b)
    (λ y. y ∙ sym (eq-eqb b a (sym (eqb-true a b y))))
    (λ z. z ∙ sym (ne_eqb b a (λ w. eqb-false a b z (sym w))))

pub and_true : (a : Bool) → (a && true) ≡ a
and_true true = refl
and_true false = refl

pub and_false : (a : Bool) → (a && false) ≡ false
and_false true = refl
and_false false = refl

pub and_comm : (a b : Bool) → (a && b) ≡ (b && a)
and_comm true true = refl
and_comm true false = refl
and_comm false true = refl
and_comm false false = refl

pub or_false : (a : Bool) {b : Bool} → b ≡ false → (a || b) ≡ a
or_false true h = refl
or_false false h = h

pub and_left : (a b : Bool) → (a && b) ≡ true → a ≡ true
and_left true b h = refl
and_left false b h = h

pub and_right : (a b : Bool) → (a && b) ≡ true → b ≡ true
and_right true b h = h
and_right false true h = refl
and_right false false h = h

pub and_intro : {a b : Bool} → a ≡ true → b ≡ true → (a && b) ≡ true
and_intro {a} {b} p q = rw (p, q)

pub and_no_left : {a : Bool} (b : Bool) → a ≡ false → (a && b) ≡ false
and_no_left b p = rw p

pub and_no_right : (a : Bool) {b : Bool} → b ≡ false → (a && b) ≡ false
and_no_right true p = p
and_no_right false p = refl

pub or_left : {a : Bool} (b : Bool) → a ≡ true → (a || b) ≡ true
or_left b p = rw p

pub or_right : (a : Bool) {b : Bool} → b ≡ true → (a || b) ≡ true
or_right true p = refl
or_right false p = p

pub or_cases : (a b : Bool) → (a || b) ≡ true → (a ≡ true) ⊎ (b ≡ true)
or_cases true b h = inl refl
or_cases false b h = inr h

pub or_no_left : (a b : Bool) → (a || b) ≡ false → a ≡ false
or_no_left true b h = h
or_no_left false b h = refl

pub or_no_right : (a b : Bool) → (a || b) ≡ false → b ≡ false
or_no_right true true h = h
or_no_right true false h = refl
or_no_right false b h = h

-- a number below suc n is n or below n
pub last_or_below : (i n : ℕ) → i < suc n → (i ≡ n) ⊎ (i < n)
last_or_below i n p = ⊎_elim (λ e. inl (eqb-true i n e)) (λ e. let ne = eqb-false i n e in inr (omega arith)) (tf (eqb i n))

-- ---- χ
pub χ-yes : {t : Bool} (x : ℕ) → t ≡ true → χ t x ≡ x
χ-yes x p = rw p

pub χ-no : {t : Bool} (x : ℕ) → t ≡ false → χ t x ≡ 0
χ-no x p = rw p

pub χ-≤ : (t : Bool) (x : ℕ) → χ t x ≤ x
χ-≤ true x = omega arith
χ-≤ false x = omega arith

pub χ_mono : (t : Bool) {x y : ℕ} → (t ≡ true → x ≤ y) → χ t x ≤ χ t y
χ_mono true h = h refl
χ_mono false h = omega arith

pub χ_ap : (t : Bool) {x y : ℕ} → (t ≡ true → x ≡ y) → χ t x ≡ χ t y
χ_ap true h = h refl
χ_ap false h = refl

pub χ-+ : (t : Bool) (x y : ℕ) → χ t (x + y) ≡ χ t x + χ t y
χ-+ true x y = refl
χ-+ false x y = omega arith

pub χ-zero : (t : Bool) → χ t 0 ≡ 0
χ-zero true = refl
χ-zero false = refl

pub χ-and : (s t : Bool) (x : ℕ) → χ (s && t) x ≡ χ s (χ t x)
χ-and true t x = refl
χ-and false t x = refl

-- x splits by a test
pub χ-split : (t : Bool) (x : ℕ) → χ t x + χ (not t) x ≡ x
χ-split true x = omega arith
χ-split false x = omega arith

-- ---- sum
pub sum_ap : (n : ℕ) {f g : ℕ → ℕ} → ((i : ℕ) → i < n → f i ≡ g i) → sum n f ≡ sum n g
unfolding sum
sum_ap zero h = refl
sum_ap (suc n) {f} {g} h = let a : sum n f ≡ sum n g = sum_ap n (λ i p. h i (omega arith)) in let b = h n (omega arith) in omega arith

pub sum-≤ : (n : ℕ) {f g : ℕ → ℕ} → ((i : ℕ) → i < n → f i ≤ g i) → sum n f ≤ sum n g
unfolding sum
sum-≤ zero h = omega arith
sum-≤ (suc n) {f} {g} h = let a : sum n f ≤ sum n g = sum-≤ n (λ i p. h i (omega arith)) in let b = h n (omega arith) in omega arith

pub sum-+ : (n : ℕ) (f g : ℕ → ℕ) → sum n (λ i. f i + g i) ≡ sum n f + sum n g
unfolding sum
sum-+ zero f g = refl
sum-+ (suc n) f g = let a = sum-+ n f g in omega arith

pub sum-zero : (n : ℕ) {f : ℕ → ℕ} → ((i : ℕ) → i < n → f i ≡ 0) → sum n f ≡ 0
unfolding sum
sum-zero zero h = refl
sum-zero (suc n) {f} h = let a : sum n f ≡ 0 = sum-zero n (λ i p. h i (omega arith)) in let b = h n (omega arith) in omega arith

pub sum-χ : (t : Bool) (n : ℕ) (f : ℕ → ℕ) → sum n (λ i. χ t (f i)) ≡ χ t (sum n f)
sum-χ true n f = refl
sum-χ false n f = sum-zero n (λ i p. refl)

pub sum_swap : (m n : ℕ) (f : ℕ → ℕ → ℕ) → sum m (λ i. sum n (λ j. f i j)) ≡ sum n (λ j. sum m (λ i. f i j))
unfolding sum
sum_swap zero n f = sym (sum-zero n (λ i p. refl))
sum_swap (suc m) n f =
    let a = sum_swap m n f in
    let b = sum-+ n (λ j. sum m (λ i. f i j)) (λ j. f m j) in
    omega arith

pub sum-mul : (n k : ℕ) (f : ℕ → ℕ) → sum n (λ i. k * f i) ≡ k * sum n f
unfolding sum
sum-mul zero k f = sym (mul-zero k)
sum-mul (suc n) k f = let a = sum-mul n k f in let b = mul-add k (sum n f) (f n) in omega arith

-- a sum of one number
pub sum_const : (n x : ℕ) → sum n (λ i. x) ≡ n * x
unfolding sum
sum_const zero x = omega (arith, native.Mathlib.Nat.zero-mul x)
sum_const (suc n) x = let a = sum_const n x in omega (arith, native.Mathlib.Nat.suc-mul n x)

-- one term is at most the sum
pub term-≤ : (n i : ℕ) (f : ℕ → ℕ) → i < n → f i ≤ sum n f
unfolding sum
term-≤ zero i f p = omega arith
term-≤ (suc n) i f p =
    ⊎_elim (λ e. let a = ap f e in omega arith) (λ q. let a = term-≤ n i f q in omega arith) (last_or_below i n p)

-- all terms but one are 0
pub sum_one : (n i : ℕ) (f : ℕ → ℕ) → i < n → ((j : ℕ) → j < n → j ≢ i → f j ≡ 0) → sum n f ≡ f i
unfolding sum
sum_one zero i f p h = absurd (native.Mathlib.Nat.lt_irrefl 0 (omega arith))
sum_one (suc n) i f p h =
    ⊎_elim
    (λ e.
    let a = sum-zero n {f = f} (λ j lt. h j (omega arith) (λ w. omega arith)) in
    let b = ap f e in
    omega arith)
    (λ q.
    let a = sum_one n i f q (λ j lt. h j (omega arith)) in
    let b = h n (omega arith) (λ w. omega arith) in
    omega arith)
    (last_or_below i n p)

-- pick one index by a test
pub sum-pick : (n i : ℕ) (f : ℕ → ℕ) → i < n → sum n (λ j. χ (eqb j i) (f j)) ≡ f i
sum-pick n i f p =
    sum_one n i (λ j. χ (eqb j i) (f j)) p (λ j lt ne. χ-no (f j) (ne_eqb j i ne)) ∙ χ-yes (f i) (eq-eqb i i refl)

pub sum_pick' : (n i : ℕ) (f : ℕ → ℕ) → i < n → sum n (λ j. χ (eqb i j) (f j)) ≡ f i
sum_pick' n i f p =
    sum_one n i (λ j. χ (eqb i j) (f j)) p (λ j lt ne. χ-no (f j) (ne_eqb i j (λ e. ne (sym e)))) ∙ χ-yes (f i) (eq-eqb i i refl)

-- a test that one number passes is passed once at most
pub sum_pick-≤ : (n i x : ℕ) → sum n (λ j. χ (eqb i j) x) ≤ x
unfolding sum
sum_pick-≤ zero i x = omega arith
sum_pick-≤ (suc n) i x =
    by (eqb i n)
    (λ e. let z = sum-zero n {f = λ j. χ (eqb i j) x} (λ j lt. χ-no x (ne_eqb i j (λ w. let q = eqb-true i n e in omega arith))) in rw e (omega arith))
    (λ e. rw e (let a = sum_pick-≤ n i x in omega arith))

-- over r with a test, what each i adds at place k i
pub sum_regroup :
    (n : ℕ) (q a : ℕ → Bool) (k x : ℕ → ℕ) →
    ((i : ℕ) → i < n → a i ≡ true → k i < n) →
    sum n (λ r. χ (q r) (sum n (λ i. χ (a i && eqb (k i) r) (x i)))) ≡ sum n (λ i. χ (a i) (χ (q (k i)) (x i)))
sum_regroup n q a k x inside =
    sum_ap n (λ r p. sym (sum-χ (q r) n (λ i. χ (a i && eqb (k i) r) (x i))))
    ∙ (sum_swap n n (λ r i. χ (q r) (χ (a i && eqb (k i) r) (x i)))
    ∙ sum_ap n (λ i p. one i p))
  where
    move : (t u v : Bool) (y : ℕ) → χ t (χ (u && v) y) ≡ χ u (χ v (χ t y))
    move true true v y = refl
    move true false v y = refl
    move false true true y = refl
    move false true false y = refl
    move false false v y = refl

    one : (i : ℕ) → i < n → sum n (λ r. χ (q r) (χ (a i && eqb (k i) r) (x i))) ≡ χ (a i) (χ (q (k i)) (x i))
    one i p =
        sum_ap n (λ r lt. move (q r) (a i) (eqb (k i) r) (x i))
        ∙ (sum-χ (a i) n (λ r. χ (eqb (k i) r) (χ (q r) (x i)))
        ∙ χ_ap (a i) (λ yes. sum_pick' n (k i) (λ r. χ (q r) (x i)) (inside i p yes)))

-- equal sums of ordered terms are equal term by term
pub sum_tight : (n : ℕ) {f g : ℕ → ℕ} → ((i : ℕ) → i < n → f i ≤ g i) → sum n g ≤ sum n f → (i : ℕ) → i < n → f i ≡ g i
unfolding sum
sum_tight zero h e i p = omega arith
sum_tight (suc n) {f} {g} h e i p =
    let below : sum n f ≤ sum n g = sum-≤ n (λ j q. h j (omega arith)) in
    let last : f n ≤ g n = h n (omega arith) in
    ⊎_elim
    (λ w. let a = ap f w in let b = ap g w in omega arith)
    (λ q. sum_tight n {f = f} {g = g} (λ j r. h j (omega arith)) (omega arith) i q)
    (last_or_below i n p)

-- a sum of terms that are at most x
pub sum_bound : (n x : ℕ) {f : ℕ → ℕ} → ((i : ℕ) → i < n → f i ≤ x) → sum n f ≤ n * x
sum_bound n x {f} h = let a = sum-≤ n {f = f} {g = λ i. x} h in let b = sum_const n x in omega arith

-- more terms
pub sum_more : (m n : ℕ) (f : ℕ → ℕ) → m ≤ n → sum m f ≤ sum n f
unfolding sum
sum_more m zero f p = let e : m ≡ 0 = omega arith in rw e (omega arith)
sum_more m (suc n) f p =
    by (eqb m (suc n))
    (λ w. rw (eqb-true m (suc n) w) (omega arith))
    (λ w. let ne = eqb-false m (suc n) w in let a = sum_more m n f (omega arith) in omega arith)

-- a sum above 0 has a term above 0
pub sum-some : (n : ℕ) (f : ℕ → ℕ) → 0 < sum n f → (i : ℕ) × (i < n) × (0 < f i)
unfolding sum
sum-some zero f h = absurd (native.Mathlib.Nat.lt_irrefl 0 (omega arith))
sum-some (suc n) f h =
    by (eqb (f n) 0)
    (λ z. let e = eqb-true (f n) 0 z in let r = sum-some n f (omega arith) in (r.0, omega (arith, r.1), r.2))
    (λ z. let e = eqb-false (f n) 0 z in (n, omega arith, omega arith))

-- two terms are at most the sum
pub two-≤ : (n i j : ℕ) (f : ℕ → ℕ) → i < n → j < n → i ≢ j → f i + f j ≤ sum n f
two-≤ n i j f p q ne =
    let a = sum-+ n (λ k. χ (eqb k i) (f k)) (λ k. χ (eqb k j) (f k)) in
    let b = sum-pick n i f p in
    let c = sum-pick n j f q in
    let d =
    sum-≤ n
    {f = λ k. χ (eqb k i) (f k) + χ (eqb k j) (f k)}
    {g = f}
    (λ k lt.
    by (eqb k i)
    (λ y. let e : eqb k j ≡ false = ne_eqb k j (λ w. ne (sym (eqb-true k i y) ∙ w)) in rw (y, e) (omega arith))
    (λ z. let e = χ-≤ (eqb k j) (f k) in rw z (omega arith))) in
    omega arith

-- the terms from a to b − 1 are x, the others 0
pub sum-stretch : (n a b x : ℕ) (f : ℕ → ℕ) → a ≤ b → b ≤ n →
    ((t : ℕ) → a ≤ t → t < b → f t ≡ x) → ((t : ℕ) → t < n → t < a → f t ≡ 0) → ((t : ℕ) → t < n → b ≤ t → f t ≡ 0) → sum n f ≡ (b - a) * x
unfolding sum
sum-stretch zero a b x f p q in_it low high =
    let e : b - a ≡ 0 = omega arith in rw e (sym (native.Mathlib.Nat.zero-mul x))
sum-stretch (suc n) a b x f p q in_it low high =
    by (eqb b (suc n))
    (λ e.
    let e' = eqb-true b (suc n) e in
    by (eqb a b)
    (λ w.
    let w' = eqb-true a b w in
    let none : sum (suc n) f ≡ 0 = sum-zero (suc n) (λ t lt. low t lt (omega arith)) in
    let z : b - a ≡ 0 = omega arith in
    none ∙ rw z (sym (native.Mathlib.Nat.zero-mul x)))
    (λ w.
    let w' = eqb-false a b w in
    let rest =
    sum-stretch n a n x f (omega arith) (omega arith) (λ t y z. in_it t y (omega arith)) (λ t y z. low t (omega arith) z)
    (λ t y z. absurd (native.Mathlib.Nat.lt_irrefl 0 (omega arith))) in
    let last = in_it n (omega arith) (omega arith) in
    let z : b - a ≡ suc (n - a) = omega arith in
    rw z (omega (arith, native.Mathlib.Nat.suc-mul (n - a) x))))
    (λ e.
    let e' = eqb-false b (suc n) e in
    let rest = sum-stretch n a b x f p (omega arith) in_it (λ t y z. low t (omega arith) z) (λ t y z. high t (omega arith) z) in
    let last = high n (omega arith) (omega arith) in
    omega arith)

-- one more term, as a loop adds it
pub sum-next : (n : ℕ) (f : ℕ → ℕ) → sum (n + 1) f ≡ sum n f + f n
unfolding sum
sum-next n f = rw (add-one n)

pub sum_next-≤ : (i n : ℕ) (f : ℕ → ℕ) → i < n → sum i f + f i ≤ sum n f
sum_next-≤ i n f p = let a = sum-next i f in let b = sum_more (i + 1) n f (omega arith) in omega arith

-- ---- any
pub any_ap : (n : ℕ) {f g : ℕ → Bool} → ((i : ℕ) → i < n → f i ≡ g i) → any n f ≡ any n g
unfolding any
any_ap zero h = refl
any_ap (suc n) {f} {g} h = rw (any_ap n {f = f} {g = g} (λ i p. h i (omega arith)), h n (omega arith))

-- one more number, as a loop tests it
pub any_next : (n : ℕ) (f : ℕ → Bool) → any (n + 1) f ≡ (any n f || f n)
unfolding any
any_next n f = rw (add-one n)

pub any-yes : (n i : ℕ) (f : ℕ → Bool) → i < n → f i ≡ true → any n f ≡ true
unfolding any
any-yes zero i f p h = absurd (native.Mathlib.Nat.lt_irrefl 0 (omega arith))
any-yes (suc n) i f p h =
    ⊎_elim (λ e. or_right (any n f) (sym (ap f e) ∙ h)) (λ q. or_left (f n) (any-yes n i f q h)) (last_or_below i n p)

pub any-no : (n i : ℕ) (f : ℕ → Bool) → any n f ≡ false → i < n → f i ≡ false
any-no n i f h p = not_true_false (f i) (λ e. no_both (any-yes n i f p e) h)

pub any_none : (n : ℕ) (f : ℕ → Bool) → ((i : ℕ) → i < n → f i ≡ false) → any n f ≡ false
unfolding any
any_none zero f h = refl
any_none (suc n) f h = let a = any_none n f (λ i p. h i (omega arith)) in rw (a, h n (omega arith))

pub any_some : (n : ℕ) (f : ℕ → Bool) → any n f ≡ true → (i : ℕ) × (i < n) × (f i ≡ true)
unfolding any
any_some zero f h = absurd (no_both h refl)
any_some (suc n) f h =
    ⊎_elim (λ a. let r = any_some n f a in (r.0, omega (arith, r.1), r.2)) (λ b. (n, omega arith, b)) (or_cases (any n f) (f n) h)

-- ---- lowest and highest
pub lowest-passes : (n : ℕ) (f : ℕ → Bool) → any n f ≡ true → (lowest n f < n) × (f (lowest n f) ≡ true)
unfolding lowest any
lowest-passes zero f h = absurd (no_both h refl)
lowest-passes (suc n) f h =
    by (any n f)
    (λ a. let r = lowest-passes n f a in rw a (omega (arith, r.0), r.1))
    (λ b. let e : f n ≡ true = rw b at h in rw (b, e) (omega arith, e))

pub lowest-least : (n i : ℕ) (f : ℕ → Bool) → i < lowest n f → f i ≡ false
unfolding lowest any
lowest-least zero i f p = absurd (native.Mathlib.Nat.lt_irrefl 0 (omega arith))
lowest-least (suc n) i f p =
    by (any n f)
    (λ a. lowest-least n i f (rw a at p))
    (λ b.
    by (f n)
    (λ y. let q : i < n = rw (b, y) at p in any-no n i f b q)
    (λ z.
    let q : i < suc n = rw (b, z) at p in
    ⊎_elim (λ w. ap f w ∙ z) (λ w. any-no n i f b w) (last_or_below i n q)))

pub lowest-none : (n : ℕ) (f : ℕ → Bool) → any n f ≡ false → lowest n f ≡ n
unfolding lowest any
lowest-none zero f h = refl
lowest-none (suc n) f h = rw (or_no_left (any n f) (f n) h, or_no_right (any n f) (f n) h)

pub lowest-≤ : (n : ℕ) (f : ℕ → Bool) → lowest n f ≤ n
lowest-≤ n f = by (any n f) (λ a. let r = lowest-passes n f a in omega (arith, r.0)) (λ b. let r = lowest-none n f b in omega arith)

pub highest-passes : (n : ℕ) (f : ℕ → Bool) → any n f ≡ true → (highest n f < n) × (f (highest n f) ≡ true)
unfolding highest any
highest-passes zero f h = absurd (no_both h refl)
highest-passes (suc n) f h =
    by (f n)
    (λ a. rw a (omega arith, a))
    (λ b.
    let h' : any n f ≡ true = ⊎_elim (λ x. x) (λ y. absurd (no_both y b)) (or_cases (any n f) (f n) h) in
    let r = highest-passes n f h' in
    rw b (omega (arith, r.0), r.1))

pub highest-most : (n i : ℕ) (f : ℕ → Bool) → i < n → highest n f < i → f i ≡ false
unfolding highest any
highest-most zero i f p q = absurd (native.Mathlib.Nat.lt_irrefl 0 (omega arith))
highest-most (suc n) i f p q =
    by (f n)
    (λ a. let r : n < i = rw a at q in absurd (native.Mathlib.Nat.lt_irrefl 0 (omega arith)))
    (λ b.
    let r : highest n f < i = rw b at q in
    ⊎_elim (λ w. ap f w ∙ b) (λ w. highest-most n i f w r) (last_or_below i n p))

pub highest-none : (n : ℕ) (f : ℕ → Bool) → any n f ≡ false → highest n f ≡ 0
unfolding highest any
highest-none zero f h = refl
highest-none (suc n) f h = rw (or_no_right (any n f) (f n) h) (highest-none n f (or_no_left (any n f) (f n) h))

pub lowest_is : (n i : ℕ) (f : ℕ → Bool) → i < n → f i ≡ true → ((j : ℕ) → j < i → f j ≡ false) → lowest n f ≡ i
lowest_is n i f p h none =
    let r = lowest-passes n f (any-yes n i f p h) in
    by (eqb (lowest n f) i)
    (λ y. eqb-true (lowest n f) i y)
    (λ z.
    let ne = eqb-false (lowest n f) i z in
    by (ltb (lowest n f) i)
    (λ y. absurd (no_both r.1 (none (lowest n f) (ltb-true (lowest n f) i y))))
    (λ w. let le = ltb-false (lowest n f) i w in absurd (no_both h (lowest-least n i f (omega arith)))))

pub highest-≥ : (n i : ℕ) (f : ℕ → Bool) → i < n → f i ≡ true → i ≤ highest n f
highest-≥ n i f p h =
    by (ltb (highest n f) i)
    (λ y. absurd (no_both h (highest-most n i f p (ltb-true (highest n f) i y))))
    (λ z. ltb-false (highest n f) i z)

pub highest-last : (n i : ℕ) (f : ℕ → Bool) → i < n → f i ≡ true → ((t : ℕ) → i < t → t < n → f t ≡ false) → highest n f ≡ i
highest-last n i f p h none =
    let r = highest-passes n f (any-yes n i f p h) in
    let a = highest-≥ n i f p h in
    by (eqb (highest n f) i)
    (λ e. eqb-true (highest n f) i e)
    (λ e.
    let ne = eqb-false (highest n f) i e in
    absurd (no_both r.1 (none (highest n f) (omega arith) r.0)))

pub highest_is : (n i : ℕ) (f : ℕ → Bool) → i < n → f i ≡ true → ((j : ℕ) → i < j → f j ≡ false) → highest n f ≡ i
highest_is n i f p h none = highest-last n i f p h (λ t lt b. none t lt)

-- ---- induction over the numbers below n
pub up : (n : ℕ) (P : ℕ → Type 0) → ((i : ℕ) → i < n → ((j : ℕ) → j < i → P j) → P i) → (i : ℕ) → i < n → P i
up n P step i p = all i p i (omega arith)
  where
    all : (m : ℕ) → m < n → (i : ℕ) → i < suc m → P i
    all zero q i r = step i (omega arith) (λ j lt. absurd (native.Mathlib.Nat.lt_irrefl 0 (omega arith)))
    all (suc m) q i r = step i (omega arith) (λ j lt. all m (omega arith) j (omega arith))

pub down : (n : ℕ) (P : ℕ → Type 0) → ((i : ℕ) → i < n → ((j : ℕ) → i < j → j < n → P j) → P i) → (i : ℕ) → i < n → P i
down n P step i p = all n i p (omega arith)
  where
    all : (m : ℕ) → (i : ℕ) → i < n → n < suc (i + m) → P i
    all zero i q r = absurd (native.Mathlib.Nat.lt_irrefl 0 (omega arith))
    all (suc m) i q r = step i q (λ j lt lt'. all m j lt' (omega arith))
