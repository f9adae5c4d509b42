-- Laws of gathered lists: what is in them, their length, their order, and totals over them.
-- Assumes nothing.
use Prim.Native.Nat.{ℕ, zero, suc, ◌+◌, ◌-◌, ◌*◌, ◌<◌}
use Rattle.std.specs.Prelude.{◌≡◌, refl, Bool, true, false, length, get_or, eqb}
use Rattle.std.proofs.Common.{sym, ◌∙◌, ap, arith, length-append, get_or-append-add, eq-eqb, ne_eqb}
use Rattle.std.proofs.Math.Logic.{⊎_elim}
use mathlib.Core.List.Memᴰ
use mathlib.Core.List.{List, [], ◌∷◌, ◌++◌, append-nil, append_assoc, flat_map, Memᴰ}
use native.Mathlib.Nat.{add-zero, add-suc, mul_comm, mul-suc, mul-le-mul_left}
use Rattle.std.proofs.Math.ListN.{get_or-append}
use Rattle.laws.specs.Sum.{χ, sum, any}
use Rattle.laws.specs.Sums.{no_both, or_false, last_or_below, any-yes, any_none, sum_ap, sum-+, sum-zero, sum_const}
use Rattle.laws.specs.Gather.{only, gather}

-- f of every entry, added
unfoldable pub total : {A : Type 0} → (A → ℕ) → List A → ℕ
total f [] = 0
total f (x ∷ l) = f x + total f l

-- every entry stands before all entries behind it
pub data Sorted {A : Type 0} (Before : A → A → Type 0) : List A → Type 0 where
  empty : Sorted Before []
  front : {x : A} {l : List A} → ((y : A) → Memᴰ y l → Before x y) → Sorted Before l → Sorted Before (x ∷ l)

pub length-only : {A : Type 0} (t : Bool) (x : A) → length (only t x) ≡ χ t 1
length-only true x = refl
length-only false x = refl

pub mem_only : {A : Type 0} {x : A} (t : Bool) → t ≡ true → Memᴰ x (only t x)
mem_only true h = Memᴰ.head refl
mem_only false h = absurd (no_both h refl)

pub only_mem : {A : Type 0} {x y : A} (t : Bool) → Memᴰ y (only t x) → (t ≡ true) × (y ≡ x)
only_mem true m = (refl, Memᴰ.eq_of_singleton m)
only_mem false m = absurd (Memᴰ.not-nil m)

pub length-gather : {A : Type 0} (n : ℕ) (f : ℕ → List A) → length (gather n f) ≡ sum n (λ i. length (f i))
unfolding gather sum
length-gather zero f = refl
length-gather (suc n) f = let a = length-gather n f in let b = length-append (gather n f) (f n) in omega arith

pub gather_ap : {A : Type 0} (n : ℕ) {f g : ℕ → List A} → ((i : ℕ) → i < n → f i ≡ g i) → gather n f ≡ gather n g
unfolding gather
gather_ap zero h = refl
gather_ap (suc n) {f} {g} h = rw (gather_ap n {f = f} {g = g} (λ i p. h i (omega arith)), h n (omega arith))

pub gather_none : {A : Type 0} (n : ℕ) (f : ℕ → List A) → ((i : ℕ) → i < n → f i ≡ []) → gather n f ≡ []
unfolding gather
gather_none zero f h = refl
gather_none (suc n) f h = rw (gather_none n f (λ i p. h i (omega arith)), h n (omega arith))

-- those from m on behind those below
gather-add : {A : Type 0} (m n : ℕ) (f : ℕ → List A) → gather (m + n) f ≡ gather m f ++ gather n (λ i. f (m + i))
unfolding gather
gather-add m zero f = rw (add-zero m) (sym (append-nil (gather m f)))
gather-add m (suc n) f = rw (add-suc m n, gather-add m n f) (append_assoc (gather m f) (gather n (λ i. f (m + i))) (f (m + n)))

-- f h, with those before it and those behind it
pub gather-at : {A : Type 0} (n h : ℕ) (f : ℕ → List A) → h < n → gather n f ≡ gather h f ++ (f h ++ gather (n - suc h) (λ i. f (suc h + i)))
unfolding gather
gather-at n h f p =
    let e : n ≡ suc h + (n - suc h) = omega arith in
    ap (λ (m : ℕ). gather m f) e
    ∙ (gather-add (suc h) (n - suc h) f ∙ append_assoc (gather h f) (f h) (gather (n - suc h) (λ i. f (suc h + i))))

-- one entry at each of some rising positions
gather-last : {A : Type 0} (n a : ℕ) (f : ℕ → List A) → a < n → ((t : ℕ) → a < t → t < n → f t ≡ []) → gather n f ≡ gather a f ++ f a
unfolding gather
gather-last zero a f p h = absurd (native.Mathlib.Nat.lt_irrefl 0 (omega arith))
gather-last (suc n) a f p h =
    ⊎_elim
    (λ e. rw e refl)
    (λ q. rw (h n q (omega arith), append-nil (gather n f)) (gather-last n a f q (λ t u v. h t u (omega arith))))
    (last_or_below a n p)

pub gather-rising : {A : Type 0} (x : ℕ → A) (m n : ℕ) (T : ℕ → Bool) (p : ℕ → ℕ) → ((d : ℕ) → d < m → p d < n) →
    ((d e : ℕ) → d < e → e < m → p d < p e) → ((t : ℕ) → t < n → T t ≡ any m (λ d. eqb (p d) t)) →
    gather n (λ t. only (T t) (x t)) ≡ gather m (λ d. x (p d) ∷ [])
unfolding gather any
gather-rising x zero n T p inside rise same = gather_none n (λ t. only (T t) (x t)) (λ t l. rw (same t l))
gather-rising x (suc m) n T p inside rise same =
    gather-last n (p m) (λ t. only (T t) (x t)) (inside m (omega arith)) above
    ∙ rw (at_last) (ap (λ l. l ++ (x (p m) ∷ [])) (gather-rising x m (p m) T p (λ d l. rise d m l (omega arith)) (λ d e l k. rise d e l (omega arith)) below))
  where
    at_last : T (p m) ≡ true
    at_last = same (p m) (inside m (omega arith)) ∙ any-yes (suc m) m (λ d. eqb (p d) (p m)) (omega arith) (eq-eqb (p m) (p m) refl)

    above : (t : ℕ) → p m < t → t < n → only (T t) (x t) ≡ []
    above t u v =
        rw (same t v ∙ any_none (suc m) (λ d. eqb (p d) t) (λ d l. ne_eqb (p d) t (λ e. ⊎_elim (λ w. let z = ap p w in omega arith) (λ w. let z = rise d m w (omega arith) in omega arith) (last_or_below d m l))))

    below : (t : ℕ) → t < p m → T t ≡ any m (λ d. eqb (p d) t)
    below t l =
        same t (let z = inside m (omega arith) in omega arith) ∙ or_false (any m (λ d. eqb (p d) t)) (ne_eqb (p m) t (λ e. omega arith))

-- a function applied to every entry
pub flat_append : {A B : Type 0} (f : A → List B) (k l : List A) → flat_map f (k ++ l) ≡ flat_map f k ++ flat_map f l
unfolding flat_map
flat_append f [] l = refl
flat_append f (x ∷ k) l = rw (flat_append f k l) (sym (append_assoc (f x) (flat_map f k) (flat_map f l)))

pub flat_gather : {A B : Type 0} (f : A → List B) (n : ℕ) (g : ℕ → List A) → flat_map f (gather n g) ≡ gather n (λ i. flat_map f (g i))
unfolding flat_map gather
flat_gather f zero g = refl
flat_gather f (suc n) g = flat_append f (gather n g) (g n) ∙ rw (flat_gather f n g)

-- records of w entries each: how many entries in all, and entry k of record i
module _ {A : Type 0} (w : ℕ) (f : ℕ → List A) (each : (i : ℕ) → length (f i) ≡ w) where
  pub length-records : (n : ℕ) → length (gather n f) ≡ w * n
  length-records n = length-gather n f ∙ (sum_ap n (λ i p. each i) ∙ (sum_const n w ∙ mul_comm n w))

  pub record_of_lem : (d : A) (n i k : ℕ) → i < n → k < w → get_or (gather n f) (w * i + k) d ≡ get_or (f i) k d
  unfolding gather
  record_of_lem d zero i k p q = absurd (native.Mathlib.Nat.lt_irrefl 0 (omega arith))
  record_of_lem d (suc n) i k p q =
      let m = length-records n in
      ⊎_elim
      (λ e. rw e (rw (← m) (get_or-append-add (gather n f) (f n) k d)))
      (λ l.
      get_or-append (gather n f) (f n) d (w * i + k) (rw m (omega (arith, mul-le-mul_left {m = suc i} {n = n} w (omega arith), mul-suc w i)))
      ∙ record_of_lem d n i k l q)
      (last_or_below i n p)

pub mem_gather : {A : Type 0} {x : A} (n i : ℕ) (f : ℕ → List A) → i < n → Memᴰ x (f i) → Memᴰ x (gather n f)
unfolding gather
mem_gather zero i f p m = absurd (native.Mathlib.Nat.lt_irrefl 0 (omega arith))
mem_gather (suc n) i f p m =
    ⊎_elim
    (λ e. Memᴰ.append_right (gather n f) (rw e at m))
    (λ q. Memᴰ.append_left (f n) (mem_gather n i f q m))
    (last_or_below i n p)

pub gather_mem : {A : Type 0} {x : A} (n : ℕ) (f : ℕ → List A) → Memᴰ x (gather n f) → (i : ℕ) × (i < n) × Memᴰ x (f i)
unfolding gather
gather_mem zero f m = absurd (Memᴰ.not-nil m)
gather_mem {x = x} (suc n) f m =
    ⊎_elim
    (λ a. let r = gather_mem {x = x} n f a in (r.0, omega (arith, r.1), r.2))
    (λ b. (n, omega arith, b))
    (Memᴰ.append_cases (gather n f) m)

-- ---- order
pub sorted_only : {A : Type 0} {Before : A → A → Type 0} (t : Bool) (x : A) → Sorted Before (only t x)
sorted_only true x = front (λ y m. absurd (Memᴰ.not-nil m)) empty
sorted_only false x = empty

pub sorted_append : {A : Type 0} {Before : A → A → Type 0} (k : List A) {l : List A} → Sorted Before k → Sorted Before l →
    ((x y : A) → Memᴰ x k → Memᴰ y l → Before x y) → Sorted Before (k ++ l)
sorted_append [] empty q h = q
sorted_append (x ∷ k) (front f p) q h =
    front
    (λ y m. ⊎_elim (λ a. f y a) (λ b. h x y (Memᴰ.head refl) b) (Memᴰ.append_cases k m))
    (sorted_append k p q (λ z y a b. h z y (Memᴰ.tail a) b))

pub sorted_gather : {A : Type 0} {Before : A → A → Type 0} (n : ℕ) (f : ℕ → List A) → ((i : ℕ) → i < n → Sorted Before (f i)) →
    ((i j : ℕ) (x y : A) → i < j → Memᴰ x (f i) → Memᴰ y (f j) → Before x y) → Sorted Before (gather n f)
unfolding gather
sorted_gather zero f each h = empty
sorted_gather (suc n) f each h =
    sorted_append (gather n f)
    (sorted_gather n f (λ i p. each i (omega arith)) h)
    (each n (omega arith))
    (λ x y a b. let r = gather_mem n f a in h r.0 n x y r.1 r.2 b)

-- ---- totals
pub total_ap : {A : Type 0} {f g : A → ℕ} → ((x : A) → f x ≡ g x) → (l : List A) → total f l ≡ total g l
unfolding total
total_ap h [] = refl
total_ap h (x ∷ l) = let a = h x in let b = total_ap h l in omega arith

pub total-zero : {A : Type 0} {f : A → ℕ} (l : List A) → ((x : A) → Memᴰ x l → f x ≡ 0) → total f l ≡ 0
unfolding total
total-zero [] h = refl
total-zero (x ∷ l) h = let a = h x (Memᴰ.head refl) in let b = total-zero l (λ y m. h y (Memᴰ.tail m)) in omega arith

pub total-χ : {A : Type 0} (t : Bool) (f : A → ℕ) (l : List A) → total (λ x. χ t (f x)) l ≡ χ t (total f l)
total-χ true f l = refl
total-χ false f l = total-zero l (λ x m. refl)

pub total-sum : {A : Type 0} (n : ℕ) (f : A → ℕ → ℕ) (l : List A) → total (λ x. sum n (f x)) l ≡ sum n (λ i. total (λ x. f x i) l)
unfolding total
total-sum n f [] = sym (sum-zero n (λ i p. refl))
total-sum n f (x ∷ l) = let a = total-sum n f l in let b = sum-+ n (f x) (λ i. total (λ y. f y i) l) in omega arith
