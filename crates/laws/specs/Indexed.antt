-- Laws of a list by its indices: what is in it, its order, totals over it, and lists of records of one length.
-- Assumes nothing.
use Prim.Native.Nat.{ℕ, zero, suc, ◌+◌, ◌*◌, ◌<◌}
use Rattle.std.specs.Prelude.{◌≡◌, get_or}
use Rattle.std.proofs.Math.Path.{refl}
use Rattle.std.proofs.Common.{sym, ◌∙◌, ⊎_elim, get_or-append-add}
use mathlib.Core.List.Memᴰ
use mathlib.Core.List.{List, [], ◌∷◌, ◌++◌, flat_map, append_assoc, Memᴰ}
use native.Mathlib.Omega.{arith}
use Rattle.std.proofs.Math.ListN.{length, get_or-append}
use Rattle.laws.specs.Sum.{sum}
use Rattle.laws.specs.Masks.{sum_low}
use Rattle.laws.specs.Gathers.{total, Sorted, empty, front}

module _ {A : Type 0} (d : A) where
  pub mem_at : (l : List A) (i : ℕ) → i < length l → Memᴰ (get_or l i d) l
  mem_at [] i p = absurd (native.Mathlib.Nat.lt_irrefl 0 (omega arith))
  mem_at (x ∷ l) zero p = Memᴰ.head refl
  mem_at (x ∷ l) (suc i) p = Memᴰ.tail (mem_at l i (omega arith))

  pub at_mem : {y : A} (l : List A) → Memᴰ y l → (i : ℕ) × (i < length l) × (get_or l i d ≡ y)
  at_mem [] m = absurd (Memᴰ.not-nil m)
  at_mem {y = y} (x ∷ l) m =
      ⊎_elim
      (λ e. (0, omega arith, sym e))
      (λ k. let r = at_mem {y = y} l k in (suc r.0, omega (arith, r.1), r.2))
      (Memᴰ.cases_cons m)

  pub sorted_at : {Before : A → A → Type 0} (l : List A) → Sorted Before l → (i j : ℕ) → i < j → j < length l → Before (get_or l i d) (get_or l j d)
  sorted_at [] empty i j p q = absurd (native.Mathlib.Nat.lt_irrefl 0 (omega arith))
  sorted_at (x ∷ l) (front f s) zero zero p q = absurd (native.Mathlib.Nat.lt_irrefl 0 (omega arith))
  sorted_at (x ∷ l) (front f s) zero (suc j) p q = f (get_or l j d) (mem_at l j (omega arith))
  sorted_at (x ∷ l) (front f s) (suc i) zero p q = absurd (native.Mathlib.Nat.lt_irrefl 0 (omega arith))
  sorted_at (x ∷ l) (front f s) (suc i) (suc j) p q = sorted_at l s i j (omega arith) (omega arith)

  pub total-at : (f : A → ℕ) (l : List A) → total f l ≡ sum (length l) (λ i. f (get_or l i d))
  unfolding total sum
  total-at f [] = refl
  total-at f (x ∷ l) = let a = total-at f l in let b = sum_low (length l) (λ i. f (get_or (x ∷ l) i d)) in omega arith

  -- byte k of record i, where each record has w bytes
  pub record_at_lem : (w : ℕ) (f : A → List ℕ) → ((x : A) → length (f x) ≡ w) → (l : List A) (rest : List ℕ) (i k : ℕ) → i < length l → k < w →
      get_or (flat_map f l ++ rest) (w * i + k) 0 ≡ get_or (f (get_or l i d)) k 0
  unfolding flat_map
  record_at_lem w f h [] rest i k p q = absurd (native.Mathlib.Nat.lt_irrefl 0 (omega arith))
  record_at_lem w f h (x ∷ l) rest zero k p q =
      let e : w * 0 + k ≡ k = omega arith in
      let n = h x in
      rw (append_assoc (f x) (flat_map f l) rest, e) (get_or-append (f x) (flat_map f l ++ rest) 0 k (omega arith))
  record_at_lem w f h (x ∷ l) rest (suc i) k p q =
      let n = h x in
      let e : w * suc i + k ≡ length (f x) + (w * i + k) = omega arith in
      rw (append_assoc (f x) (flat_map f l) rest, e)
      (get_or-append-add (f x) (flat_map f l ++ rest) (w * i + k) 0 ∙ record_at_lem w f h l rest i k (omega arith) q)
