-- Lists as loops write them: what was written at the start of a list, with what was there behind it.
-- Assumes nothing.
use Rattle.std.specs.Prelude.{ℕ, zero, suc, ◌+◌, ◌-◌, ◌≤◌, ◌<◌, ◌≡◌, refl, List, [], ◌∷◌, ◌++◌, length, take, drop, set, get_or, replicate, eqb}
use Rattle.std.proofs.Common.{sym, ◌∙◌, ap, append_assoc, append-nil, add-one, arith, length-append, length-drop, drop_of_length-le, get_or-set_same, get_or-set_other, length-take-le, drop-cons, drop-drop, take_at, drop_at, take_all, take-suc, eqb-true}
use Rattle.std.proofs.lemmas.List.{set_at}
use Rattle.std.proofs.lemmas.Bool.{eqb-false}
use Rattle.laws.specs.Sum.{χ}
use Rattle.laws.specs.Sums.{by}

-- p, and behind it what l holds there
abbrev pub over : List ℕ → List ℕ → List ℕ
over p l = p ++ drop (length p) l

pub length_over : (p l : List ℕ) → length p ≤ length l → length (over p l) ≡ length l
length_over p l h = simp (length-append, length-drop) (omega arith)

-- a byte stored behind p
pub over_push : (p l : List ℕ) (i x : ℕ) → length p ≡ i → i < length l → set (over p l) i x ≡ over (p ++ x ∷ []) l
over_push p l i x e h =
    rw (e, drop-cons l i 0 h, set_at p _ _ x i e, append_assoc, length-append p (x ∷ []), e, add-one i)

-- q written at the start of what lies behind p, lent as a part of k bytes
pub over-part : (p q l : List ℕ) (at k : ℕ) → length p ≡ at → length l ≤ at + k
    → take at (over p l) ++ (over q (take k (drop at (over p l))) ++ drop k (drop at (over p l))) ≡ over (p ++ q) l
over-part p q l at k e h =
    let short : length (drop (length p) l) ≤ k = rw (length-drop (length p) l) (omega arith) in
    rw (
      take_at p (drop (length p) l) at e,
      drop_at p (drop (length p) l) at e,
      take_all k (drop (length p) l) short,
      drop_of_length-le (drop (length p) l) short,
      append-nil (q ++ drop (length q) (drop (length p) l)),
      drop-drop (length q) (length p) l,
      length-append p q,
      append_assoc p q (drop (length p + length q) l),
    )

-- a list copied element by element
pub over_copy : (s l : List ℕ) (i : ℕ) → i < length s → length s ≤ length l
    → set (over (take i s) l) i (get_or s i 0) ≡ over (take (i + 1) s) l
over_copy s l i h k =
    over_push (take i s) l i (get_or s i 0) (length-take-le i s (omega arith)) (omega arith)
    ∙ rw (add-one i, take-suc s i 0 h)

pub over_copied : (s l : List ℕ) (i : ℕ) → length s ≤ i → over (take i s) l ≡ over s l
over_copied s l i h = rw (take_all i s h)

-- x holds p over l; the rest of it from the end of p on was lent, and came back as y, with q written at its start
pub over_lent : (p q l x y : List ℕ) (at : ℕ) → x ≡ over p l → length p ≡ at → at ≤ length l
    → y ≡ over q (take (length x - at) (drop at x))
    → take at x ++ (y ++ drop (length x - at) (drop at x)) ≡ over (p ++ q) l
over_lent p q l x y at e n h f =
    let k : length x ≡ length l = ap length e ∙ length_over p l (omega arith) in
    rw (f, e) (over-part p q l at (length (over p l) - at) n (omega (arith, length_over p l (omega arith))))

-- a number added to the entry at a place
pub set-add : (l : List ℕ) (h x : ℕ) → h < length l → (j : ℕ) → get_or (set l h (get_or l h 0 + x)) j 0 ≡ get_or l j 0 + χ (eqb h j) x
set-add l h x p j =
    by (eqb h j)
    (λ y. rw (y, ← eqb-true h j y) (get_or-set_same l h (get_or l h 0 + x) 0 p))
    (λ z. rw z (let e = get_or-set_other l h j (get_or l h 0 + x) 0 (λ e. eqb-false h j z (sym e)) in omega arith))

-- an array of zeros
pub zeros : (n i : ℕ) → get_or {A = ℕ} (replicate n 0) i 0 ≡ 0
zeros zero i = refl
zeros (suc n) zero = refl
zeros (suc n) (suc i) = zeros n i
