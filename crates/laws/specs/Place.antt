-- Lists as writers leave them: some entries placed from an index on, the rest as it was; the part of a list from an index on, as it is lent.
-- Assumes nothing.
use Rattle.std.specs.Prelude.{ℕ, suc, ◌+◌, ◌-◌, ◌≤◌, ◌<◌, ◌≡◌, ◌≢◌, List, [], ◌++◌, length, take, drop}
use Rattle.std.proofs.Common.{sym, ◌∙◌, ap, append_assoc, append-nil, add-zero, arith, length-append, length-drop, take-append-drop, drop_of_length-le, length-take-le, take_all, take_at, drop_at, drop-drop}
use Rattle.std.proofs.lemmas.List.{take-append-le, drop-append-le}
use Rattle.std.proofs.Math.Seq.{take-append_seam, drop-append-add}
use Rattle.std.proofs.lemmas.List.Edits.{sets, sets-eq}
use Rattle.laws.specs.Gather.{gather}
use Rattle.laws.specs.Gathers.{gather_ap, gather-at}

-- q from index at on
abbrev pub place : {A : Type 0} → ℕ → List A → List A → List A
place at q l = take at l ++ (q ++ drop (at + length q) l)

module _ {A : Type 0} (at : ℕ) where
  pub place_none : (l : List A) → l ≡ place at [] l
  place_none l = rw (add-zero at) (sym (take-append-drop at l))

  pub place-length : (q l : List A) → at + length q ≤ length l → length (place at q l) ≡ length l
  place-length q l h =
      let a = length-append (take at l) (q ++ drop (at + length q) l) in
      let b = length-append q (drop (at + length q) l) in
      let c = length-drop (at + length q) l in
      let d = length-take-le at l (omega arith) in
      omega arith

  -- entries stored one behind the other
  pub place_sets : (q l : List A) → at + length q ≤ length l → sets l at q ≡ place at q l
  place_sets q l h = sets-eq q l at h ∙ append_assoc (take at l) q (drop (at + length q) l)

  front_length : (q l : List A) → at + length q ≤ length l → length (take at l ++ q) ≡ at + length q
  front_length q l h =
      let a = length-append (take at l) q in let b = length-take-le at l (omega arith) in omega arith

  -- in the front of a list
  pub place-front : (q p r : List A) → at + length q ≤ length p → place at q (p ++ r) ≡ place at q p ++ r
  place-front q p r h =
      rw (take-append-le at p r (omega arith), drop-append-le (at + length q) p r h) (simp append_assoc)

  -- behind its front
  pub place-behind : (q p l : List A) → length p ≡ at → place at q (p ++ drop at l) ≡ (p ++ q) ++ drop (at + length q) l
  place-behind q p l e =
      let a : drop (at + length q) (p ++ drop at l) ≡ drop (at + length q) l =
      sym (drop-drop (length q) at (p ++ drop at l)) ∙ rw (drop_at p (drop at l) at e) (drop-drop (length q) at l) in
      rw (take_at p (drop at l) at e, a) (sym (append_assoc p q (drop (at + length q) l)))

module _ {A : Type 0} (at : ℕ) where
  -- more behind it
  pub place-more : (q r l : List A) → at + length q + length r ≤ length l → place (at + length q) r (place at q l) ≡ place at (q ++ r) l
  place-more q r l h =
      let k : at + length (q ++ r) ≡ at + length q + length r = let z = length-append q r in omega arith in
      ap (place (at + length q) r) (sym (append_assoc (take at l) q (drop (at + length q) l)))
      ∙ (place-behind (at + length q) r (take at l ++ q) l (front_length at q l (omega arith)) ∙ rw k (simp append_assoc))

  -- the part of a list from index at on
  pub part-all : (l : List A) → take (length l - at) (drop at l) ≡ drop at l
  part-all l = take_all (length l - at) (drop at l) (let z = length-drop at l in omega arith)

  pub part-long : (n : ℕ) (l : List A) → at + n ≤ length l → n ≤ length (take (length l - at) (drop at l))
  part-long n l h = rw (part-all l) (let z = length-drop at l in omega arith)

  -- through such a part
  pub place-part : (q x l : List A) (k : ℕ) → length l ≤ at + k → x ≡ q ++ drop (length q) (take k (drop at l)) →
      take at l ++ (x ++ drop k (drop at l)) ≡ place at q l
  place-part q x l k h e =
      let a : take k (drop at l) ≡ drop at l = take_all k (drop at l) (let z = length-drop at l in omega arith) in
      let b : drop k (drop at l) ≡ [] = drop_of_length-le (drop at l) {i = k} (let z = length-drop at l in omega arith) in
      rw (e, a, b, append-nil (q ++ drop (length q) (drop at l)), drop-drop (length q) at l)

-- y instead of x
place_instead : {A : Type 0} (p x y r : List A) → length x ≡ length y → place (length p) y (p ++ (x ++ r)) ≡ p ++ (y ++ r)
place_instead p x y r e = rw (take-append_seam p (x ++ r), drop-append-add p (x ++ r) (length y), drop_at x r (length y) e)

-- gathered lists that differ in the front of one of them
pub gather-place : {A : Type 0} (n h : ℕ) (f g : ℕ → List A) (x y r : List A) → h < n → f h ≡ x ++ r → g h ≡ y ++ r → length x ≡ length y →
    ((i : ℕ) → i < n → i ≢ h → g i ≡ f i) → gather n g ≡ place (length (gather h f)) y (gather n f)
gather-place n h f g x y r p ef eg e same =
    let before = gather_ap h {f = g} {g = f} (λ i q. same i (omega arith) (λ w. omega arith)) in
    let behind =
    gather_ap (n - suc h) {f = λ i. g (suc h + i)} {g = λ i. f (suc h + i)} (λ i q. same (suc h + i) (omega arith) (λ w. omega arith)) in
    let rest = gather (n - suc h) (λ i. f (suc h + i)) in
    rw (gather-at n h g p, gather-at n h f p, before, behind, ef, eg, append_assoc x r rest, append_assoc y r rest)
    (sym (place_instead (gather h f) x y (r ++ rest) e))
