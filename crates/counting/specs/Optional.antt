-- Arrays of optional numbers as two lists: which entries are there, and their numbers, 0 where there is none.
-- Assumes nothing.
use Rattle.std.specs.Prelude.{ℕ, ◌<◌, ◌≡◌, ◌≢◌, Bool, false, Option, List, length, get_or, set, map, is_some, unwrap_or}
use Rattle.std.proofs.Common.{◌∙◌, ap, arith, get_or-set_same, get_or-set_other}
use Rattle.std.proofs.Math.ListN.{length-map}
use Rattle.std.proofs.lemmas.List.{map-set, get_or-map}

abbrev pub flags : List (Option ℕ) → List Bool
flags xs = map is_some xs

abbrev pub weights : List (Option ℕ) → List ℕ
weights xs = map (λ (o : Option ℕ). unwrap_or o 0) xs

-- an entry, and what the lists hold of it
pub flag_at : (xs : List (Option ℕ)) (j : ℕ) (d : Option ℕ) → j < length xs → get_or (flags xs) j false ≡ is_some (get_or xs j d)
flag_at xs j d p = get_or-map is_some xs j d false p

pub number_at : (xs : List (Option ℕ)) (j : ℕ) (d : Option ℕ) → j < length xs → get_or (weights xs) j 0 ≡ unwrap_or (get_or xs j d) 0
number_at xs j d p = get_or-map (λ (o : Option ℕ). unwrap_or o 0) xs j d 0 p

-- the same of an entry that was matched
pub flag_is : (xs : List (Option ℕ)) (j : ℕ) (d : Option ℕ) {o : Option ℕ} → get_or xs j d ≡ o → j < length xs → get_or (flags xs) j false ≡ is_some o
flag_is xs j d e p = flag_at xs j d p ∙ ap is_some e

pub number_is : (xs : List (Option ℕ)) (j : ℕ) (d : Option ℕ) {o : Option ℕ} → get_or xs j d ≡ o → j < length xs → get_or (weights xs) j 0 ≡ unwrap_or o 0
number_is xs j d e p = number_at xs j d p ∙ ap (λ (o : Option ℕ). unwrap_or o 0) e

-- an entry written, seen through a function
pub mapped_same : {A B : Type 0} (f : A → B) (l : List A) (i : ℕ) (v : A) (d : B) → i < length l → get_or (map f (set l i v)) i d ≡ f v
mapped_same {A = A} f l i v d p = ap (λ m. get_or m i d) (map-set f l i v) ∙ get_or-set_same (map f l) i (f v) d (omega (arith, length-map l f))

pub mapped_other : {A B : Type 0} (f : A → B) (l : List A) (i j : ℕ) (v : A) (d : B) → j ≢ i → get_or (map f (set l i v)) j d ≡ get_or (map f l) j d
mapped_other f l i j v d ne = ap (λ m. get_or m j d) (map-set f l i v) ∙ get_or-set_other (map f l) i j (f v) d ne
