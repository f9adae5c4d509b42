-- What a read puts behind what was read before.
use Rattle.std.proofs.Common.{◌≡◌, ℕ, ◌+◌, ◌≤◌, List, ◌++◌, length, take, sym, ap, ◌∙◌, subst, length-take-le}
use Rattle.std.specs.declared.option.Option.{Option}
use Rattle.std.specs.Io.KnownBytes.{Consumes}
use Rattle.std.proofs.KnownBytes.{Consumes-trans}
use Rattle.std.proofs.Math.Seq.{take-append-add}
use Rattle.std.proofs.lemmas.List.{take-append-le}

-- the front so far, and n bytes of those behind it
front_grows : (got n : ℕ) (xs ys rest : List ℕ) → got ≤ length xs → n ≤ length ys → take (got + n) (take got xs ++ (ys ++ rest)) ≡ take got xs ++ take n ys
front_grows got n xs ys rest within fits =
    ap (λ k. take (k + n) (take got xs ++ (ys ++ rest))) (sym (length-take-le got xs within))
    ∙ take-append-add (take got xs) (ys ++ rest) n
    ∙ ap (λ l. take got xs ++ l) (take-append-le n ys rest fits)

pub read_on : (a b c : Option (List ℕ)) (got n : ℕ) (xs ys rest : List ℕ) → got ≤ length xs → n ≤ length ys → Consumes a b (take got xs) → Consumes b c (take n ys) →
    Consumes a c (take (got + n) (take got xs ++ (ys ++ rest)))
read_on a b c got n xs ys rest within fits p q = subst (Consumes a c) (sym (front_grows got n xs ys rest within fits)) (Consumes-trans a b c (take got xs) (take n ys) p q)
