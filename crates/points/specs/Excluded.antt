-- What the search promises leaves one answer, so every program that gives another is excluded.
-- Assumes nothing.
use Rattle.std.specs.Prelude.{ℕ, ◌<◌, ◌≡◌, refl, Bool, eqb, Option, None, Some}
use Rattle.std.proofs.Common.{ap, arith}
use Rattle.laws.specs.Sums.{no_both}
use Rattle.points.specs.Cuttable.{HighestAt, Highest, LowestAt, Lowest}

module _ (barred : ℕ → Bool) (x : ℕ) where
  not_lower : {q r : ℕ} → HighestAt barred x q → HighestAt barred x r → r < q → ⊥
  not_lower {q} {r} a b h = no_both (b.above q h a.within) a.free

  pub one-highest : {q r : Option ℕ} → Highest barred x q → Highest barred x r → q ≡ r
  one-highest {q = None} {r = None} a b = refl
  one-highest {q = None} {r = Some r} a b = absurd (no_both (a r b.positive b.within) b.free)
  one-highest {q = Some q} {r = None} a b = absurd (no_both (b q a.positive a.within) a.free)
  one-highest {q = Some q} {r = Some r} a b =
      let l = not_lower a b in let m = not_lower b a in let e : q ≡ r = omega arith in ap Some e

  module _ (end : ℕ) where
    not-higher : {q r : ℕ} → LowestAt barred x end q → LowestAt barred x end r → q < r → ⊥
    not-higher {q} a b h = no_both (b.below q a.from h) a.free

    pub one-lowest : {q r : Option ℕ} → Lowest barred x end q → Lowest barred x end r → q ≡ r
    one-lowest {q = None} {r = None} a b = refl
    one-lowest {q = None} {r = Some r} a b = absurd (no_both (a r b.from b.within) b.free)
    one-lowest {q = Some q} {r = None} a b = absurd (no_both (b q a.from a.within) a.free)
    one-lowest {q = Some q} {r = Some r} a b =
        let l = not-higher a b in let m = not-higher b a in let e : q ≡ r = omega arith in ap Some e

-- of positions 1 to 3 with 2 barred the highest is 3, the lowest 1
pub highest_3 : {r : Option ℕ} → Highest (λ t. eqb t 2) 3 r → r ≡ Some 3
highest_3 h =
    one-highest (λ t. eqb t 2) 3 h
    (record { positive = omega arith; within = omega arith; free = refl; above = λ t l m. absurd (omega arith) })

pub lowest_1 : {r : Option ℕ} → Lowest (λ t. eqb t 2) 1 4 r → r ≡ Some 1
lowest_1 h =
    one-lowest (λ t. eqb t 2) 1 4 h
    (record { from = omega arith; within = omega arith; free = refl; below = λ t l m. absurd (omega arith) })
