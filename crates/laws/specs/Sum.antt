-- Sums and tests over the numbers below n.
-- Assumes nothing.
use Rattle.std.specs.Prelude.{ℕ, zero, suc, ◌+◌, Bool, true, false, ◌||◌, cond}

-- x where the test holds, else 0
abbrev pub χ : Bool → ℕ → ℕ
χ true x = x
χ false x = 0

-- f 0 + f 1 + .. + f (n - 1)
unfoldable pub sum : ℕ → (ℕ → ℕ) → ℕ
sum zero f = 0
sum (suc n) f = sum n f + f n

-- some number below n passes the test
unfoldable pub any : ℕ → (ℕ → Bool) → Bool
any zero f = false
any (suc n) f = any n f || f n

-- the lowest number below n that passes the test, or n where none does
unfoldable pub lowest : ℕ → (ℕ → Bool) → ℕ
lowest zero f = 0
lowest (suc n) f = cond (any n f) (lowest n f) (cond (f n) n (suc n))

-- the highest number below n that passes the test, or 0 where none does
unfoldable pub highest : ℕ → (ℕ → Bool) → ℕ
highest zero f = 0
highest (suc n) f = cond (f n) n (highest n f)
