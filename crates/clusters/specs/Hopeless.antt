-- Hopeless clusters: no set of jumpers takes away what makes them harmful. 15 is answered exactly where there is one.
-- Assumes nothing.
use Rattle.std.specs.Prelude.{ℕ, Bool, ◌&&◌, List, get_or, ltb}
use Rattle.laws.specs.Sum.{any}
use Rattle.clusters.specs.FirstPasses.{marked}

-- cluster r has a gate that a piece may harm, and more fixed weight than the limit
abbrev pub hopeless_at : List ℕ → List ℕ → ℕ → ℕ → Bool
hopeless_at fixed gates limit r = ltb 0 (get_or gates r 0) && ltb limit (get_or fixed r 0)

-- some cluster below n is
abbrev pub any_hopeless : ℕ → List ℕ → List ℕ → ℕ → Bool
any_hopeless n fixed gates limit = any n (λ r. hopeless_at fixed gates limit r)

-- some cluster below n of component k is
abbrev pub hopeless_in : ℕ → List ℕ → List ℕ → List ℕ → ℕ → ℕ → Bool
hopeless_in n component fixed gates limit k = marked n component (λ r. hopeless_at fixed gates limit r) k
