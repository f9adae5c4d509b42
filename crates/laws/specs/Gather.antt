-- Lists put together in rising order of a number.
-- Assumes nothing.
use Rattle.std.specs.Prelude.{ℕ, zero, suc, Bool, true, false, List, [], ◌∷◌, ◌++◌}

-- x alone where the test holds, else nothing
abbrev pub only : {A : Type 0} → Bool → A → List A
only true x = x ∷ []
only false x = []

-- f 0, behind it f 1, .. up to f (n − 1)
unfoldable pub gather : {A : Type 0} → ℕ → (ℕ → List A) → List A
gather zero f = []
gather (suc n) f = gather n f ++ f n
