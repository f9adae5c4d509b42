-- A refusal that `?` passes up, in the clause of the function that passes it.
-- Assumes nothing.
use Rattle.std.specs.Prelude.{◌≡◌, Result, Ok, Err, IsErrAnd}

pub err_passed : {T E B : Type 0} (f : Result T E → B) (r : Result T E) {e : E} {b : B} → IsErrAnd r (λ y. y ≡ e) → f (Err e) ≡ b → f r ≡ b
err_passed f (Ok x) h k = absurd h
err_passed f (Err y) h k = rw (h) k
