-- What writing the sections answers, refused or done.
-- Assumes nothing.
use Rattle.std.specs.Prelude.{ℕ, ◌≡◌, refl, true, List, Ok, Err, length}
use Rattle.laws.specs.Lists.{over}
use Rattle.net.specs.declared.refusal.Refusal.{Refusal}
use Rattle.net.specs.File.{file_of, file_bytes}
use Rattle.net.specs.Numbers.{number_of, place_of}
use Rattle.net.specs.Refusal.{none, refusal, is_version, answer, write_refusal, write_answer, write_buffer}
use Rattle.net.specs.Answered.{met_refusal}
use Rattle.net.specs.Writing.{buffer-done}
use Rattle.def.specs.Written.{written}

-- 1 is a version of net files
pub first_version : is_version 1 ≡ true
unfolding is_version
first_version = refl

module _ (ns ws os out : List ℕ) where
  pub ended_refused : (r : Refusal) → refusal (number_of r) (place_of r) ≡ write_refusal 1 ns ws os (length out)
      → (written (Err r) ≡ write_answer 1 ns ws os (length out)) × (out ≡ write_buffer 1 ns ws os out)
  unfolding write_answer write_buffer answer
  ended_refused r q = let m = met_refusal r in (rw (← q, m), rw (← q, m))

  -- the place after `;` where it is done
  pub ended_done : {after : List ℕ} (stop : ℕ) → none ≡ write_refusal 1 ns ws os (length out) → after ≡ over (file_of 1 ns ws os) out
      → (write_answer 1 ns ws os (length out) ≡ record { number = 0; place = 0; count = file_bytes ns ws os })
      × (written (Ok (record { end = stop; bytes = file_bytes ns ws os })) ≡ record { number = 0; place = stop; count = file_bytes ns ws os })
      × (after ≡ write_buffer 1 ns ws os out)
  unfolding write_answer answer
  ended_done stop q e = (rw (← q), refl, buffer-done 1 ns ws os out e q)
