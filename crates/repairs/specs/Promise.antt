-- What repair promises: demand 3, for any stage, limit, clearance, file and lent buffer.
-- out is what the lent buffer holds when repair is called, after what it holds when repair returns, r what it returns. Assumes nothing.
use Rattle.std.specs.Prelude.{ℕ, ◌*◌, ◌≤◌, ◌<◌, ◌≡◌, true, false, List, ◌++◌, length, drop}
use Rattle.net.specs.declared.Answer.{Answer}
use Rattle.net.specs.Layout.{entry_bytes}
use Rattle.net.specs.Stage.{Stage}
use Rattle.net.specs.Refusal.{none, refusal, met, answer}
use Rattle.net.specs.Call.{net_at, call_refusal}
use Rattle.pieces.specs.Legal.{Smallest, NoneLegal}

-- the answers to an accepted net: 15 no legal set exists; 16 the smallest needs more bytes than lent; or the list of a smallest legal set.
-- Which of several smallest sets is listed is free: the list is named here with all that holds of it
pub data Judged (s : Stage) (limit : ℕ) (out after : List ℕ) (r : Answer) : Type 0 where
  no_legal_set : NoneLegal s limit → r ≡ answer (refusal 15 0) 0 → after ≡ out → Judged s limit out after r
  too_short :
      (list : List ℕ) (n : ℕ) →
      Smallest s limit list n →
      length out < entry_bytes * n →
      r ≡ answer (refusal 16 (entry_bytes * n)) 0 →
      after ≡ out →
      Judged s limit out after r
  done :
      (list : List ℕ) (n : ℕ) →
      Smallest s limit list n →
      entry_bytes * n ≤ length out →
      r ≡ answer none n →
      after ≡ list ++ drop (entry_bytes * n) out →
      Judged s limit out after r

-- repair tries 1, then 2 to 11 and 20, then 15, then 16; after a refusal the buffer holds what it held
pub record Repaired (stage limit clearance : ℕ) (file out after : List ℕ) (r : Answer) : Type 0 where
  pub refused : met (call_refusal stage file) ≡ true → (r ≡ answer (call_refusal stage file) 0) × (after ≡ out)
  pub judged : met (call_refusal stage file) ≡ false → Judged (net_at file stage clearance) limit out after r
