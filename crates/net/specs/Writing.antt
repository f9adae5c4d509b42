-- The lengths of a written file's parts, and what each test of the writer shows.
-- Assumes nothing.
use Rattle.std.specs.Prelude.{ℕ, ◌+◌, ◌<◌, ◌≤◌, ◌≡◌, refl, true, false, List, ◌++◌, length}
use Rattle.std.proofs.Common.{length-append}
use borrow.Author.Tests.{lt-ltb, le-ltb}
use Rattle.laws.specs.Bytes.{bytes32}
use Rattle.laws.specs.Lists.{over}
use Rattle.net.specs.Layout.{head_bytes}
use Rattle.net.specs.File.{head_of, file_of, file_bytes}
use Rattle.net.specs.Refusal.{Verdict, none, refusal, met, is_version, net_refusal, answer, write_refusal, write_answer, write_buffer}
use Rattle.net.specs.First.{first_of_lem, rest_of}

-- the three pairs of a head, behind version and pair count
abbrev pub pairs_of : ℕ → ℕ → ℕ → List ℕ
pairs_of n w o =
    bytes32 head_bytes ++ bytes32 n ++ (bytes32 (head_bytes + n) ++ bytes32 w) ++ (bytes32 (head_bytes + n + w) ++ bytes32 o)

pub head-length : (v n w o : ℕ) → length (head_of v n w o) ≡ head_bytes
unfolding head_of
head-length v n w o = refl

module _ (v : ℕ) (ns ws os : List ℕ) where
  pub wires-after : length (head_of v (length ns) (length ws) (length os) ++ ns) ≡ head_bytes + length ns
  wires-after =
      rw (length-append (head_of v (length ns) (length ws) (length os)) ns, head-length v (length ns) (length ws) (length os))

  pub obstacles-after : length (head_of v (length ns) (length ws) (length os) ++ ns ++ ws) ≡ head_bytes + length ns + length ws
  obstacles-after = rw (length-append (head_of v (length ns) (length ws) (length os) ++ ns) ws, wires-after)

  pub file-length : length (file_of v ns ws os) ≡ file_bytes ns ws os
  unfolding file_of
  file-length = rw (length-append (head_of v (length ns) (length ws) (length os) ++ ns ++ ws) os, obstacles-after)

  module _ (lent : ℕ) where
    -- refused by 2, by one of 4 to 11 and 20, by 16, or not
    pub write_version : is_version v ≡ false → refusal 2 0 ≡ write_refusal v ns ws os lent
    unfolding write_refusal
    write_version h = rw h

    pub write_net : (r : Verdict) → is_version v ≡ true → r ≡ net_refusal v ns ws os → met r ≡ true → r ≡ write_refusal v ns ws os lent
    unfolding write_refusal
    write_net r i q m = rw i (first_of_lem _ _ q m)

    pub write_lent : (r : Verdict) (needed : ℕ) → is_version v ≡ true → r ≡ net_refusal v ns ws os → met r ≡ false → needed ≡ file_bytes ns ws os → lent < needed
        → refusal 16 needed ≡ write_refusal v ns ws os lent
    unfolding write_refusal
    write_lent r needed i q m e h = rw i (rest_of _ _ q m (rw (← e, lt-ltb lent needed h)))

    pub write_done : (r : Verdict) (needed : ℕ) → is_version v ≡ true → r ≡ net_refusal v ns ws os → met r ≡ false → needed ≡ file_bytes ns ws os → needed ≤ lent
        → none ≡ write_refusal v ns ws os lent
    unfolding write_refusal
    write_done r needed i q m e h = rw i (rest_of _ _ q m (rw (← e, le-ltb lent needed h)))

    -- what is answered then
    pub answer-refused : (r : Verdict) → r ≡ write_refusal v ns ws os lent → met r ≡ true → answer r 0 ≡ write_answer v ns ws os lent
    unfolding write_answer answer
    answer-refused r q m = rw (← q, m)

    pub answer-done : (needed : ℕ) → needed ≡ file_bytes ns ws os → none ≡ write_refusal v ns ws os lent → answer none needed ≡ write_answer v ns ws os lent
    unfolding write_answer answer
    answer-done needed e q = rw (← q, e)

  -- what the lent buffer then holds
  module _ (out : List ℕ) where
    pub buffer-refused : (r : Verdict) → r ≡ write_refusal v ns ws os (length out) → met r ≡ true → out ≡ write_buffer v ns ws os out
    unfolding write_buffer
    buffer-refused r q m = rw (← q, m)

    pub buffer-done : {after : List ℕ} → after ≡ over (file_of v ns ws os) out → none ≡ write_refusal v ns ws os (length out) → after ≡ write_buffer v ns ws os out
    unfolding write_buffer
    buffer-done e q = rw (← q, e, file-length)
