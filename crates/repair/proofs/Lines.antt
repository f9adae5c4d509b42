-- The lines of an answer are those that its promise allows.
use Rattle.std.specs.Prelude.{Result, Ok, Err, IfOk}
use Rattle.std.proofs.Common.{ℕ, ◌*◌, ◌≤◌, ◌≡◌, refl, Bool, true, false, not, eqb, List, ◌++◌, length, take, drop, sym, ap, subst, None, Some, IfSome, arith}
use Rattle.std.specs.declared.option.Option.{Option}
use Rattle.std.specs.Io.KnownBytes.{Appends}
use Rattle.std.proofs.Math.Seq.{take_at}
use Rattle.net.specs.declared.Answer.{Answer}
use Rattle.net.specs.declared.refusal.Refusal.{Refusal}
use Rattle.net.specs.Numbers.{answered}
use Rattle.net.specs.Layout.{entry_bytes}
use Rattle.net.specs.Refusal.{Verdict, met, answer, refusal, none}
use Rattle.net.specs.Call.{net_at, call_refusal}
use Rattle.repairs.specs.Promise.{Repaired, Judged, no_legal_set, too_short, done}
use Rattle.antenna.specs.Exactly.{enough, list_room}
use Rattle.console.specs.Lines.{refusal_line}
use Rattle.repair.specs.Printed.{most_input, lent_bytes, jumper_lines, answer_lines, JudgedLines, CallLines, Printed}

turned : (t : Bool) → not t ≡ true → t ≡ false
turned true e = sym e
turned false e = refl

-- a refusal's line, whatever the buffer holds
line_of : (q : Verdict) (r : Answer) (after : List ℕ) → met q ≡ true → r ≡ answer q 0 → answer_lines r after ≡ refusal_line q.number q.place
unfolding answer
line_of q r after m e = let n = turned (eqb q.number 0) m in rw (e, n) refl

done_lines : (r : Answer) (after list rest : List ℕ) (n : ℕ) → length list ≡ entry_bytes * n → r ≡ answer none n → after ≡ list ++ rest → answer_lines r after ≡ jumper_lines n list
unfolding answer
done_lines r after list rest n whole e k = rw (e, k) (ap (λ l. jumper_lines n l) (take_at list rest (entry_bytes * n) whole))

pub repaired_lines : (stage limit : ℕ) (file out after : List ℕ) (r : Answer) → Repaired stage limit 0 file out after r → length out ≡ lent_bytes →
    CallLines stage limit file (answer_lines r after)
repaired_lines stage limit file out after r p lent = record {
  refused = λ m. line_of (call_refusal stage file) r after m (p.refused m).0;
  judged = λ u. lines u (p.judged u);
}
  where
    sixteen : (n : ℕ) → r ≡ answer (refusal 16 (entry_bytes * n)) 0 → r.number ≡ 16
    sixteen n e = unfold answer in ap (λ (a : Answer). a.number) e

    lines : met (call_refusal stage file) ≡ false → Judged (net_at file stage 0) limit out after r → JudgedLines (net_at file stage 0) limit (answer_lines r after)
    lines u (no_legal_set f e k) = JudgedLines.no_legal_set f (line_of (refusal 15 0) r after refl e)
    lines u (too_short list n m lt e k) = absurd (enough p u (omega (arith, lent)) (sixteen n e))
    lines u (done list n m le e k) = JudgedLines.done list n m (done_lines r after list (drop (entry_bytes * n) out) n m.whole e k)

-- the jumpers lie in the buffer
pub jumpers-room : {stage limit clearance : ℕ} {file out after : List ℕ} (r : Result ℕ Refusal) → Repaired stage limit clearance file out after (answered r) →
    IfOk r (λ n. entry_bytes * n ≤ length out)
jumpers-room (Ok n) p = list_room p refl
jumpers-room (Err refusal) p = tt

-- of a reader whose bytes are known
pub read_lines : (known a b : Option (List ℕ)) (text lines : List ℕ) → IfSome known (λ xs. text ≡ take most_input xs) → Printed text lines → Appends a b lines →
    IfSome known (λ xs. (x : List ℕ) × Printed (take most_input xs) x × Appends a b x)
read_lines None a b text lines e p q = tt
read_lines (Some xs) a b text lines e p q = let P : List ℕ → Type 0 = λ t. Printed t lines in (lines, subst P e p, q)
