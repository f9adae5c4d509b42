-- The lines of report's answer.
use Rattle.std.specs.Prelude.{Result, Ok, Err, IfOk}
use Rattle.std.proofs.Common.{ℕ, ◌*◌, ◌≤◌, ◌≡◌, refl, Bool, true, false, not, eqb, cond, List, [], ◌++◌, length, take, drop, sym, ap, subst, ◌∙◌, None, Some, IfSome}
use Rattle.std.proofs.Math.Seq.{take_at}
use Rattle.std.specs.declared.option.Option.{Option}
use Rattle.std.specs.Io.KnownBytes.{Appends}
use Rattle.net.specs.declared.Answer.{Answer}
use Rattle.net.specs.declared.refusal.Refusal.{Refusal}
use Rattle.net.specs.Numbers.{answered}
use Rattle.antenna.specs.Room.{record_room}
use Rattle.net.specs.Layout.{record_bytes}
use Rattle.net.specs.Refusal.{Verdict, met, answer}
use Rattle.net.specs.Call.{net_at}
use Rattle.pieces.specs.JumperList.{set_of}
use Rattle.pieces.specs.Report.{report_of}
use Rattle.pieces.specs.Reports.{report_length}
use Rattle.reports.specs.Promise.{piece_count, pieces_buffer, report_refusal, report_answer, report_buffer}
use Rattle.console.specs.Lines.{refusal_line, record_lines}
use Rattle.report.specs.Printed.{most_input, lent_bytes, answer_lines, call_lines, printed}

turned : (t : Bool) → not t ≡ true → t ≡ false
turned true e = sym e
turned false e = refl

same : (t : Bool) → not t ≡ false → t ≡ true
same true e = refl
same false e = sym e

-- what an answer with this refusal shows
refused_lines : (q : Verdict) (count : ℕ) (out : List ℕ) → met q ≡ true → answer_lines (answer q count) out ≡ refusal_line q.number q.place
unfolding answer
refused_lines q count out m = rw (turned (eqb q.number 0) m) refl

done_lines : (q : Verdict) (count : ℕ) (records rest : List ℕ) → met q ≡ false → length records ≡ record_bytes * count → answer_lines (answer q count) (records ++ rest) ≡ record_lines records
unfolding answer
done_lines q count records rest m whole = rw (same (eqb q.number 0) m) (ap record_lines (take_at records rest (record_bytes * count) whole))

-- an answer with its buffer, whether its refusal is met or not
either_lines : (q : Verdict) (count : ℕ) (out records rest : List ℕ) → length records ≡ record_bytes * count → (t : Bool) → met q ≡ t →
    answer_lines (answer q count) (cond t out (records ++ rest)) ≡ cond t (refusal_line q.number q.place) (record_lines records)
either_lines q count out records rest whole true m = refused_lines q count out m
either_lines q count out records rest whole false m = done_lines q count records rest m whole

pub reported_lines : (stage limit : ℕ) (file none out after : List ℕ) (r : Answer) → none ≡ [] → length out ≡ lent_bytes → r ≡ report_answer stage 0 file none (length out) →
    after ≡ report_buffer stage limit 0 file none out → answer_lines r after ≡ call_lines stage limit file
unfolding report_answer report_buffer pieces_buffer
reported_lines stage limit file none out after r nothing lent e k =
    let q = report_refusal stage 0 file [] lent_bytes in
    let count = piece_count (net_at file stage 0) [] in
    let records = report_of (net_at file stage 0) limit (set_of []) in
    let whole = report_length (net_at file stage 0) limit (set_of []) in
    rw (e, k, lent, nothing) (either_lines q count out records (drop (record_bytes * count) out) whole (met q) refl)

-- the records lie in the buffer
pub records-room : (stage clearance : ℕ) (file list : List ℕ) (lent : ℕ) (r : Result ℕ Refusal) → answered r ≡ report_answer stage clearance file list lent →
    IfOk r (λ n. record_bytes * n ≤ lent)
records-room stage clearance file list lent (Ok n) e = record_room stage clearance file list lent (answered (Ok n)) e refl
records-room stage clearance file list lent (Err refusal) e = tt

-- of a reader whose bytes are known
pub read_lines : (known a b : Option (List ℕ)) (text lines : List ℕ) → IfSome known (λ xs. text ≡ take most_input xs) → lines ≡ printed text → Appends a b lines →
    IfSome known (λ xs. Appends a b (printed (take most_input xs)))
read_lines None a b text lines e p q = tt
read_lines (Some xs) a b text lines e p q = subst (Appends a b) (p ∙ ap printed e) q
