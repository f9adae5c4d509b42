-- Document 01, "Two programs": what the report program prints of what it reads.
-- Assumes nothing.
use Rattle.std.specs.Prelude.{ℕ, ◌*◌, cond, List, [], take, eqb}
use Rattle.net.specs.declared.Answer.{Answer}
use Rattle.net.specs.Layout.{record_bytes}
use Rattle.net.specs.Refusal.{met}
use Rattle.net.specs.Call.{net_at}
use Rattle.pieces.specs.JumperList.{set_of}
use Rattle.pieces.specs.Report.{report_of}
use Rattle.reports.specs.Promise.{report_refusal}
use Rattle.console.specs.Input.{input_stage, input_limit, input_file}
use Rattle.console.specs.Lines.{refusal_line, record_lines}

-- bytes that it reads at most, and lends
abbrev pub most_input : ℕ
most_input = 8192

abbrev pub lent_bytes : ℕ
lent_bytes = 3072

-- the lines of an answer: the records at the start of the buffer, or the refusal
abbrev pub answer_lines : Answer → List ℕ → List ℕ
answer_lines a out = cond (eqb a.number 0) (record_lines (take (record_bytes * a.count) out)) (refusal_line a.number a.place)

-- the lines for a call without jumpers: the refusal met, or the records of all pieces
abbrev pub call_lines : ℕ → ℕ → List ℕ → List ℕ
call_lines stage limit file =
    cond (met (report_refusal stage 0 file [] lent_bytes))
    (refusal_line (report_refusal stage 0 file [] lent_bytes).number (report_refusal stage 0 file [] lent_bytes).place)
    (record_lines (report_of (net_at file stage 0) limit (set_of [])))

-- the lines for an input
abbrev pub printed : List ℕ → List ℕ
printed input = call_lines (input_stage input) (input_limit input) (input_file input)
