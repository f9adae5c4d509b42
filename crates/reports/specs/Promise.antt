-- What report promises: demand 2, for any stage, limit, clearance, file, jumper list and lent buffer.
-- Assumes nothing.
use Rattle.std.specs.Prelude.{ℕ, ◌*◌, cond, List, ◌++◌, length, drop}
use Rattle.net.specs.declared.Answer.{Answer}
use Rattle.net.specs.Layout.{record_bytes}
use Rattle.net.specs.Stage.{Stage}
use Rattle.net.specs.Refusal.{Verdict, met, or_else, lent_refusal, answer}
use Rattle.net.specs.Call.{net_at, call_refusal}
use Rattle.pieces.specs.JumperList.{set_of, list_refusal}
use Rattle.pieces.specs.Report.{piece_names, report_of}

-- the number of pieces
abbrev pub piece_count : Stage → List ℕ → ℕ
piece_count s list = length (piece_names s (set_of list))

-- what a buffer holds when the records of all pieces are written to it: these, and behind them what was there
unfoldable pub pieces_buffer : Stage → ℕ → List ℕ → List ℕ → List ℕ
pieces_buffer s limit list out = report_of s limit (set_of list) ++ drop (record_bytes * piece_count s list) out

-- report: 1, 2 to 11 and 20, 12 to 14, 16
unfoldable pub report_refusal : ℕ → ℕ → List ℕ → List ℕ → ℕ → Verdict
report_refusal stage clearance file list lent =
    or_else (call_refusal stage file)
    (or_else (list_refusal (net_at file stage clearance) list) (lent_refusal (record_bytes * piece_count (net_at file stage clearance) list) lent))

-- the count is that of the records
unfoldable pub report_answer : ℕ → ℕ → List ℕ → List ℕ → ℕ → Answer
report_answer stage clearance file list lent = answer (report_refusal stage clearance file list lent) (piece_count (net_at file stage clearance) list)

-- what the lent buffer then holds: the records and behind them what was there, or after a refusal what was there
unfoldable pub report_buffer : ℕ → ℕ → ℕ → List ℕ → List ℕ → List ℕ → List ℕ
report_buffer stage limit clearance file list out =
    cond (met (report_refusal stage clearance file list (length out))) out (pieces_buffer (net_at file stage clearance) limit list out)
