-- Which answer each ending of the report gives, and what the lent buffer then holds.
-- Assumes nothing.
use Rattle.std.specs.Prelude.{ℕ, ◌*◌, ◌≤◌, ◌<◌, ◌≡◌, true, false, List, length}
use Rattle.std.proofs.Common.{◌∙◌, zero-add}
use borrow.Author.Tests.{lt-ltb, le-ltb}
use Rattle.laws.specs.Lists.{over}
use Rattle.laws.specs.Place.{place}
use Rattle.net.specs.Layout.{record_bytes}
use Rattle.net.specs.Stage.{Stage}
use Rattle.net.specs.Refusal.{Verdict, none, refusal, met, or_else, lent_refusal, answer}
use Rattle.net.specs.Call.{net_at, call_refusal}
use Rattle.net.specs.First.{first-met, second-first}
use Rattle.pieces.specs.JumperList.{list_refusal, set_of}
use Rattle.pieces.specs.Report.{report_of}
use Rattle.pieces.specs.Reports.{report_length}
use Rattle.reports.specs.Promise.{piece_count, pieces_buffer, report_refusal, report_answer, report_buffer}

-- a refused answer has count 0 whatever is counted
pub answer-refused : (r : Verdict) (m n : ℕ) → met r ≡ true → answer r m ≡ answer r n
unfolding answer
answer-refused r m n h = rw h

-- the records of all pieces at the start of a buffer
pub pieces_over : (s : Stage) (limit : ℕ) (list out : List ℕ) → over (report_of s limit (set_of list)) out ≡ pieces_buffer s limit list out
unfolding pieces_buffer
pieces_over s limit list out = rw (report_length s limit (set_of list))

pub pieces_placed : (s : Stage) (limit : ℕ) (list out : List ℕ) → place 0 (report_of s limit (set_of list)) out ≡ pieces_buffer s limit list out
pieces_placed s limit list out = rw (zero-add (length (report_of s limit (set_of list)))) (pieces_over s limit list out)

-- so many records fit
pub report_fits : (s : Stage) (limit : ℕ) (list : List ℕ) {records lent : ℕ} → records ≡ piece_count s list → record_bytes * records ≤ lent →
    length (report_of s limit (set_of list)) ≤ lent
report_fits s limit list e h = rw (report_length s limit (set_of list), ← e) h

module _ (stage clearance : ℕ) (file list : List ℕ) (limit : ℕ) (out : List ℕ) where
  abbrev s : Stage
  s = net_at file stage clearance

  abbrev needed : ℕ
  needed = record_bytes * piece_count s list

  -- the refusal that is met first
  module _ {r : Verdict} (e : report_refusal stage clearance file list (length out) ≡ r) (m : met r ≡ true) where
    refused_answer : answer r 0 ≡ report_answer stage clearance file list (length out)
    unfolding report_answer
    refused_answer = answer-refused r 0 (piece_count s list) m ∙ rw e

    refused_buffer : out ≡ report_buffer stage limit clearance file list out
    unfolding report_buffer
    refused_buffer = rw (e, m)

  -- 1, 2 to 11 and 20
  module _ (h : met (call_refusal stage file) ≡ true) where
    call_first : report_refusal stage clearance file list (length out) ≡ call_refusal stage file
    unfolding report_refusal
    call_first = first-met (call_refusal stage file) (or_else (list_refusal s list) (lent_refusal needed (length out))) h

    pub call_refused_answer : answer (call_refusal stage file) 0 ≡ report_answer stage clearance file list (length out)
    call_refused_answer = refused_answer call_first h

    pub call_refused_buffer : out ≡ report_buffer stage limit clearance file list out
    call_refused_buffer = refused_buffer call_first h

  module _ (c : met (call_refusal stage file) ≡ false) where
    then_list : report_refusal stage clearance file list (length out) ≡ or_else (list_refusal s list) (lent_refusal needed (length out))
    unfolding report_refusal
    then_list = second-first (call_refusal stage file) (or_else (list_refusal s list) (lent_refusal needed (length out))) c

    -- 12 to 14
    module _ (h : met (list_refusal s list) ≡ true) where
      list_first : report_refusal stage clearance file list (length out) ≡ list_refusal s list
      list_first = then_list ∙ first-met (list_refusal s list) (lent_refusal needed (length out)) h

      pub list_refused_answer : answer (list_refusal s list) 0 ≡ report_answer stage clearance file list (length out)
      list_refused_answer = refused_answer list_first h

      pub list_refused_buffer : out ≡ report_buffer stage limit clearance file list out
      list_refused_buffer = refused_buffer list_first h

    module _ (accepted : list_refusal s list ≡ none) where
      then_lent : report_refusal stage clearance file list (length out) ≡ lent_refusal needed (length out)
      then_lent = then_list ∙ rw accepted

      -- 16
      module _ (less : length out < needed) where
        pub short-answer : (n : ℕ) → n ≡ needed → answer (refusal 16 n) 0 ≡ report_answer stage clearance file list (length out)
        unfolding report_answer answer
        short-answer n e = rw (e, then_lent, lt-ltb (length out) needed less)

        pub short-buffer : out ≡ report_buffer stage limit clearance file list out
        unfolding report_buffer
        short-buffer = rw (then_lent, lt-ltb (length out) needed less)

      -- the records
      module _ (room : needed ≤ length out) where
        pub done-answer : (count : ℕ) → count ≡ piece_count s list → answer none count ≡ report_answer stage clearance file list (length out)
        unfolding report_answer answer
        done-answer count e = rw (e, then_lent, le-ltb (length out) needed room)

        pub done-buffer : pieces_buffer s limit list out ≡ report_buffer stage limit clearance file list out
        unfolding report_buffer
        done-buffer = rw (then_lent, le-ltb (length out) needed room)
