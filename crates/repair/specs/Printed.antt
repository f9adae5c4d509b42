-- Document 01, "Two programs": what the repair program prints of what it reads.
-- Assumes nothing.
use Rattle.std.specs.Prelude.{ℕ, ◌*◌, ◌≡◌, true, false, cond, List, ◌++◌, take, eqb, codes}
use Rattle.net.specs.declared.Answer.{Answer}
use Rattle.net.specs.Layout.{entry_bytes}
use Rattle.net.specs.Stage.{Stage}
use Rattle.net.specs.Refusal.{met}
use Rattle.net.specs.Call.{net_at, call_refusal}
use Rattle.pieces.specs.Legal.{Smallest, NoneLegal}
use Rattle.console.specs.Input.{input_stage, input_limit, input_file}
use Rattle.console.specs.Lines.{number_text, line_end, refusal_line, list_lines}

-- bytes that it reads at most, and lends
abbrev pub most_input : ℕ
most_input = 8192

abbrev pub lent_bytes : ℕ
lent_bytes = 65535

-- how many jumpers, and a line for each
abbrev pub jumper_lines : ℕ → List ℕ → List ℕ
jumper_lines n list = codes "jumpers " ++ number_text n line_end ++ list_lines list

-- the lines of an answer: the list at the start of the buffer, or the refusal
abbrev pub answer_lines : Answer → List ℕ → List ℕ
answer_lines a out = cond (eqb a.number 0) (jumper_lines a.count (take (entry_bytes * a.count) out)) (refusal_line a.number a.place)

-- the lines for an accepted net: 15 no legal set exists; or the list of a smallest legal set, any of them. 16 never: the lent bytes are always enough
pub data JudgedLines (s : Stage) (limit : ℕ) (lines : List ℕ) : Type 0 where
  no_legal_set : NoneLegal s limit → lines ≡ refusal_line 15 0 → JudgedLines s limit lines
  done : (list : List ℕ) (n : ℕ) → Smallest s limit list n → lines ≡ jumper_lines n list → JudgedLines s limit lines

-- the lines for a call: 1, then 2 to 11 and 20, then those for the net
pub record CallLines (stage limit : ℕ) (file lines : List ℕ) : Type 0 where
  pub refused : met (call_refusal stage file) ≡ true → lines ≡ refusal_line (call_refusal stage file).number (call_refusal stage file).place
  pub judged : met (call_refusal stage file) ≡ false → JudgedLines (net_at file stage 0) limit lines

-- the lines for an input
abbrev pub Printed : List ℕ → List ℕ → Type 0
Printed input lines = CallLines (input_stage input) (input_limit input) (input_file input) lines
