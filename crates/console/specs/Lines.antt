-- Document 01, "Two programs": the lines that the programs print. Numbers in decimal, one space between them.
-- Assumes nothing.
use Rattle.std.specs.Prelude.{ℕ, ◌+◌, ◌*◌, ◌/◌, List, [], ◌∷◌, ◌++◌, length, get_or, codes}
use Rattle.std.specs.Fmt.{decimal}
use Rattle.laws.specs.Bytes.{le16, le32}
use Rattle.laws.specs.Gather.{gather}
use Rattle.net.specs.Layout.{entry_bytes, record_bytes}

-- a space, and a line end
abbrev pub space : ℕ
space = 32

abbrev pub line_end : ℕ
line_end = 10

-- a number and what stands behind it
abbrev pub number_text : ℕ → ℕ → List ℕ
number_text n end = decimal n ++ (end ∷ [])

-- a refusal's number and place
abbrev pub refusal_line : ℕ → ℕ → List ℕ
refusal_line number place = codes "refused " ++ number_text number space ++ number_text place line_end

-- wire and position of the entry at a place of a jumper list
abbrev pub entry_line : List ℕ → ℕ → List ℕ
entry_line list at = number_text (get_or list at 0) space ++ number_text (le16 list (at + 1)) line_end

-- a line for each entry
abbrev pub list_lines : List ℕ → List ℕ
list_lines list = gather (length list / entry_bytes) (λ e. entry_line list (entry_bytes * e))

-- the seven fields of the piece record at a place
abbrev pub record_line : List ℕ → ℕ → List ℕ
record_line records at =
    number_text (get_or records at 0) space
    ++ number_text (le16 records (at + 1)) space
    ++ number_text (le32 records (at + 3)) space
    ++ number_text (get_or records (at + 7) 0) space
    ++ number_text (le16 records (at + 8)) space
    ++ number_text (get_or records (at + 10) 0) space
    ++ number_text (get_or records (at + 11) 0) line_end

-- a line for each record
abbrev pub record_lines : List ℕ → List ℕ
record_lines records = gather (length records / record_bytes) (λ k. record_line records (record_bytes * k))
