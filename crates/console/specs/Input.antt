-- Document 01, "Two programs": stage (8 bits), limit (32), then the net file; under 5 bytes counts as stage 0.
-- Assumes nothing.
use Rattle.std.specs.Prelude.{ℕ, cond, List, length, get_or, drop, ltb}
use Rattle.laws.specs.Bytes.{le32}

-- bytes before the net file
abbrev pub lead_bytes : ℕ
lead_bytes = 5

abbrev pub input_stage : List ℕ → ℕ
input_stage input = cond (ltb (length input) lead_bytes) 0 (get_or input 0 0)

abbrev pub input_limit : List ℕ → ℕ
input_limit input = cond (ltb (length input) lead_bytes) 0 (le32 input 1)

abbrev pub input_file : List ℕ → List ℕ
input_file input = drop lead_bytes input
