-- The jumper list of the chosen points: wire by wire the branch's own jumper, then its highest cuttable point.
-- Assumes nothing.
use Rattle.std.specs.Prelude.{ℕ, ◌+◌, ◌≤◌, ◌<◌, Bool, false, cond, List, [], ◌∷◌, ◌++◌, length, get_or, ltb}
use Rattle.laws.specs.Sum.{χ, sum}
use Rattle.laws.specs.Gather.{gather}
use Rattle.laws.specs.Bytes.{bytes16}
use Rattle.net.specs.Layout.{most_nodes}
use Rattle.net.specs.Limits.{length_bound}

-- an entry: wire (8 bits), position (16 bits)
abbrev pub entry : ℕ → ℕ → List ℕ
entry wire position = wire ∷ bytes16 position

-- an entry where the test holds
abbrev pub entry_if : Bool → ℕ → ℕ → List ℕ
entry_if test wire position = cond test (entry wire position) []

-- the entries of one wire, and how many they are
abbrev pub wire_entries : ℕ → ℕ → ℕ → Bool → List ℕ
wire_entries wire near hi cut_high = entry_if (ltb 0 near) wire near ++ entry_if cut_high wire hi

abbrev pub wire_count : ℕ → Bool → ℕ
wire_count near cut_high = χ (ltb 0 near) 1 + χ cut_high 1

-- the entries of the wires below n, and how many they are
abbrev pub list_of : ℕ → List ℕ → List ℕ → List Bool → List ℕ
list_of n hi near cut_high = gather n (λ r. wire_entries r (get_or near r 0) (get_or hi r 0) (get_or cut_high r false))

abbrev pub count_of : ℕ → List ℕ → List Bool → ℕ
count_of n near cut_high = sum n (λ r. wire_count (get_or near r 0) (get_or cut_high r false))

-- the arrays have an entry for each of n nodes, and the positions in them have 16 bits
pub record Writable (n : ℕ) (hi near : List ℕ) (cut_high : List Bool) : Type 0 where
  pub few : n ≤ most_nodes
  pub his : n ≤ length hi
  pub nears : n ≤ length near
  pub cuts : n ≤ length cut_high
  pub near_short : (r : ℕ) → r < n → get_or near r 0 < length_bound
  pub hi_short : (r : ℕ) → r < n → get_or hi r 0 < length_bound
