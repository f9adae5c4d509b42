-- What the search for points of a wire that may be cut promises.
-- Assumes nothing.
use Rattle.std.specs.Prelude.{ℕ, ◌*◌, ◌<◌, ◌≤◌, ◌≡◌, ◌⊎◌, Bool, true, false, List, length, Option, None, Some}
use Rattle.net.specs.Layout.{wire_bytes}
use Rattle.net.specs.Net.{node_count, node_x, node_y, wire_parent}

-- what reading a net has checked of wire i: it is there, its ends are nodes, and they share x or y
pub record Checked (nodes wires : List ℕ) (i : ℕ) : Type 0 where
  pub numbered : 0 < i
  pub stored : wire_bytes * i ≤ length wires
  pub node : i < node_count nodes
  pub parent : wire_parent wires i < node_count nodes
  pub straight : (node_x nodes i ≡ node_x nodes (wire_parent wires i)) ⊎ (node_y nodes i ≡ node_y nodes (wire_parent wires i))

-- r is the highest position of 1 to x that is not barred
pub record HighestAt (barred : ℕ → Bool) (x r : ℕ) : Type 0 where
  pub positive : 0 < r
  pub within : r ≤ x
  pub free : barred r ≡ false
  pub above : (t : ℕ) → r < t → t ≤ x → barred t ≡ true

-- the highest position of 1 to x that is not barred, or none where all are
abbrev pub Highest : (ℕ → Bool) → ℕ → Option ℕ → Type 0
Highest barred x None = (t : ℕ) → 0 < t → t ≤ x → barred t ≡ true
Highest barred x (Some r) = HighestAt barred x r

-- r is the lowest position of x to end − 1 that is not barred
pub record LowestAt (barred : ℕ → Bool) (x end r : ℕ) : Type 0 where
  pub from : x ≤ r
  pub within : r < end
  pub free : barred r ≡ false
  pub below : (t : ℕ) → x ≤ t → t < r → barred t ≡ true

-- the lowest position of x to end − 1 that is not barred, or none where all are
abbrev pub Lowest : (ℕ → Bool) → ℕ → ℕ → Option ℕ → Type 0
Lowest barred x end None = (t : ℕ) → x ≤ t → t < end → barred t ≡ true
Lowest barred x end (Some r) = LowestAt barred x end r

-- r is a position below every position t that passes the test, and all from r + 1 to t pass it
abbrev pub LastBelow : (ℕ → Bool) → ℕ → Type 0
LastBelow held r = (t : ℕ) → 0 < t → held t ≡ true → (r < t) × ((s : ℕ) → r < s → s ≤ t → held s ≡ true)

-- r is a position above every position t below end that passes the test, and all from t to r − 1 pass it
abbrev pub FirstAbove : (ℕ → Bool) → ℕ → ℕ → Type 0
FirstAbove held end r = (t : ℕ) → t < end → held t ≡ true → (t < r) × ((s : ℕ) → t ≤ s → s < r → held s ≡ true)
