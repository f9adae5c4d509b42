-- The jumpers lie inside their wires: what the laws of names need of a set.
-- Assumes nothing.
use Rattle.std.specs.Prelude.{ℕ, ◌≤◌, ◌<◌, ◌≡◌, true}
use Rattle.net.specs.Stage.{Stage}
use Rattle.pieces.specs.Piece.{Points}

abbrev pub Inside : Stage → Points → Type 0
Inside s J = (i t : ℕ) → J i t ≡ true → (1 ≤ t) × (t < s.len i)
