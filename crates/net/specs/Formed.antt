-- What reading a net has checked of its wires, as the theorems on pieces and sets need it.
-- Assumes nothing.
use Rattle.std.specs.Prelude.{ℕ, ◌<◌, ◌≡◌, true}
use Rattle.net.specs.Stage.{Stage}

-- a present wire is one of the net's, and its parent is a node of lower number
pub record Formed (s : Stage) : Type 0 where
  pub inside : (i : ℕ) → s.present i ≡ true → i < s.nodes
  pub below : (i : ℕ) → s.present i ≡ true → s.parent i < i
