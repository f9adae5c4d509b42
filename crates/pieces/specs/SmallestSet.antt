-- A smallest legal set, as a set: a smallest list's set is one.
-- Assumes nothing.
use Rattle.std.specs.Prelude.{ℕ, ◌≤◌, ◌≡◌, List}
use Rattle.std.proofs.Common.{arith}
use Rattle.net.specs.Stage.{Stage}
use Rattle.pieces.specs.Piece.{Points}
use Rattle.pieces.specs.Legal.{Legal, Smallest, size, listed}
use Rattle.pieces.specs.Size.{listed-size}

pub record SmallestSet (s : Stage) (limit : ℕ) (J : Points) : Type 0 where
  pub legal : Legal s limit J
  pub fewest : (K : Points) → Legal s limit K → size s J ≤ size s K

-- the count of a smallest list is the number of its points
pub smallest-size : {s : Stage} {limit : ℕ} {list : List ℕ} {n : ℕ} → Smallest s limit list n → size s (listed list n) ≡ n
smallest-size {s} {limit} {list} {n} m = let a = listed-size s list n in let b = m.fewest (listed list n) m.legal in omega arith

pub smallest-set : {s : Stage} {limit : ℕ} {list : List ℕ} {n : ℕ} → Smallest s limit list n → SmallestSet s limit (listed list n)
smallest-set m = record { legal = m.legal; fewest = λ K legal. let a = smallest-size m in let b = m.fewest K legal in omega arith }
