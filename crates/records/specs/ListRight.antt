-- A net and a jumper list that are accepted. The passes over them read no obstacle: what they promise holds for whatever obstacles, of whatever version,
-- the net and the list are accepted with; here without a clearance, which has no part in it either (`report_same`).
-- Assumes nothing.
use Rattle.std.specs.Prelude.{ℕ, ◌≡◌, List, []}
use Rattle.net.specs.Stage.{Stage}
use Rattle.net.specs.NoClearance.{stage_of}
use Rattle.net.specs.Accepted.{NetRight}
use Rattle.net.specs.Refusal.{none, net_refusal}
use Rattle.pieces.specs.JumperList.{list_refusal}

pub record ListRight (v : ℕ) (ns ws : List ℕ) (k : ℕ) (list os : List ℕ) : Type 0 where
  pub right : NetRight v ns ws os
  pub listed : list_refusal (stage_of v ns ws os k) list ≡ none

-- there are obstacles of a version that they are accepted with
abbrev pub ListAccepted : List ℕ → List ℕ → ℕ → List ℕ → Type 0
ListAccepted ns ws k list = (v : ℕ) × (os : List ℕ) × ListRight v ns ws k list os

-- they are accepted where there is no obstacle, which is so if and only if there are obstacles that they are accepted with (NoObstacles)
abbrev pub AcceptedWithoutObstacles : List ℕ → List ℕ → ℕ → List ℕ → Type 0
AcceptedWithoutObstacles ns ws k list = (net_refusal 1 ns ws [] ≡ none) × (list_refusal (stage_of 1 ns ws [] k) list ≡ none)

-- what holds of the net at stage k whatever obstacles they are accepted with
abbrev pub AtAccepted : List ℕ → List ℕ → ℕ → List ℕ → (Stage → Type 0) → Type 0
AtAccepted ns ws k list P = (v : ℕ) (os : List ℕ) → ListRight v ns ws k list os → P (stage_of v ns ws os k)
