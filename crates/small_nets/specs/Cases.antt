-- Document 01, "Small nets": the cases marked P, as one table. Shown.antt proves it.
-- Assumes nothing.
use Rattle.std.specs.Prelude.{ℕ, ◌≤◌, ◌≡◌, true, ◌&&◌, ◌||◌, List, [], ◌∷◌, eqb}
use Rattle.net.specs.Stage.{Stage}
use Rattle.net.specs.NoClearance.{stage_of}
use Rattle.pieces.specs.Piece.{Points}
use Rattle.pieces.specs.Legal.{Legal, NoneLegal, size}
use Rattle.pieces.specs.Size.{single}

-- a legal set of n points exists, and no legal set has fewer
pub record Least (s : Stage) (limit n : ℕ) : Type 0 where
  pub set : Points
  pub legal : Legal s limit set
  pub points : size s set ≡ n
  pub fewest : (J : Points) → Legal s limit J → n ≤ size s J

-- every legal set of n points has only points that pass the test
abbrev pub Only : Stage → ℕ → ℕ → Points → Type 0
Only s limit n passes = (J : Points) → Legal s limit J → size s J ≡ n → (i t : ℕ) → J i t ≡ true → passes i t ≡ true

-- net A: node 0 (0,0) gate, node 1 (13,0), wire 1 factor 1; stage 1. Node 1's flags, the wire's layer and the obstacles vary
abbrev pub nodes_a : ℕ → List ℕ
nodes_a flags = 0 ∷ 0 ∷ 0 ∷ 0 ∷ 1 ∷ 13 ∷ 0 ∷ 0 ∷ 0 ∷ flags ∷ []

abbrev pub wires_a : ℕ → List ℕ
wires_a layer = 0 ∷ layer ∷ 1 ∷ []

abbrev pub net_a : ℕ → ℕ → List ℕ → Stage
net_a flags layer obstacles = stage_of 1 (nodes_a flags) (wires_a layer) obstacles 1

-- an obstacle from x1,0 to x2,0
abbrev pub bar : ℕ → ℕ → List ℕ
bar x1 x2 = x1 ∷ 0 ∷ 0 ∷ 0 ∷ x2 ∷ 0 ∷ 0 ∷ 0 ∷ []

-- net A as it stands: node 1 a gate, layer 1, no obstacle
abbrev pub A : Stage
A = net_a 1 1 []

-- net J: node 0 (10,0) plain; 1 (10,10) plain, parent 0; gate 2 (10,20), plain 3 (0,10), plain 4 (20,10), all with parent 1; factor 3 on wires 3 and 4, else 1
abbrev pub nodes_j : List ℕ
nodes_j =
    10 ∷ 0 ∷ 0 ∷ 0 ∷ 0 ∷ 10 ∷ 0 ∷ 10 ∷ 0 ∷ 0 ∷ 10 ∷ 0 ∷ 20 ∷ 0 ∷ 1 ∷ 0 ∷ 0 ∷ 10 ∷ 0 ∷ 0 ∷ 20 ∷ 0 ∷ 10 ∷ 0 ∷ 0 ∷ []

abbrev pub wires_j : List ℕ
wires_j = 0 ∷ 1 ∷ 1 ∷ 1 ∷ 1 ∷ 1 ∷ 1 ∷ 1 ∷ 3 ∷ 1 ∷ 1 ∷ 3 ∷ []

abbrev pub J : Stage
J = stage_of 1 nodes_j wires_j [] 1

-- net C: nodes at x = 0, 4, 8, 12, y = 0, a chain, node 0 a gate, factor 1, one obstacle 0,0 to 12,0
abbrev pub nodes_c : List ℕ
nodes_c =
    0 ∷ 0 ∷ 0 ∷ 0 ∷ 1 ∷ 4 ∷ 0 ∷ 0 ∷ 0 ∷ 0 ∷ 8 ∷ 0 ∷ 0 ∷ 0 ∷ 0 ∷ 12 ∷ 0 ∷ 0 ∷ 0 ∷ 0 ∷ []

abbrev pub wires_c : List ℕ
wires_c = 0 ∷ 1 ∷ 1 ∷ 1 ∷ 1 ∷ 1 ∷ 2 ∷ 1 ∷ 1 ∷ []

abbrev pub C : Stage
C = stage_of 1 nodes_c wires_c (bar 0 12) 1

-- position t of wire 1
abbrev pub at : ℕ → Points
at t i p = eqb i 1 && eqb p t

-- either of two
abbrev pub or : Points → Points → Points
or a b i t = a i t || b i t

pub record SmallNets : Type 0 where
  -- limit 13: none; limit 12: one; limit 7: one, at position 6 or 7; limit 6: two
  pub a_13 : Least A 13 0
  pub a_12 : Least A 12 1
  pub a_7 : Least A 7 1
  pub a_7_only : Only A 7 1 (or (at 6) (at 7))
  pub a_7_at_6 : Legal A 7 (single 1 6)
  pub a_7_at_7 : Legal A 7 (single 1 7)
  pub a_6 : Least A 6 2
  -- limit 1: exactly positions 1 and 12; limit 0: refusal 15
  pub a_1 : Least A 1 2
  pub a_1_only : Only A 1 2 (or (at 1) (at 12))
  pub a_0 : NoneLegal A 0
  -- limit 7, obstacle 6,0 to 6,0: position 6 only; obstacle 6,0 to 7,0: two jumpers
  pub bar_6_6 : Least (net_a 1 1 (bar 6 6)) 7 1
  pub bar_6_6_only : Only (net_a 1 1 (bar 6 6)) 7 1 (at 6)
  pub bar_6_7 : Least (net_a 1 1 (bar 6 7)) 7 2
  -- obstacle 1,0 to 6,0: limit 7 gives position 6 only; limit 6 gives 15
  pub bar_1_6 : Least (net_a 1 1 (bar 1 6)) 7 1
  pub bar_1_6_only : Only (net_a 1 1 (bar 1 6)) 7 1 (at 6)
  pub bar_1_6_none : NoneLegal (net_a 1 1 (bar 1 6)) 6
  -- node 1 plain, limit 1: position 12 only; node 1 a source as well, limit 0: none
  pub plain_1 : Least (net_a 0 1 []) 1 1
  pub plain_1_only : Only (net_a 0 1 []) 1 1 (at 12)
  pub source_0 : Least (net_a 3 1 []) 0 0
  -- wire on layer 2, limit 0: none
  pub absent_0 : Least (net_a 1 2 []) 0 0
  -- net J, limit 20: one jumper, on wire 2
  pub j_20 : Least J 20 1
  pub j_20_only : Only J 20 1 (λ i t. eqb i 2)
  -- net C: limit 11: 15; limit 12: none
  pub c_11 : NoneLegal C 11
  pub c_12 : Least C 12 0
