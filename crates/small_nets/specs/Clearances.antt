-- Document 02, CR 4, on a small net: what a clearance bars counts in the least number of points and in 15.
-- Assumes nothing.
use Rattle.std.specs.Prelude.{ℕ, ◌≡◌, refl, List, [], ◌∷◌}
use Rattle.laws.specs.Sum.{sum, any, lowest, highest}
use Rattle.net.specs.Net.{wire_length, point_x, point_y, near, barred}
use Rattle.net.specs.Stage.{Stage, stage_under}
use Rattle.net.specs.Formed.{Formed}
use Rattle.net.specs.Refusal.{none, net_refusal, sections_refusal, node_refusal, wire_refusal, obstacle_refusal, first_of}
use Rattle.net.specs.Accepted.{net-right, formed_under}
use Rattle.pieces.specs.Legal.{NoneLegal, size}
use Rattle.pieces.specs.Name.{lowest_node, follow, joins, cut_at, first_jumper, last_jumper}
use Rattle.pieces.specs.Weight.{node_weight, wire_adds}
use Rattle.cuts.specs.Fits.{free_at}
use Rattle.small_nets.specs.Cases.{Least, Only, nodes_a, wires_a, bar, at}
use Rattle.small_nets.specs.Layered.{layered_bar}
use Rattle.small_nets.specs.Decide.{harms, harmful_at, somewhere, least_1, least_2, only_1, none_free}

-- net A under a clearance, with obstacles of version 1; position t of its wire is the point (13 − t, 0)
abbrev pub clearance_a : ℕ → List ℕ → Stage
clearance_a clearance obstacles = stage_under 1 (nodes_a 1) (wires_a 1) obstacles 1 clearance

-- net A with its wire on layer 2, stage 2, under a clearance, with obstacles of version 2
abbrev pub clearance_layered : ℕ → List ℕ → Stage
clearance_layered clearance obstacles = stage_under 2 (nodes_a 1) (wires_a 2) obstacles 2 clearance

-- an obstacle from x1,1 to x2,1, one step beside the wire
abbrev pub beside : ℕ → ℕ → List ℕ
beside x1 x2 = x1 ∷ 0 ∷ 1 ∷ 0 ∷ x2 ∷ 0 ∷ 1 ∷ 0 ∷ []

pub record ClearanceNets : Type 0 where
  -- limit 7, which wants position 6 or 7, and obstacle 5,0 to 5,0: one jumper; under clearance 1 at position 6 only; under clearance 2 two jumpers
  pub held_0 : Least (clearance_a 0 (bar 5 5)) 7 1
  pub held_1 : Least (clearance_a 1 (bar 5 5)) 7 1
  pub held_1_only : Only (clearance_a 1 (bar 5 5)) 7 1 (at 6)
  pub held_2 : Least (clearance_a 2 (bar 5 5)) 7 2
  -- under clearance 65535 every point is barred: refusal 15
  pub held_all : NoneLegal (clearance_a 65535 (bar 5 5)) 7
  -- obstacle 6,1 to 7,1, which holds no point of the wire: one jumper, under clearance 1 two
  pub beside_0 : Least (clearance_a 0 (beside 6 7)) 7 1
  pub beside_1 : Least (clearance_a 1 (beside 6 7)) 7 2
  -- obstacle 6,0 to 7,0 of a layer below the wire's: one jumper, whatever the clearance
  pub lower_all : Least (clearance_layered 65535 (layered_bar 6 7 1)) 7 1

-- every net here is accepted
formed-layered : (clearance : ℕ) (os : List ℕ) → net_refusal 2 (nodes_a 1) (wires_a 2) os ≡ none → Formed (clearance_layered clearance os)
formed-layered clearance os h = formed_under 2 (nodes_a 1) (wires_a 2) os (net-right 2 (nodes_a 1) (wires_a 2) os h) 2 clearance

formed-clearance : (clearance : ℕ) (os : List ℕ) → net_refusal 1 (nodes_a 1) (wires_a 1) os ≡ none → Formed (clearance_a clearance os)
formed-clearance clearance os h = formed_under 1 (nodes_a 1) (wires_a 1) os (net-right 1 (nodes_a 1) (wires_a 1) os h) 1 clearance

pub clearance_nets : ClearanceNets
unfolding net_refusal sections_refusal node_refusal wire_refusal obstacle_refusal first_of somewhere free_at barred point_x point_y near harms harmful_at any lowest_node follow joins cut_at node_weight wire_adds first_jumper last_jumper lowest highest wire_length sum size
clearance_nets =
    record {
      held_0 = least_1 (clearance_a 0 (bar 5 5)) (formed-clearance 0 (bar 5 5) refl) 7 1 6 refl refl refl refl;
      held_1 = least_1 (clearance_a 1 (bar 5 5)) (formed-clearance 1 (bar 5 5) refl) 7 1 6 refl refl refl refl;
      held_1_only = only_1 (clearance_a 1 (bar 5 5)) (formed-clearance 1 (bar 5 5) refl) 7 (at 6) refl;
      held_2 = least_2 (clearance_a 2 (bar 5 5)) (formed-clearance 2 (bar 5 5) refl) 7 1 5 1 11 refl refl refl refl refl refl;
      held_all = none_free (clearance_a 65535 (bar 5 5)) (formed-clearance 65535 (bar 5 5) refl) 7 refl refl;
      beside_0 = least_1 (clearance_a 0 (beside 6 7)) (formed-clearance 0 (beside 6 7) refl) 7 1 6 refl refl refl refl;
      lower_all = least_1 (clearance_layered 65535 (layered_bar 6 7 1)) (formed-layered 65535 (layered_bar 6 7 1) refl) 7 1 6 refl refl refl refl;
      beside_1 = least_2 (clearance_a 1 (beside 6 7)) (formed-clearance 1 (beside 6 7) refl) 7 1 4 1 9 refl refl refl refl refl refl;
    }
