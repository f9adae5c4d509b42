-- Document 02, CR 2, on a small net: an obstacle bars points only of wires whose layer is at most its own, and a version 1 obstacle those of every wire.
-- Assumes nothing.
use Rattle.std.specs.Prelude.{ℕ, ◌≡◌, refl, List, [], ◌∷◌, ◌++◌}
use Rattle.laws.specs.Sum.{sum, any, lowest, highest}
use Rattle.net.specs.Net.{wire_length, point_x, point_y, near, barred}
use Rattle.net.specs.Stage.{Stage}
use Rattle.net.specs.NoClearance.{stage_of}
use Rattle.net.specs.Formed.{Formed}
use Rattle.net.specs.Refusal.{none, net_refusal, sections_refusal, node_refusal, wire_refusal, obstacle_refusal, first_of}
use Rattle.net.specs.Accepted.{net-right, formed}
use Rattle.pieces.specs.Legal.{Legal, NoneLegal, size}
use Rattle.pieces.specs.Name.{lowest_node, follow, joins, cut_at, first_jumper, last_jumper}
use Rattle.pieces.specs.Weight.{node_weight, wire_adds}
use Rattle.pieces.specs.Size.{single}
use Rattle.cuts.specs.Fits.{free_at}
use Rattle.small_nets.specs.Cases.{Least, Only, nodes_a, wires_a, bar, at, or}
use Rattle.small_nets.specs.Decide.{harms, harmful_at, somewhere, single-free, test-legal, least_1, least_2, only_1, none_free}

-- net A with its wire on layer 2, stage 2, and obstacles of a version
abbrev pub layered_a : ℕ → List ℕ → Stage
layered_a version obstacles = stage_of version (nodes_a 1) (wires_a 2) obstacles 2

-- a version 2 obstacle from x1,0 to x2,0 on a layer
abbrev pub layered_bar : ℕ → ℕ → ℕ → List ℕ
layered_bar x1 x2 layer = bar x1 x2 ++ (layer ∷ [])

pub record LayeredNets : Type 0 where
  -- limit 7, obstacle 6,0 to 7,0 on layer 1: one jumper, at position 6 or 7; on layer 2, or of version 1: two jumpers
  pub below_7 : Least (layered_a 2 (layered_bar 6 7 1)) 7 1
  pub below_7_only : Only (layered_a 2 (layered_bar 6 7 1)) 7 1 (or (at 6) (at 7))
  pub below_7_at_6 : Legal (layered_a 2 (layered_bar 6 7 1)) 7 (single 1 6)
  pub below_7_at_7 : Legal (layered_a 2 (layered_bar 6 7 1)) 7 (single 1 7)
  pub same_7 : Least (layered_a 2 (layered_bar 6 7 2)) 7 2
  pub first_7 : Least (layered_a 1 (bar 6 7)) 7 2
  -- limit 6, obstacle 0,0 to 13,0 on layer 1: two jumpers; on layer 2: refusal 15
  pub below_6 : Least (layered_a 2 (layered_bar 0 13 1)) 6 2
  pub same_6 : NoneLegal (layered_a 2 (layered_bar 0 13 2)) 6

-- every net here is accepted
formed-layered : (version : ℕ) (os : List ℕ) → net_refusal version (nodes_a 1) (wires_a 2) os ≡ none → Formed (layered_a version os)
formed-layered version os h = formed version (nodes_a 1) (wires_a 2) os (net-right version (nodes_a 1) (wires_a 2) os h) 2

pub layered_nets : LayeredNets
unfolding net_refusal sections_refusal node_refusal wire_refusal obstacle_refusal first_of somewhere free_at barred point_x point_y near harms harmful_at any stage_of lowest_node follow joins cut_at node_weight wire_adds first_jumper last_jumper lowest highest wire_length sum size
layered_nets =
    let below = layered_a 2 (layered_bar 6 7 1) in
    let below-formed : Formed below = formed-layered 2 (layered_bar 6 7 1) refl in
    let same-formed = formed-layered 2 (layered_bar 6 7 2) refl in
    let first-formed = formed-layered 1 (bar 6 7) refl in
    let long-formed = formed-layered 2 (layered_bar 0 13 1) refl in
    let whole-formed = formed-layered 2 (layered_bar 0 13 2) refl in
    record {
      below_7 = least_1 below below-formed 7 1 6 refl refl refl refl;
      below_7_only = only_1 below below-formed 7 (or (at 6) (at 7)) refl;
      below_7_at_6 = test-legal below below-formed 7 (single 1 6) (single-free below 1 6 refl) refl;
      below_7_at_7 = test-legal below below-formed 7 (single 1 7) (single-free below 1 7 refl) refl;
      same_7 = least_2 (layered_a 2 (layered_bar 6 7 2)) same-formed 7 1 5 1 8 refl refl refl refl refl refl;
      first_7 = least_2 (layered_a 1 (bar 6 7)) first-formed 7 1 5 1 8 refl refl refl refl refl refl;
      below_6 = least_2 (layered_a 2 (layered_bar 0 13 1)) long-formed 6 1 6 1 7 refl refl refl refl refl refl;
      same_6 = none_free (layered_a 2 (layered_bar 0 13 2)) whole-formed 6 refl refl;
    }
