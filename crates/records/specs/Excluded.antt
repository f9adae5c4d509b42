-- What the pass holds after each wire on small nets, from the contract of taking a wire: no buffer of which HeldBelow (Held) holds begins with anything else there.
-- Assumes nothing.
use Rattle.std.specs.Prelude.{ℕ, suc, ◌≡◌, refl, take}
use Rattle.std.proofs.Common.{◌∙◌}
use mathlib.Core.List.{List, [], ◌∷◌, ◌++◌, flat_map}
use Rattle.laws.specs.Sum.{sum, any, lowest, highest}
use Rattle.laws.specs.Gather.{gather}
use Rattle.net.specs.Net.{wire_length, barred}
use Rattle.net.specs.NoClearance.{stage_of}
use Rattle.net.specs.Refusal.{none, net_refusal, sections_refusal, node_refusal, wire_refusal, obstacle_refusal, first_of}
use Rattle.net.specs.Accepted.{net-right}
use Rattle.pieces.specs.Piece.{weight_of, has_gate, has_source, is_harmful}
use Rattle.pieces.specs.Legal.{listed, after}
use Rattle.pieces.specs.Name.{cut_at, first_jumper, last_jumper, joins, follow, lowest_node, step_name, named}
use Rattle.pieces.specs.JumperList.{point_refusal, entry_refusal, list_refusal, set_of}
use Rattle.pieces.specs.Report.{node_names, stretch_names, piece_names, flags_of, has_layer, layers_of, layer_count, lowest_layer, record_of, report_of}
use Rattle.pieces.specs.FirstNodes.{first_nodes, on_first_wires, first_records}
use Rattle.records.specs.Held.{HeldBelow}

-- the bytes of a record whose seven fields are below 256
abbrev pub bytes : ℕ → ℕ → ℕ → ℕ → ℕ → ℕ → ℕ → List ℕ
bytes number position weight flags layers count lowest =
    number ∷ position ∷ 0 ∷ weight ∷ 0 ∷ 0 ∷ 0 ∷ flags ∷ layers ∷ 0 ∷ count ∷ lowest ∷ []

-- the bytes of a node with x and y below 256, and of a wire
abbrev pub node_at : ℕ → ℕ → ℕ → List ℕ
node_at x y flags = x ∷ 0 ∷ y ∷ 0 ∷ flags ∷ []

abbrev pub wire_to : ℕ → ℕ → ℕ → List ℕ
wire_to parent layer factor = parent ∷ layer ∷ factor ∷ []

-- a gate, a wire of 13 steps to a plain node, and from there a via of layer 2 to a source
abbrev pub late_source : List ℕ × List ℕ
late_source = (node_at 0 0 1 ++ node_at 13 0 0 ++ node_at 13 0 2, wire_to 0 1 1 ++ wire_to 1 2 1)

-- a plain node, a wire of 13 steps to a plain node, and from there a wire of 4 steps and layer 2 to a gate
abbrev pub late_gate : List ℕ × List ℕ
late_gate = (node_at 0 0 0 ++ node_at 13 0 0 ++ node_at 13 4 1, wire_to 0 1 1 ++ wire_to 1 2 1)

-- net A, and a wire of 8 steps, layer 2 and factor 2 from its node 0 to a source
abbrev pub branched_a : List ℕ × List ℕ
branched_a = (node_at 0 0 1 ++ node_at 13 0 1 ++ node_at 0 8 2, wire_to 0 1 1 ++ wire_to 0 2 2)

-- jumpers on wire 1, at positions 3 and 9
abbrev pub two_jumpers : List ℕ
two_jumpers = 1 ∷ 3 ∷ 0 ∷ 1 ∷ 9 ∷ 0 ∷ []

-- and on wire 2, at positions 2 and 5
abbrev pub four_jumpers : List ℕ
four_jumpers = two_jumpers ++ 2 ∷ 2 ∷ 0 ∷ 2 ∷ 5 ∷ 0 ∷ []

-- at a stage, under a limit and with a jumper list, what is held after wire i begins with these records
abbrev pub After : List ℕ × List ℕ → ℕ → ℕ → List ℕ → ℕ → List ℕ → Type 0
After net k limit list i records =
    (places : List ℕ) (at : ℕ) (out : List ℕ) → HeldBelow net.0 net.1 k list limit (suc i) places at out → take at out ≡ records

held_after : (net : List ℕ × List ℕ) (k limit : ℕ) (list : List ℕ) (i : ℕ) (records : List ℕ) → net_refusal 1 net.0 net.1 [] ≡ none →
    list_refusal (stage_of 1 net.0 net.1 [] k) list ≡ none → first_records (stage_of 1 net.0 net.1 [] k) limit (set_of list) (suc i) ≡ records →
    After net k limit list i records
held_after net k limit list i records accepted listed e places at out held =
    (held 1 [] (record { right = net-right 1 net.0 net.1 [] accepted; listed = listed })).records ∙ e

pub record SmallPasses : Type 0 where
  -- harmful until a later wire joins a source; the via has no step, so its layer is not among the piece's
  pub gate_alone : After late_source 2 5 [] 0 (bytes 0 0 0 1 0 0 0)
  pub harmful_before_source : After late_source 2 5 [] 1 (bytes 0 0 13 5 1 1 1)
  pub harmless_with_source : After late_source 2 5 [] 2 (bytes 0 0 13 3 1 1 1)
  -- harmful only once a later wire joins a gate; the layers of both wires
  pub node_alone : After late_gate 2 5 [] 0 (bytes 0 0 0 0 0 0 0)
  pub harmless_before_gate : After late_gate 2 5 [] 1 (bytes 0 0 13 0 1 1 1)
  pub harmful_with_gate : After late_gate 2 5 [] 2 (bytes 0 0 17 5 3 2 1)
  -- an absent wire joins and weighs nothing
  pub absent_wire : After late_gate 1 5 [] 2 (bytes 0 0 13 0 1 1 1 ++ bytes 2 0 0 1 0 0 0)
  -- a cut wire: the steps above its last jumper are the parent's, those below its first are its own node's, and the stretch is named by the lower jumper
  pub before_cut_wire : After branched_a 2 3 two_jumpers 0 (bytes 0 0 0 1 0 0 0)
  pub three_pieces : After branched_a 2 3 two_jumpers 1 (bytes 0 0 4 5 1 1 1 ++ bytes 1 0 3 1 1 1 1 ++ bytes 1 3 6 0 1 1 1)
  -- jumpers on a later wire change nothing before it; then the parent's record grows in its place, and the new ones stand behind the others
  pub later_jumpers_ignored : After branched_a 2 3 four_jumpers 1 (bytes 0 0 4 5 1 1 1 ++ bytes 1 0 3 1 1 1 1 ++ bytes 1 3 6 0 1 1 1)
  pub parent_grows_in_place :
      After branched_a 2 3 four_jumpers 2
      (bytes 0 0 10 5 3 2 1 ++ bytes 1 0 3 1 1 1 1 ++ bytes 1 3 6 0 1 1 1 ++ bytes 2 0 4 2 2 1 2 ++ bytes 2 2 6 0 2 1 2)
  -- a record between others grows in its place: the parent's piece is neither the first nor the last
  pub middle_grows_in_place : After late_gate 2 5 two_jumpers 2 (bytes 0 0 4 0 1 1 1 ++ bytes 1 0 7 5 3 2 1 ++ bytes 1 3 6 0 1 1 1)

pub small-passes : SmallPasses
unfolding net_refusal sections_refusal node_refusal wire_refusal obstacle_refusal first_of barred after point_refusal entry_refusal list_refusal first_nodes on_first_wires stage_of wire_length sum any lowest highest gather flat_map weight_of listed cut_at first_jumper last_jumper joins follow lowest_node step_name named node_names stretch_names piece_names has_gate has_source is_harmful flags_of has_layer layers_of layer_count lowest_layer record_of report_of
small-passes =
    record {
      gate_alone = held_after late_source 2 5 [] 0 _ refl refl refl;
      harmful_before_source = held_after late_source 2 5 [] 1 _ refl refl refl;
      harmless_with_source = held_after late_source 2 5 [] 2 _ refl refl refl;
      node_alone = held_after late_gate 2 5 [] 0 _ refl refl refl;
      harmless_before_gate = held_after late_gate 2 5 [] 1 _ refl refl refl;
      harmful_with_gate = held_after late_gate 2 5 [] 2 _ refl refl refl;
      absent_wire = held_after late_gate 1 5 [] 2 _ refl refl refl;
      before_cut_wire = held_after branched_a 2 3 two_jumpers 0 _ refl refl refl;
      three_pieces = held_after branched_a 2 3 two_jumpers 1 _ refl refl refl;
      later_jumpers_ignored = held_after branched_a 2 3 four_jumpers 1 _ refl refl refl;
      parent_grows_in_place = held_after branched_a 2 3 four_jumpers 2 _ refl refl refl;
      middle_grows_in_place = held_after late_gate 2 5 two_jumpers 2 _ refl refl refl;
    }
