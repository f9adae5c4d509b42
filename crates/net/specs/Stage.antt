-- A net at a stage, as document 01's "Pieces" sees it: what the definitions of pieces, legal and smallest sets are stated over.
-- Assumes nothing.
use Rattle.std.specs.Prelude.{ℕ, Bool, ◌&&◌, List, leb, ltb}
use Rattle.net.specs.Net.{node_count, node_flags, is_gate, is_source, wire_parent, wire_layer, wire_factor, wire_length, barred}

-- nodes 0 to nodes − 1; wire i joins node i to its parent; present: the stage has wire i; barred i t: an obstacle bars position t of wire i
pub record Stage : Type 0 where
  pub nodes : ℕ
  pub parent : ℕ → ℕ
  pub len : ℕ → ℕ
  pub factor : ℕ → ℕ
  pub layer : ℕ → ℕ
  pub present : ℕ → Bool
  pub gate : ℕ → Bool
  pub source : ℕ → Bool
  pub barred : ℕ → ℕ → Bool

-- stage k of a net under a clearance: the wires of layer at most k are present
abbrev pub stage_under : ℕ → List ℕ → List ℕ → List ℕ → ℕ → ℕ → Stage
stage_under version ns ws os k clearance =
    record {
      nodes = node_count ns;
      parent = λ i. wire_parent ws i;
      len = λ i. wire_length ns ws i;
      factor = λ i. wire_factor ws i;
      layer = λ i. wire_layer ws i;
      present = λ i. ltb 0 i && (ltb i (node_count ns) && leb (wire_layer ws i) k);
      gate = λ i. is_gate (node_flags ns i);
      source = λ i. is_source (node_flags ns i);
      barred = λ i t. barred version clearance ns ws os i t;
    }
