-- What taking one wire that the stage has may rely on, and what it leaves in the buffer.
-- Assumes nothing.
use Rattle.std.specs.Prelude.{ℕ, ◌+◌, ◌-◌, ◌*◌, ◌^◌, ◌≤◌, ◌<◌, List, ◌++◌, length, get_or, drop, ltb}
use Rattle.laws.specs.Sum.{χ}
use Rattle.laws.specs.Place.{place}
use Rattle.net.specs.Layout.{record_bytes, most_nodes, most_layers}
use Rattle.net.specs.Net.{node_flags, wire_parent, wire_layer, wire_factor, wire_length}
use Rattle.points.specs.Cuttable.{Checked}
use Rattle.pieces.specs.Legal.{entry_position}
use Rattle.pieces.specs.JumperList.{entry_count}
use Rattle.records.specs.Record.{node_fields, NodeRecord, joined, stretches_fields}

-- what an accepted net gives of wire i: it was checked, the number of its parent is below its own, and its layer is one of those that a net has
pub record WireAccepted (ns ws : List ℕ) (i : ℕ) : Type 0 where
  pub small : i < most_nodes
  pub checked : Checked ns ws i
  pub below : wire_parent ws i < i
  pub low : 1 ≤ wire_layer ws i
  pub high : wire_layer ws i ≤ most_layers

pub record WireReady (ns ws : List ℕ) (i : ℕ) (places out : List ℕ) : Type 0 where
  pub wire : WireAccepted ns ws i
  pub flags : node_flags ns i < 4
  pub room : i < length places
  pub above : get_or places (wire_parent ws i) 0 + record_bytes ≤ length out
  pub stands : NodeRecord (drop (get_or places (wire_parent ws i) 0) out)

-- the entries from a to b − 1, at least one, lie on wire i and rise
pub record EntriesReady (ns ws list : List ℕ) (i a b : ℕ) : Type 0 where
  pub some : a < b
  pub inside : b ≤ entry_count list
  pub first : entry_position list a < wire_length ns ws i
  pub last : entry_position list (b - 1) < wire_length ns ws i
  pub rise : (d : ℕ) → a ≤ d → d + 1 < b → entry_position list d ≤ entry_position list (d + 1)

-- the record of the parent's piece, brought up to date
abbrev pub joined_above : ℕ → ℕ → ℕ → ℕ → ℕ → List ℕ → List ℕ
joined_above limit above weight flags layers out = place above (joined limit weight flags layers (drop above out)) out

-- a wire without a jumper
abbrev pub joined_wire : ℕ → List ℕ → List ℕ → ℕ → List ℕ → List ℕ → List ℕ
joined_wire limit ns ws i places out =
    joined_above limit (get_or places (wire_parent ws i) 0) (wire_length ns ws i * wire_factor ws i) (node_flags ns i) (χ (ltb 0 (wire_length ns ws i)) (2 ^ (wire_layer ws i - 1))) out

-- a wire with the jumpers from entry a to entry b − 1
abbrev pub parted_wire : ℕ → List ℕ → List ℕ → List ℕ → ℕ → ℕ → ℕ → List ℕ → ℕ → List ℕ → List ℕ
parted_wire limit ns ws list i a b places at out =
    place at
    (node_fields limit i (entry_position list a * wire_factor ws i) (node_flags ns i) (2 ^ (wire_layer ws i - 1))
    ++ stretches_fields list i (wire_factor ws i) (wire_layer ws i) a (b - a - 1))
    (joined_above limit (get_or places (wire_parent ws i) 0) ((wire_length ns ws i - entry_position list (b - 1)) * wire_factor ws i) 0 (2 ^ (wire_layer ws i - 1)) out)
