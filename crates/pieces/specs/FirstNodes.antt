-- Request 3 of document 02: the net restricted to its first n nodes, the jumpers on their wires, and the records that document 01 defines for these.
-- Assumes nothing.
use Rattle.std.specs.Prelude.{ℕ, ◌&&◌, List, ltb}
use Rattle.net.specs.Stage.{Stage}
use Rattle.pieces.specs.Piece.{Points}
use Rattle.pieces.specs.Report.{report_of}

-- the nodes below n and their wires, nothing else
unfoldable pub first_nodes : ℕ → Stage → Stage
first_nodes n s =
    record {
      nodes = n;
      parent = s.parent;
      len = s.len;
      factor = s.factor;
      layer = s.layer;
      present = λ i. ltb i n && s.present i;
      gate = s.gate;
      source = s.source;
      barred = s.barred;
    }

-- the jumpers on the wires below n
unfoldable pub on_first_wires : ℕ → Points → Points
on_first_wires n J i t = ltb i n && J i t

-- the records of all pieces of the net restricted to the nodes below n, with the jumpers on their wires
abbrev pub first_records : Stage → ℕ → Points → ℕ → List ℕ
first_records s limit J n = report_of (first_nodes n s) limit (on_first_wires n J)
