-- What the pass by rising wire number holds after the wires below n: the records that document 01 defines for the nodes below n with the jumpers on their wires.
-- Assumes nothing.
use Rattle.std.specs.Prelude.{ℕ, ◌*◌, ◌<◌, ◌≡◌, List, ◌++◌, length, take, get_or}
use Rattle.laws.specs.Gather.{gather}
use Rattle.net.specs.Layout.{record_bytes}
use Rattle.net.specs.Stage.{Stage}
use Rattle.pieces.specs.Piece.{Points}
use Rattle.pieces.specs.Name.{lowest_node}
use Rattle.pieces.specs.JumperList.{set_of}
use Rattle.pieces.specs.Report.{node_names, stretch_names}
use Rattle.pieces.specs.FirstNodes.{first_records}
use Rattle.records.specs.ListRight.{AtAccepted}

-- where the record at node k begins
unfoldable pub record_place : Stage → Points → ℕ → ℕ
record_place s J k = record_bytes * length (gather k (λ m. node_names s J m ++ stretch_names s J m))

-- a buffer begins with these records, which end at a place, and for each node below n the place of its piece's record is known
pub record RecordsHeld (s : Stage) (limit : ℕ) (J : Points) (n : ℕ) (places : List ℕ) (at : ℕ) (out : List ℕ) : Type 0 where
  pub end : at ≡ length (first_records s limit J n)
  pub records : take at out ≡ first_records s limit J n
  pub placed : (j : ℕ) → j < n → get_or places j 0 ≡ record_place s J (lowest_node s J j)

-- the same of an accepted net with an accepted list at stage k
abbrev pub HeldBelow : List ℕ → List ℕ → ℕ → List ℕ → ℕ → ℕ → List ℕ → ℕ → List ℕ → Type 0
HeldBelow ns ws k list limit n places at out =
    AtAccepted ns ws k list (λ s. RecordsHeld s limit (set_of list) n places at out)
