-- Document 01, "Files": the net file, of a version.
-- Assumes nothing.
use Rattle.std.specs.Prelude.{ℕ, ◌+◌, ◌*◌, Bool, ◌&&◌, List, ◌++◌, length, take, drop, eqb}
use Rattle.laws.specs.Bytes.{le16, le32, bytes16, bytes32}
use Rattle.net.specs.Layout.{head_bytes}

-- version and pair count
abbrev pub version_of : List ℕ → ℕ
version_of file = le16 file 0

abbrev pub pair_count : List ℕ → ℕ
pair_count file = le16 file 2

-- the pair of section k: its offset and its length; k = 0 nodes, 1 wires, 2 obstacles
abbrev pub offset : List ℕ → ℕ → ℕ
offset file k = le32 file (4 + 8 * k)

abbrev pub extent : List ℕ → ℕ → ℕ
extent file k = le32 file (8 + 8 * k)

-- the first offset is 28, each next one is the end of the section before, and the last section ends with the file, added as whole numbers
unfoldable pub pairs_right : List ℕ → Bool
pairs_right file =
    eqb (offset file 0) head_bytes
    && (eqb (offset file 1) (offset file 0 + extent file 0)
    && (eqb (offset file 2) (offset file 1 + extent file 1) && eqb (length file) (offset file 2 + extent file 2)))

-- section k: that stretch of the file
unfoldable pub stretch : List ℕ → ℕ → List ℕ
stretch file k = take (extent file k) (drop (offset file k) file)

-- the head of the file of three sections: version, three pairs
unfoldable pub head_of : ℕ → ℕ → ℕ → ℕ → List ℕ
head_of version n w o =
    bytes16 version ++ bytes16 3 ++ bytes32 head_bytes ++ bytes32 n ++ bytes32 (head_bytes + n) ++ bytes32 w ++ bytes32 (head_bytes + n + w) ++ bytes32 o

-- the file of a version and three sections: its head, then nodes, wires, obstacles
unfoldable pub file_of : ℕ → List ℕ → List ℕ → List ℕ → List ℕ
file_of version nodes wires obstacles = head_of version (length nodes) (length wires) (length obstacles) ++ nodes ++ wires ++ obstacles

-- the bytes it takes
abbrev pub file_bytes : List ℕ → List ℕ → List ℕ → ℕ
file_bytes nodes wires obstacles = head_bytes + length nodes + length wires + length obstacles
