-- Document 01, "Where each refusal is met": 12 to 14, on a jumper list at a stage.
-- Assumes nothing.
use Rattle.std.specs.Prelude.{ℕ, ◌-◌, ◌/◌, ◌%◌, not, ◌&&◌, ◌||◌, List, length, leb, ltb, eqb}
use Rattle.net.specs.Layout.{entry_bytes}
use Rattle.net.specs.Stage.{Stage}
use Rattle.net.specs.Refusal.{Verdict, refused_if, or_else, first_of}
use Rattle.pieces.specs.Piece.{Points}
use Rattle.pieces.specs.Legal.{entry_wire, entry_position, listed, after}

-- the number of entries
abbrev pub entry_count : List ℕ → ℕ
entry_count list = length list / entry_bytes

-- the set of a whole list
abbrev pub set_of : List ℕ → Points
set_of list = listed list (entry_count list)

-- position t of wire i: 13 no such wire, absent wire, or position outside; 14 barred
unfoldable pub point_refusal : Stage → ℕ → ℕ → ℕ → Verdict
point_refusal s i t place =
    or_else (refused_if (not (s.present i && (leb 1 t && ltb t (s.len i)))) 13 place) (refused_if (s.barred i t) 14 place)

-- entry e: 12 not after the one before; then its point
unfoldable pub entry_refusal : Stage → List ℕ → ℕ → Verdict
entry_refusal s list e =
    or_else (refused_if (not (eqb e 0 || after list (e - 1) e)) 12 e) (point_refusal s (entry_wire list e) (entry_position list e) e)

-- a list: 12 length not in threes, then each entry in order
unfoldable pub list_refusal : Stage → List ℕ → Verdict
list_refusal s list =
    or_else (refused_if (not (eqb (length list % entry_bytes) 0)) 12 0) (first_of (entry_count list) (λ e. entry_refusal s list e))
