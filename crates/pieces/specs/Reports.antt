-- Laws of piece records: their length is twelve bytes, and that of the report follows.
-- Assumes nothing.
use Rattle.std.specs.Prelude.{ℕ, ◌*◌, ◌≡◌, refl, length}
use mathlib.Core.List.{List, [], ◌∷◌, flat_map}
use Rattle.std.proofs.Common.{arith, length-append}
use Rattle.net.specs.Layout.{record_bytes}
use Rattle.net.specs.Stage.{Stage}
use Rattle.pieces.specs.Piece.{Points}
use Rattle.pieces.specs.Name.{Name}
use Rattle.pieces.specs.Report.{piece_names, record_of, report_of}

pub record_length : (s : Stage) (limit : ℕ) (J : Points) (n : Name) → length (record_of s limit J n) ≡ record_bytes
unfolding record_of
record_length s limit J n = refl

pub record_list_length : (s : Stage) (limit : ℕ) (J : Points) (l : List Name) → length (flat_map (record_of s limit J) l) ≡ record_bytes * length l
unfolding flat_map
record_list_length s limit J [] = refl
record_list_length s limit J (n ∷ l) =
    let a = length-append (record_of s limit J n) (flat_map (record_of s limit J) l) in
    let b = record_length s limit J n in
    let c = record_list_length s limit J l in
    omega arith

pub report_length : (s : Stage) (limit : ℕ) (J : Points) → length (report_of s limit J) ≡ record_bytes * length (piece_names s J)
unfolding report_of
report_length s limit J = record_list_length s limit J (piece_names s J)
