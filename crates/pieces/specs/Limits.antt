-- A higher limit: a legal set stays legal, so a smallest one never has more points.
-- Assumes nothing.
use Rattle.std.specs.Prelude.{ℕ, ◌≤◌, List}
use Rattle.std.proofs.Common.{le_trans, arith}
use Rattle.laws.specs.Sums.{no_both, not_true_false}
use Rattle.net.specs.Stage.{Stage}
use Rattle.pieces.specs.Piece.{Points, is_harmful}
use Rattle.pieces.specs.Harmful.{harmful-bit, bit-harmful}
use Rattle.pieces.specs.Legal.{Legal, Smallest, listed}
use Rattle.pieces.specs.Size.{listed-size}

pub legal-higher : (s : Stage) (limit higher : ℕ) (J : Points) → limit ≤ higher → Legal s limit J → Legal s higher J
legal-higher s limit higher J le legal =
    record {
      free = legal.free;
      harmless = λ P piece.
          not_true_false (is_harmful s higher P)
          (λ h.
          let bad = harmful-bit s P higher h in
          no_both (bit-harmful s P limit (record { gated = bad.gated; sourceless = bad.sourceless; heavy = omega (arith, le, bad.heavy) })) (legal.harmless P piece));
    }

pub fewest-higher :
    (s : Stage) (limit higher : ℕ) (l k : List ℕ) (m n : ℕ) → limit ≤ higher → Smallest s limit l m → Smallest s higher k n → n ≤ m
fewest-higher s limit higher l k m n le a b =
    le_trans (b.fewest (listed l m) (legal-higher s limit higher (listed l m) le a.legal)) (listed-size s l m)
