-- The record of a piece with nodes read back from its bytes, and where it stands among the others.
-- Assumes nothing.
use Prim.Native.Nat.{ℕ, suc, ◌+◌, ◌-◌, ◌%◌, ◌^◌, ◌<◌}
use Rattle.std.specs.Prelude.{◌≡◌, refl, Bool, true, false, ◌&&◌, ◌≢◌, drop}
use Rattle.std.proofs.Common.{sym, ◌∙◌, arith, drop_at, eq-eqb, ne_eqb}
use Rattle.std.proofs.Math.Path.{ap}
use mathlib.Core.List.{List, [], ◌++◌, append_assoc}
use Rattle.std.proofs.Math.Dec.{eqb}
use Rattle.std.specs.Int.Count.{ones}
use Rattle.std.specs.Int.Bits.{bit_or}
use Rattle.laws.specs.Sum.{χ, any}
use Rattle.laws.specs.Masks.{mask_fits}
use Rattle.laws.specs.Gather.{gather}
use Rattle.laws.specs.Gathers.{gather-at}
use Rattle.laws.specs.Numbers.{le16-bytes16, le32-bytes32}
use Rattle.net.specs.Layout.{most_layers}
use Rattle.net.specs.Stage.{Stage}
use Rattle.pieces.specs.Piece.{Points}
use Rattle.pieces.specs.Name.{lowest_node}
use Rattle.records.specs.Record.{lowest_of, fields, node_fields, NodeRecord, joined}
use Rattle.records.specs.WireSums.{flag, steps_in, flags_below, layers_below, record_below}
use Rattle.records.specs.Held.{record_place}
use Rattle.records.specs.FirstRecords.{record_at, stretch_bytes, records_below, records-length}

-- ---- read back
harm_apart : (f : ℕ) (t : Bool) → f < 4 → (f + χ t 4) % 4 ≡ f
harm_apart f true p = omega arith
harm_apart f false p = omega arith

pub joined-fields : (limit h w f l weight flags layers : ℕ) (rest : List ℕ) → w < 2 ^ 32 → f < 4 → l < 65536 →
    joined limit weight flags layers (node_fields limit h w f l ++ rest) ≡ node_fields limit h (w + weight) (bit_or f flags) (bit_or l layers)
unfolding fields joined
joined-fields limit h w f l weight flags layers rest p q r =
    rw (le32-bytes32 w p, le16-bytes16 l r, harm_apart f _ q)

pub node_record_stands : (limit h w f l : ℕ) (rest : List ℕ) → l < 65536 → NodeRecord (node_fields limit h w f l ++ rest)
unfolding fields
node_record_stands limit h w f l rest p =
    let e = sym (le16-bytes16 l p) in record { low = refl; high = refl; count = ap ones e; lowest = ap lowest_of e }

module _ (s : Stage) (J : Points) (n h : ℕ) where
  pub flags-small : flags_below s J n h < 4
  unfolding flags_below
  flags-small = mask_fits 2 (λ b. any n (λ k. flag s b k && eqb (lowest_node s J k) h))

  pub layers_small : layers_below s J n h < 65536
  unfolding layers_below
  layers_small = mask_fits most_layers (λ b. any n (λ k. s.present k && (steps_in s J h k && eqb (s.layer k) (suc b))))

-- ---- among the others
module _ (s : Stage) (limit : ℕ) (J : Points) (n : ℕ) where
  pub record_at_here : (h : ℕ) → lowest_node s J h ≡ h → record_at s limit J n h ≡ record_below s limit J n h
  unfolding record_at
  record_at_here h e = rw (eq-eqb (lowest_node s J h) h e)

  pub record_at_none : (h : ℕ) → lowest_node s J h ≢ h → record_at s limit J n h ≡ []
  unfolding record_at
  record_at_none h ne = rw (ne_eqb (lowest_node s J h) h ne)

  pub record_there : (h m : ℕ) → h < m → lowest_node s J h ≡ h →
      (rest : List ℕ) × (drop (record_place s J h) (records_below s limit J n m) ≡ record_below s limit J n h ++ rest)
  unfolding records_below
  record_there h m p e =
      let f : ℕ → List ℕ = λ k. record_at s limit J n k ++ stretch_bytes s limit J k in
      let behind = gather (m - suc h) (λ k. f (suc h + k)) in (
        stretch_bytes s limit J h ++ behind,
        ap (drop (record_place s J h)) (gather-at m h f p)
            ∙ (drop_at (gather h f) (f h ++ behind) (record_place s J h) (records-length s limit J n h)
            ∙ rw (record_at_here h e) (append_assoc (record_below s limit J n h) (stretch_bytes s limit J h) behind)),
      )
