-- `records::wire::join_wire` meets its contract.
-- Assumes nothing.
-- ---- what is known from each place on
use Prim.Native.Nat.{ℕ, ◌*◌}
use mathlib.Core.Path.{◌≡◌, ◌∙◌, ap}
use lib.ListN.{get_or, set}
use Rattle.net.specs.Net.{wire_factor}
use Rattle.records.specs.RecordBytes.{placed-joined, same_place}
use Rattle.records.proofs.wire.join_wire.Goals as goal

-- the weight of the whole wire
whole : (factor : ℕ) {n m w : ℕ} → n ≡ m → w ≡ n * factor → w ≡ m * factor
whole factor e d = d ∙ ap (λ (x : ℕ). x * factor) e

pub returns : goal.returns
returns c =
    let a = c.args in
    let above = same_place a.places.now c.wire_at-wire.ensures.parent in (
      ap (set a.places.now a.i) above,
      placed-joined a.limit (get_or a.places.now c.wire_at-wire.result.parent 0) c.weight_of.result c.node_at.result.flags c.layers_of.result _ _ _ _ a.out.now c.join_record.new.rest above
          (whole (wire_factor a.net.wires.now a.i) c.length_of-len.ensures.0 (rw c.wire_at-wire.ensures.factor at c.weight_of.ensures.0)) c.node_at.ensures.flags
          (rw (c.length_of-len.ensures.0, c.wire_at-wire.ensures.layer) at c.layers_of.ensures) c.join_record.ensures,
    )
