-- `records::wire::part_wire` meets its contract.
-- Assumes nothing.
use Prim.Native.Nat.{ℕ, ◌+◌, ◌-◌, ◌*◌, ◌^◌, ◌≤◌}
use mathlib.Core.Path.{◌≡◌, refl, ◌∙◌, ap}
use mathlib.Core.List.{List, ◌++◌}
use native.Mathlib.Omega.{arith}
use lib.ListN.{length, take, drop, get_or}
use Rattle.laws.specs.Place.{place, place-more}
use Rattle.net.specs.Layout.{record_bytes}
use Rattle.net.specs.Net.{node_flags, wire_parent, wire_layer, wire_factor, wire_length}
use Rattle.pieces.specs.Legal.{entry_position}
use Rattle.records.specs.Record.{with_harm, node_fields, stretches_fields, joined}
use Rattle.records.specs.Wire.{joined_above}
use Rattle.records.specs.RecordBytes.{fields-length, placed-joined, same_place, joined_above_length}
use Rattle.records.specs.Stretches.{stretches-length}
use Rattle.records.proofs.wire.part_wire.Goals as goal

-- ---- equal parts of a record, and the stretches behind it
same-fields : (limit i : ℕ) {w w' f f' l l' : ℕ} → w ≡ w' → f ≡ f' → l ≡ l' → node_fields limit i w f l ≡ node_fields limit i w' f' l'
same-fields limit i a b c = rw (a, b, c)

same-stretches : (list : List ℕ) (i e n : ℕ) {f f' l l' : ℕ} → f ≡ f' → l ≡ l' → stretches_fields list i f l e n ≡ stretches_fields list i f' l' e n
same-stretches list i e n a b = rw (a, b)

behind-place : (at behind : ℕ) {q q' r r' l l' x y : List ℕ} → q ≡ q' → r ≡ r' → l ≡ l' → behind ≡ at + length q' → at + length q' + length r' ≤ length l' →
    x ≡ place at q l → y ≡ place behind r x → y ≡ place at (q' ++ r') l'
behind-place at behind {q} {q'} {r} {r'} {l} {l'} {x} {y} a b c d h e g = g ∙ rw (e, a, b, c, d) (place-more at q' r' l' h)

-- the buffer once the steps above the last jumper are joined
above-joined : (limit : ℕ) (ns ws list places : List ℕ) (i end : ℕ) (out x : List ℕ) {p n t w m : ℕ} →
    p ≡ wire_parent ws i → n ≡ wire_length ns ws i → t ≡ entry_position list (end - 1) → w ≡ (n - t) * wire_factor ws i → m ≡ 2 ^ (wire_layer ws i - 1) →
    let at = get_or places p 0 in
    x ≡ joined limit w 0 m (take (length out - at) (drop at out)) ++ drop record_bytes (take (length out - at) (drop at out)) →
    take at out ++ (x ++ drop (length out - at) (drop at out))
    ≡ joined_above limit (get_or places (wire_parent ws i) 0) ((wire_length ns ws i - entry_position list (end - 1)) * wire_factor ws i) 0 (2 ^ (wire_layer ws i - 1)) out
above-joined limit ns ws list places i end out x {p} {n} {t} {w} {m} pe ne te we me e =
    let weight : w ≡ (wire_length ns ws i - entry_position list (end - 1)) * wire_factor ws i = we ∙ rw (ne, te) in
    placed-joined limit (get_or places p 0) w 0 m _ _ _ _ out x (same_place places pe) weight refl me e

pub returns : goal.returns
returns c =
    let z = c.write_stretches in
    let o = c.of_piece-own.ensures in
    let a = c.args in
    let w = wire_factor a.net.wires.now a.i in
    let t = c.requires.entries_ready in
    let mask = rw c.wire_at-wire.ensures.layer at c.mask_of-mask.ensures in
    let buffer =
    above-joined a.limit a.net.nodes.now a.net.wires.now a.net.jumpers.now a.places.now a.i a.entries.end a.out.now c.join_record.new.rest
    c.wire_at-wire.ensures.parent c.length_of.ensures.0 c.entry_position-last.ensures (rw c.wire_at-wire.ensures.factor at c.weight_of-end_weight.ensures.0 ∙ ap (λ (steps : ℕ). steps * w) (omega arith)) mask
    c.join_record.ensures in
    let long = ap length buffer ∙ joined_above_length a.limit _ _ _ _ a.out.now c.requires.wire_ready.above in
    let q = fields-length a.i 0 (entry_position a.net.jumpers.now a.entries.start * w) (with_harm a.limit (entry_position a.net.jumpers.now a.entries.start * w) (node_flags a.net.nodes.now a.i)) (2 ^ (wire_layer a.net.wires.now a.i - 1)) in
    let r = stretches-length a.net.jumpers.now a.i w (wire_layer a.net.wires.now a.i) a.entries.start (a.entries.end - a.entries.start - 1) in (
      omega (arith, z.ensures.0, c.start_piece-behind.ensures.0, t.some),
      c.start_piece-behind.ensures.1,
      behind-place a.at c.start_piece-behind.result
          (same-fields a.limit a.i (rw (c.wire_at-wire.ensures.factor, c.entry_position-first.ensures) at c.weight_of.ensures.0) c.node_at-flags.ensures.flags mask)
          (same-stretches a.net.jumpers.now a.i a.entries.start (a.entries.end - a.entries.start - 1) c.wire_at-wire.ensures.factor c.wire_at-wire.ensures.layer)
          buffer (omega (arith, c.start_piece-behind.ensures.0, q)) (omega (arith, t.some, c.requires.room, q, r, long, ap length buffer))
          (rw (o.0, o.1, o.2, o.3, o.4) at c.start_piece-behind.ensures.2) z.ensures.1,
    )
