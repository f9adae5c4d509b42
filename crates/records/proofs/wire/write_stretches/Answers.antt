-- `records::wire::write_stretches` meets its contract.
-- Assumes nothing.
use Rattle.std.proofs.Common.{ℕ, ◌+◌, ◌-◌, ◌*◌, ◌++◌, ◌≤◌, ◌≡◌, List, take, drop, refl, ◌∙◌, ap, sym, length, arith}
use Rattle.laws.specs.Place.{place_none, place-length}
use Rattle.net.specs.Layout.{record_bytes}
use Rattle.pieces.specs.Legal.{entry_position}
use Rattle.records.specs.Record.{fields, stretches_fields}
use Rattle.records.specs.Stretches.{stretches-none, stretches-length, placed-stretch}
use Rattle.records.proofs.wire.write_stretches.Goals as goal

pub loop-d-init : goal.loop-d-init
loop-d-init c =
    let a = c.args in
    let e = a.entries.start in
    let empty = stretches-none a.jumpers.now a.i a.wire.factor a.wire.layer e in
    let as_lent = place_none {A = ℕ} a.at a.out.now in
    record {
      inside = omega arith;
      next = omega arith;
      written = grind (arith, empty, as_lent);
      long = refl;
    }

pub loop-d-preserved : goal.loop-d-preserved
loop-d-preserved c =
    let a = c.args in
    let e = a.entries.start in
    let v = c.loop-d.invariant in
    let next = c.loop-d.next in
    let out = c.loop-d.out in
    let d = c.loop-d.d - 1 in
    let this : d + 1 ≡ c.loop-d.d = omega arith in
    let before : c.loop-d.d - e - 1 ≡ d - e = omega arith in
    let behind : c.loop-d.d + 1 - e - 1 ≡ d + 1 - e = omega arith in
    let room : next + record_bytes ≤ length a.out.now = omega arith in
    let from = entry_position a.jumpers.now d in
    let to = entry_position a.jumpers.now c.loop-d.d in
    let weight : c.weight_of.result ≡ (to - from) * a.wire.factor = c.weight_of.ensures.0 ∙ ap (λ (steps : ℕ). steps * a.wire.factor) (omega arith) in
    let record_at : ℕ → List ℕ =
    λ position. fields a.i position ((to - from) * a.wire.factor) 0 c.mask_of.result ++ drop record_bytes (take (length out - next) (drop next out)) in
    let written =
    placed-stretch a.jumpers.now a.i a.wire.factor a.wire.layer e d a.at next (length out - next) a.out.now out c.write.new.rest
    from to c.mask_of.result refl (ap (entry_position a.jumpers.now) (sym this)) c.mask_of.ensures (omega arith) (omega arith) (rw before at v.written) room
    (omega arith) (rw weight at c.write.ensures ∙ ap record_at (omega arith)) in
    let n = stretches-length a.jumpers.now a.i a.wire.factor a.wire.layer e (d + 1 - e) in
    record {
      inside = omega arith;
      next = omega arith;
      written = rw behind written;
      long = ap length written ∙ place-length a.at (stretches_fields a.jumpers.now a.i a.wire.factor a.wire.layer e (d + 1 - e)) a.out.now (omega arith);
    }
