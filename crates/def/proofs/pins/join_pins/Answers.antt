-- `def::pins::join_pins` meets its contract. The invariant: no pin below `k` is refused, and each node has the flags of the pins below `k`.
-- Assumes nothing.
use Prim.Native.Nat.{◌<◌}
use mathlib.Core.Path.{refl, sym, ◌∙◌}
use native.Mathlib.Omega.{arith}
use Rattle.net.specs.First.{first-start, first_more, first-here, first-all}
use Rattle.routes.specs.Nodes.{route_nodes}
use Rattle.def.specs.Pins.{pin_count, pins_refusal}
use Rattle.def.specs.JoiningLaws.{pins-counted, part-known, joined-start, joined-more, pin-cut, pin_lost, pin-right}
use Rattle.def.proofs.pins.join_pins.Goals as goal
use Rattle.def.proofs.pins.join_pins.Goals.{then-pin-lt-PIN_BYTES-via-then-pin-lt-PIN_BYTES, then-pin-lt-PIN_BYTES-via-else-pin-lt-PIN_BYTES+then-not-join_pin}

pub loop-k-init : goal.loop-k-init
loop-k-init c = (first-start _, joined-start _ _ _ c.requires.most_nodes_in_bounds.1)

pub returns-then-pin-lt-PIN_BYTES-clause-verdict :
    goal.returns-then-pin-lt-PIN_BYTES-clause-verdict
unfolding pins_refusal
returns-then-pin-lt-PIN_BYTES-clause-verdict c =
    let p = c.args.pins.now in
    let l = c.loop-k in
    let nodes = route_nodes c.args.reader.text.now c.args.reader.place in
    let q = c.div_ceil-k-end.ensures ∙ pins-counted p in
    let h : l.k < pin_count p = omega (arith, q) in
    elim c.then-pin-lt-PIN_BYTES.branch [
      | then-pin-lt-PIN_BYTES-via-then-pin-lt-PIN_BYTES w ↦ first-here _ _ _ h l.invariant.0 (pin-cut nodes p l.k (omega arith)) refl
      | then-pin-lt-PIN_BYTES-via-else-pin-lt-PIN_BYTES+then-not-join_pin w ↦
          first-here _ _ _ h l.invariant.0 (pin_lost nodes p l.k (sym (part-known p l.k _ refl (omega arith) nodes) ∙ (sym w.join_pin.ensures.0 ∙ w.if-not-join_pin.true))) refl
    ]

pub loop-k-preserved : goal.loop-k-preserved
loop-k-preserved c =
    let l = c.loop-k in
    let p = c.args.pins.now in
    let nodes = route_nodes c.args.reader.text.now c.args.reader.place in
    let q = c.div_ceil-k-end.ensures ∙ pins-counted p in
    let t = c.if-not-join_pin.false in
    let k = sym (part-known p l.k _ refl (omega arith) nodes) ∙ (sym c.join_pin.ensures.0 ∙ t) in (
      first_more _ _ l.invariant.0 (pin-right nodes p l.k (omega arith) k),
      joined-more p l.k _ refl (omega arith) nodes _ _ l.invariant.1 (c.join_pin.ensures.1 t),
    )

pub returns-clause-verdict : goal.returns-clause-verdict
unfolding pins_refusal
returns-clause-verdict c =
    let q = c.div_ceil-k-end.ensures ∙ pins-counted c.args.pins.now in
    first-all _ _ _ (omega (arith, q)) c.loop-k.invariant.0
