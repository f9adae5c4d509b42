-- `def::pins::join_pin` meets its contract.
-- Assumes nothing.
use mathlib.Core.Path.{◌≡◌, sym}
use native.Mathlib.Omega.{arith}
use Rattle.routes.specs.KnownRead.{known_read}
use Rattle.def.specs.Pins.{pin_x, pin_y, pin_layer}
use Rattle.def.specs.JoiningLaws.{pin-node, joined-one}
use Rattle.def.proofs.pins.join_pin.Goals as goal

pub returns-in_default : goal.returns-in_default
returns-in_default c =
    let p = c.args.pins.now in
    let x : c.u16_at-x.result ≡ pin_x p 0 = c.u16_at-x.ensures in
    let y : c.u16_at-y.result ≡ pin_y p 0 = c.u16_at-y.ensures in
    let e = c.again.ensures in
    let s = c.is_some.ensures in
    let n = c.requires.routed.points in
    let k = known_read c.args.reader.text.now c.args.reader.place (pin_x p 0) (pin_y p 0) (pin_layer p 0) in
    let m = c.requires.routed.many c.in_default.is in
    (cc, λ t. record { each = λ few. absurd (omega arith) })

pub bounds-flags-node : goal.bounds-flags-node
bounds-flags-node c =
    let m = pin-node c.args.pins.now c.requires.routed c.in-Some.nodes c.in-Some.is c.u16_at-x.ensures c.u16_at-y.ensures c.node_on.ensures c.in-Some-node_on.is in
    omega (arith, c.requires.most_nodes_in_bounds.0, m.2)

pub bounds-flags-node-2 : goal.bounds-flags-node-2
bounds-flags-node-2 c =
    let m = pin-node c.args.pins.now c.requires.routed c.in-Some.nodes c.in-Some.is c.u16_at-x.ensures c.u16_at-y.ensures c.node_on.ensures c.in-Some-node_on.is in
    omega (arith, c.requires.most_nodes_in_bounds.0, m.2)

pub returns : goal.returns
returns c =
    let m = pin-node c.args.pins.now c.requires.routed c.in-Some.nodes c.in-Some.is c.u16_at-x.ensures c.u16_at-y.ensures c.node_on.ensures c.in-Some-node_on.is in
    (sym m.0, λ t. joined-one c.args.reader.text.now c.args.reader.place c.args.pins.now c.args.flags.now _ m.1 m.0 c.requires.most_nodes_in_bounds.0)
