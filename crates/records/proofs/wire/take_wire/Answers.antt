-- `records::wire::take_wire` meets its contract.
-- Assumes nothing.
use Prim.Native.Nat.{ℕ, ◌<◌}
use mathlib.Core.Path.{sym, ◌∙◌}
use mathlib.Core.List.{List}
use Rattle.std.proofs.Common.{arith}
use Rattle.std.proofs.lemmas.Bool.Decides.{nat_tests}
use Rattle.records.specs.ListRight.{ListRight}
use Rattle.records.specs.ListRights.{stored_of, node-small, entries_ready}
use Rattle.records.specs.NetWithJumpers.{accepted_of}
use Rattle.records.specs.Taken.{ListReady, absent-room, taken_absent, taken_ready, taken_joined, cut-room, taken_cut, taken_wire}
use Rattle.records.proofs.wire.take_wire.Goals.{After-is_present}
use Rattle.records.proofs.wire.take_wire.Goals as goal

-- what the call may rely on, whatever obstacles the net and the list are accepted with, and with those that they are accepted with
ready : (c : After-is_present) (v : ℕ) (os : List ℕ) → ListRight v c.args.net.nodes.now c.args.net.wires.now c.args.net.stage c.args.net.jumpers.now os →
    ListReady v c.args.net.nodes.now c.args.net.wires.now c.args.net.jumpers.now os c.args.net.stage c.args.limit c.args.i c.args.places.now c.args.at c.args.out.now
ready c v os j =
    let net = c.args.net in
    let r = c.requires in
    record { right = j; nodes = net.bytes.0; wires = net.bytes.1; below = r.i_bound.0; room = r.nodes_in_bounds; fit = r.records_fit v os j; held = r.held_below v os j }

ready_here : (c : After-is_present) → let net = c.args.net in
    ListReady (accepted_of net).0 net.nodes.now net.wires.now net.jumpers.now (accepted_of net).1 net.stage c.args.limit c.args.i c.args.places.now c.args.at c.args.out.now
ready_here c = let j = accepted_of c.args.net in ready c j.0 j.1 j.2

pub is_present-requires : goal.is_present-requires
is_present-requires c =
    let a = c.args in
    stored_of _ _ _ _ (accepted_of a.net) a.i c.requires.i_bound.0

pub of_piece-own-requires : goal.of_piece-own-requires
of_piece-own-requires c =
    let a = c.args in
    let h = c.requires.i_bound.0 in
    (node-small _ _ _ _ (accepted_of a.net) a.i h, omega (arith, c.node_at.ensures.flags, (accepted_of a.net).2.right.flags a.i h))

pub start_piece-requires : goal.start_piece-requires
start_piece-requires c =
    let here = ready_here (goal.at.start_piece-requires c).After-is_present in
    (omega (arith, c.requires.i_bound.0, c.requires.nodes_in_bounds), absent-room here (sym c.is_present.ensures ∙ c.if-not-is_present.true))

pub returns-then-not-is_present : goal.returns-then-not-is_present
returns-then-not-is_present c =
    let a = c.args in
    let r = c.requires in
    let all = ready (goal.at.returns-then-not-is_present c).After-is_present in
    let e = c.start_piece.ensures in
    let o = c.of_piece-own.ensures in
    taken_wire (accepted_of a.net)
    (λ v os j. taken_absent (all v os j) (sym c.is_present.ensures ∙ c.if-not-is_present.true) c.node_at.result.flags c.start_piece.result c.node_at.ensures.flags e.0 e.1 (rw (o.0, o.1, o.2, o.3, o.4) at e.2))

pub join_wire-requires : goal.join_wire-requires
join_wire-requires c =
    let a = c.args in
    let r = c.requires in
    let here = ready_here (goal.at.join_wire-requires c).After-is_present in
    taken_ready here (sym c.is_present.ensures ∙ c.if-not-is_present.false)

pub returns-then-is_empty : goal.returns-then-is_empty
returns-then-is_empty c =
    let a = c.args in
    let r = c.requires in
    let all = ready (goal.at.returns-then-is_empty c).After-is_present in
    let e = c.join_wire.ensures in
    taken_wire (accepted_of a.net)
    (λ v os j. taken_joined (all v os j) (sym c.is_present.ensures ∙ c.if-not-is_present.false) a.entries.start a.entries.end r.i_bound.1 (grind (arith, nat_tests, r.i_bound.1.ordered, c.if-is_empty.ensures)) e.0 e.1)

pub part_wire-requires : goal.part_wire-requires
part_wire-requires c =
    let a = c.args in
    let r = c.requires in
    let here = ready_here (goal.at.part_wire-requires c).After-is_present in
    let o = r.i_bound.1 in
    let some : c.args.entries.start < c.args.entries.end = grind (arith, nat_tests, c.if-is_empty.ensures) in
    record {
      wire_ready = taken_ready here (sym c.is_present.ensures ∙ c.if-not-is_present.false);
      entries_ready = entries_ready _ _ _ _ (accepted_of a.net) a.i r.i_bound.0 a.entries.start a.entries.end o some;
      room = cut-room here (sym c.is_present.ensures ∙ c.if-not-is_present.false) a.entries.start a.entries.end o some;
    }

pub returns : goal.returns
returns c =
    let a = c.args in
    let r = c.requires in
    let all = ready (goal.at.returns c).After-is_present in
    let e = c.part_wire.ensures in
    let some : c.args.entries.start < c.args.entries.end = grind (arith, nat_tests, c.if-is_empty.ensures) in
    taken_wire (accepted_of a.net)
    (λ v os j. taken_cut (all v os j) (sym c.is_present.ensures ∙ c.if-not-is_present.false) a.entries.start a.entries.end r.i_bound.1 some c.part_wire.result e.0 e.1 e.2)
