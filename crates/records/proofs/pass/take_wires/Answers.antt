-- `records::pass::take_wires` meets its contract.
-- Assumes nothing.
use Rattle.std.proofs.Common.{ℕ, ◌≡◌, refl, arith}
use Rattle.net.specs.Net.{node_count}
use Rattle.records.specs.Reached.{Reached, reached_none, reached_first, reached_wire, reached_next}
use Rattle.records.specs.Taken.{taken_none, taken_rest, taken_all}
use Rattle.records.specs.NetWithJumpers.{HeldAtNet, accepted_of}
use Rattle.pieces.specs.JumperList.{entry_count}
use Rattle.lists.specs.EntriesOfWire.{OfWire}
use Rattle.records.proofs.pass.take_wires.Goals.{After-entries_end-end}
use Rattle.records.proofs.pass.take_wires.Goals as goal

-- what holds of 0 holds of a number that is 0
of_zero : (P : ℕ → Type 0) {i : ℕ} → P 0 → i ≡ 0 → P i
of_zero P p e = rw e p

pub loop-i-init : goal.loop-i-init
loop-i-init c =
    let a = c.args in
    record {
      reached = of_zero (λ i. Reached a.net.jumpers.now i 0) (reached_none a.net.jumpers.now) (omega arith);
      held = of_zero (λ i. HeldAtNet a.net a.limit i a.places.now 0 a.out.now)
          (taken_none a.net.nodes.now a.net.wires.now a.net.jumpers.now a.net.stage a.limit a.places.now a.out.now) (omega arith);
      behind = refl;
    }

-- the entries of wire i
of_wire : (c : After-entries_end-end) → OfWire c.args.net.jumpers.now (entry_count c.args.net.jumpers.now) c.loop-i.i c.loop-i.e c.entries_end-end.result
of_wire c =
    let n = c.entries_end-end.ensures in
    reached_wire _ _ _ _ (accepted_of c.args.net) c.loop-i.i c.loop-i.e c.entries_end-end.result c.loop-i.invariant.reached n.0 n.1 n.2 n.3

pub entries_end-end-requires-clause-by_index : goal.entries_end-end-requires-clause-by_index
entries_end-end-requires-clause-by_index c = reached_first _ _ _ _ (accepted_of c.args.net) c.loop-i.i c.loop-i.e c.loop-i.invariant.reached

pub take_wire-at-requires-clause-i_bound : goal.take_wire-at-requires-clause-i_bound
take_wire-at-requires-clause-i_bound c = (omega (arith, c.node_count-i-end.ensures), of_wire (goal.at.take_wire-at-requires-clause-i_bound c).After-entries_end-end)

pub loop-i-preserved : goal.loop-i-preserved
loop-i-preserved c =
    let a = c.args in
    let v = c.loop-i.invariant in
    let w = of_wire (goal.at.loop-i-preserved c).After-entries_end-end in
    let t = c.take_wire-at.ensures in
    record {
      reached = reached_next _ _ _ _ (accepted_of a.net) c.loop-i.i c.loop-i.e c.entries_end-end.result w;
      held = t.0;
      behind = taken_rest a.out.now (accepted_of a.net) v.held t.0 v.behind t.1;
    }

pub returns : goal.returns
returns c =
    λ version os j.
    let a = c.args in
    let v = c.loop-i.invariant in
    let all : c.loop-i.i ≡ node_count a.net.nodes.now = omega (arith, c.node_count-i-end.ensures) in
    taken_all version a.net.nodes.now a.net.wires.now a.net.jumpers.now os a.net.stage a.limit j c.loop-i.places c.loop-i.at c.loop-i.out a.out.now
    (rw all at (v.held version os j)) v.behind
