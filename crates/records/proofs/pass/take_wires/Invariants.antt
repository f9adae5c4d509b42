-- `records::pass::take_wires` meets its contract.
-- Assumes nothing.
use Rattle.std.proofs.Common.{◌≡◌, drop}
use Rattle.records.specs.Reached.{Reached}
use Rattle.records.specs.NetWithJumpers.{HeldAtNet}
use Rattle.records.proofs.pass.take_wires.Given as goal

abbrev pub invariant-loop-i : goal.invariant-loop-i
invariant-loop-i l =
    record {
      reached : Reached l.net.jumpers.now l.i l.e;
      held : HeldAtNet l.net l.limit l.i l.places l.at l.out;
      behind : drop l.at l.out ≡ drop l.at l.initial.out;
    }
