-- `lists::check::row_end` meets its contract. The invariant: no entry below `d` is refused, and behind the first, `before` is the position of the entry before, which lies on the same wire.
-- Assumes nothing.
use Rattle.std.proofs.Common.{◌≡◌, ◌-◌, ◌<◌}
use Rattle.net.specs.Refusal.{none, first_of}
use Rattle.net.specs.AcceptedNet.{stage_of_net_under}
use Rattle.pieces.specs.Legal.{entry_wire, entry_position}
use Rattle.pieces.specs.JumperList.{entry_refusal}
use Rattle.lists.proofs.check.row_end.Given as goal

abbrev pub invariant-loop-d : goal.invariant-loop-d
invariant-loop-d l =
    record {
      accepted : none ≡ first_of l.d (entry_refusal (stage_of_net_under l.net l.stage l.clearance) l.list);
      first : l.d ≡ l.e → l.before ≡ 0;
      behind : l.e < l.d → (entry_wire l.list (l.d - 1) ≡ l.i) × (l.before ≡ entry_position l.list (l.d - 1)) × (0 < l.before);
    }
