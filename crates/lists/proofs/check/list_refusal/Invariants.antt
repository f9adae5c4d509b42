-- `lists::check::list_refusal` meets its contract. The invariant: no entry below `e` is refused, and entry `e` stands after the one before it.
-- Assumes nothing.
use Rattle.std.proofs.Common.{◌-◌}
use Rattle.net.specs.AcceptedNet.{stage_of_net_under}
use Rattle.pieces.specs.JumperList.{entry_count}
use Rattle.lists.specs.EntriesChecked.{AcceptedTo}
use Rattle.lists.proofs.check.list_refusal.Given as goal

abbrev pub invariant-loop-e : goal.invariant-loop-e
invariant-loop-e l =
    AcceptedTo (stage_of_net_under l.net l.stage l.clearance) l.list l.e

abbrev pub decreases-loop-e : goal.decreases-loop-e
decreases-loop-e l = entry_count l.list - l.e
