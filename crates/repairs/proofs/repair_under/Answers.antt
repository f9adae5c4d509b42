-- `repairs::repair_under` meets its contract: over the obstacles as they are, or over prepared ones.
-- Assumes nothing.
use Rattle.std.proofs.Common.{length, sym, ◌∙◌, ap, rules}
use Rattle.obstacles.specs.PreparedLaws.{prepared-length, prepared_taken, prepared_as_is, prepared-few, prepared-none}
use Rattle.repairs.specs.RepairLaws.{judged-prepared, judged_as_is, none_as_is}
use Rattle.repairs.proofs.repair_under.Goals as goal

pub repair_prepared-requires : goal.repair_prepared-requires
repair_prepared-requires c =
    none_as_is _ _ _ _ _ c.requires.0 c.requires.1 c.args.net.accepted (prepared_as_is _ _ _ (sym c.is_prepared.ensures ∙ c.if-is_prepared.true))

pub returns-then-is_prepared : goal.returns-then-is_prepared
returns-then-is_prepared c =
    let a = c.args.net in
    judged_as_is a.version c.args.clearance a.nodes.now a.wires.now a.obstacles.now c.requires.0 c.requires.1 a.accepted (prepared_as_is _ _ _ (sym c.is_prepared.ensures ∙ c.if-is_prepared.true))
    c.args.stage c.repair_prepared.ensures

pub prepare-end-requires : goal.prepare-end-requires
prepare-end-requires c = prepared-few _ _ _ _ c.args.net.accepted

pub slice_bounds-room-end : goal.slice_bounds-room-end
slice_bounds-room-end c = let h = prepared-few _ _ _ _ c.args.net.accepted in search rules

pub slice_bounds-repair_prepared-end : goal.slice_bounds-repair_prepared-end
slice_bounds-repair_prepared-end c =
    let a = c.args.net in
    let e = c.prepare-end.ensures in
    e.0 ∙ sym (ap length (prepared_taken a.version c.args.clearance a.obstacles.now _ _ _ e.0 e.1) ∙ prepared-length a.version c.args.clearance a.obstacles.now)

pub repair_prepared-requires-2 : goal.repair_prepared-requires-2
repair_prepared-requires-2 c =
    let a = c.args.net in
    let e = c.prepare-end.ensures in
    rw (prepared_taken a.version c.args.clearance a.obstacles.now _ _ _ e.0 e.1) (prepared-none _ _ _ _ _ c.requires.0 c.requires.1 a.accepted)

pub returns : goal.returns
returns c =
    let a = c.args.net in
    let e = c.prepare-end.ensures in
    judged-prepared a.version c.args.clearance a.nodes.now a.wires.now a.obstacles.now c.requires.0 c.requires.1 a.accepted c.args.stage
    (rw (prepared_taken a.version c.args.clearance a.obstacles.now _ _ _ e.0 e.1) at c.repair_prepared-2.ensures)
