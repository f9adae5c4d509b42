-- `lists::check::row_end` meets its contract.
-- Assumes nothing.
use Rattle.std.proofs.Common.{◌≡◌, ◌∙◌, ◌||◌, ◌+◌, ◌-◌, ◌<◌, true, eqb, ltb, ltb-true, ltb-false, refl, sym, arith}
use Rattle.laws.specs.Sums.{by}
use Rattle.std.proofs.lemmas.Bool.Decides.{nat_tests}
use Rattle.std.proofs.lemmas.Result.{err_from_is_err_and}
use Rattle.net.specs.Refusal.{refusal}
use Rattle.net.specs.Numbers.{checked}
use Rattle.net.specs.First.{first_more, first-here}
use Rattle.net.specs.Answered.{met_refusal}
use Rattle.net.specs.AcceptedNet.{stage_of_net_under}
use Rattle.pieces.specs.Legal.{entry_wire, entry_position, after}
use Rattle.pieces.specs.JumperList.{point_refusal, entry_refusal}
use Rattle.lists.specs.EntriesChecked.{wires-checked, wire-stored, present-checked, no_wire, absent_wire, position_point, at_node, after-higher, after_lower, after-behind, after_not_behind, entry_not_after, entry_point}
use Rattle.lists.proofs.check.row_end.Goals as goal
use Rattle.lists.proofs.check.row_end.Goals.{After-length_of-arg-2-1, After-position_refusal, then-node_count-i-via-then-node_count-i, then-node_count-i-via-else-node_count-i+then-not-is_present}

pub is_present-requires : goal.is_present-requires
is_present-requires c = wire-stored _ _ (wires-checked _ _ _ _ c.args.net.accepted) c.entry_wire-i.result (omega arith)

pub length_of-length-requires : goal.length_of-length-requires
length_of-length-requires c =
    present-checked _ _ (wires-checked _ _ _ _ c.args.net.accepted) c.entry_wire-i.result (omega arith) c.args.stage (grind (arith, nat_tests, c.if-not-is_present.ensures))

pub of_wire-line-requires : goal.of_wire-line-requires
of_wire-line-requires c = length_of-length-requires (goal.at.of_wire-line-requires c).After-length_of-arg-2-1

pub returns-then-node_count-i : goal.returns-then-node_count-i
returns-then-node_count-i c =
    let a = c.args in
    let s = stage_of_net_under a.net a.stage a.clearance in
    let on_wire : refusal 13 a.e ≡ point_refusal s c.entry_wire-i.result (entry_position a.list.now a.e) a.e =
    elim c.then-node_count-i.branch [
      | then-node_count-i-via-then-node_count-i w ↦ no_wire _ _ _ _ _ _ _ _ _ (omega arith)
      | then-node_count-i-via-else-node_count-i+then-not-is_present w ↦ absent_wire _ _ _ _ _ _ _ _ _ (omega arith) (grind (arith, nat_tests, w.if-not-is_present.ensures))
    ] in
    first-here _ _ _ c.requires.0 c.requires.1.accepted (rw c.entry_wire-i.ensures at on_wire ∙ entry_point s a.list.now a.e (c.requires.1.stands c.requires.0)) refl

pub returns-then-wire-i : goal.returns-then-wire-i
returns-then-wire-i c =
    let v = c.loop-d.invariant in
    let ahead : c.args.e < c.loop-d.d = grind arith in
    let behind = v.behind ahead in
    first-here _ _ _ (omega arith) v.accepted (entry_not_after _ _ _ (after_lower _ _ (omega arith) (omega arith))) refl

pub returns-then-i-wire : goal.returns-then-i-wire
returns-then-i-wire c =
    let v = c.loop-d.invariant in
    let ahead : c.args.e < c.loop-d.d = grind arith in
    let behind = v.behind ahead in
    (ahead, record { inside = omega arith; accepted = v.accepted; stands = λ p. after-higher _ _ (omega arith) (omega arith) })

pub returns-then-before-eq0 : goal.returns-then-before-eq0
returns-then-before-eq0 c =
    let a = c.args in
    let v = c.loop-d.invariant in
    let d = c.loop-d.d in
    let here : d ≡ a.e = grind (arith, v.behind) in
    let stands : true ≡ (eqb d 0 || after a.list.now (d - 1) d) = rw here (c.requires.1.stands c.requires.0) in
    let s = stage_of_net_under a.net a.stage a.clearance in
    let outside : refusal 13 d ≡ point_refusal s (entry_wire a.list.now d) (entry_position a.list.now d) d = at_node _ _ _ _ _ _ _ _ _ (omega arith) in
    first-here _ _ _ (omega arith) v.accepted (outside ∙ entry_point s a.list.now d stands) refl

pub returns-else-before-eq0 : goal.returns-else-before-eq0
returns-else-before-eq0 c =
    let v = c.loop-d.invariant in
    let ahead : c.args.e < c.loop-d.d = grind (arith, v.first) in
    let behind = v.behind ahead in
    first-here _ _ _ (omega arith) v.accepted (entry_not_after _ _ _ (after_not_behind _ _ (omega arith) (omega arith) (omega arith))) refl

-- an entry of the row behind position `before` stands after the one before it, and what is judged is its point
judged : (c : After-position_refusal) → checked c.position_refusal.result ≡ entry_refusal (stage_of_net_under c.args.net c.args.stage c.args.clearance) c.args.list.now c.loop-d.d
judged c =
    let a = c.args in
    let v = c.loop-d.invariant in
    let d = c.loop-d.d in
    let stands : true ≡ (eqb d 0 || after a.list.now (d - 1) d) =
    by (ltb a.e d)
    (λ y. let behind = v.behind (ltb-true _ _ y) in after-behind _ _ (omega (arith, ltb-true _ _ y)) (omega arith) (omega arith))
    (λ n. let here : d ≡ a.e = omega (arith, ltb-false _ _ n) in rw here (c.requires.1.stands c.requires.0)) in
    (rw (c.of_wire-line.ensures.line, c.length_of-length.ensures.0) at c.position_refusal.ensures)
    ∙ position_point a.net.version a.clearance a.net.nodes.now a.net.wires.now a.net.obstacles.now a.stage c.entry_wire-i.result c.entry_position-t.result d (omega arith) (grind (arith, nat_tests, c.if-not-is_present.ensures))
    ∙ (let on : c.entry_wire-i.result ≡ entry_wire a.list.now d = omega arith in rw (on, c.entry_position-t.ensures) (entry_point _ a.list.now d stands))

pub returns-in_err-position_refusal : goal.returns-in_err-position_refusal
returns-in_err-position_refusal c =
    let at = rw c.in_err-position_refusal.was at (judged (goal.at.returns-in_err-position_refusal c).After-position_refusal) in
    let p = err_from_is_err_and c.from_residual.result c.from_residual.ensures.1 in
    rw (p.1, p.2) (first-here _ _ _ (omega arith) c.loop-d.invariant.accepted at (met_refusal c.in_err-position_refusal.field-0.0))

pub loop-d-preserved : goal.loop-d-preserved
loop-d-preserved c =
    let at = rw c.in_ok-position_refusal.was at (judged (goal.at.loop-d-preserved c).After-position_refusal) in
    record {
      accepted = first_more _ _ c.loop-d.invariant.accepted at;
      first = λ q. absurd (native.Mathlib.Nat.lt_irrefl 0 (omega arith));
      behind = λ q. let one : c.loop-d.d + 1 - 1 ≡ c.loop-d.d = omega arith in rw one (omega arith, omega arith, omega arith);
    }
