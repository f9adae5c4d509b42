-- `routes::reading::take_point` meets its contract.
-- Assumes nothing.
use native.Mathlib.Omega.{arith}
use mathlib.Core.Path.{◌≡◌, ◌∙◌}
use Rattle.std.specs.Prelude.{Err}
use Rattle.std.proofs.Common.{rules}
use Rattle.net.specs.declared.refusal.Refusal.TheVariants.{RoutePoint}
use Rattle.routes.specs.Taking.{handed_on, handed_none, again, took_far, took_far_refused, took_refused, took_known, took_past, took_stored, count_most, parent-within}
use Rattle.routes.proofs.reading.take_point.Goals as goal

pub returns-then-is_refused : goal.returns-then-is_refused
returns-then-is_refused c rest r = took_far_refused r c.in_default.is (c.is_refused.ensures ∙ again _ _ r c.in_default.is) c.if-is_refused.true

pub returns-in_default : goal.returns-in_default
returns-in_default c rest r = took_far r c.in_default.is (c.is_refused.ensures ∙ again _ _ r c.in_default.is) c.if-is_refused.false (omega (arith, c.well_formed))

pub returns-in_err-node : goal.returns-in_err-node
returns-in_err-node c rest r =
    let e : c.from_residual.result ≡ Err (RoutePoint c.args.p.at) = search rules in
    rw e (took_refused r c.in-Some.is c.requires.0 c.place_point.ensures (handed_none c.ok_or.ensures.ok_part c.in_err-node.was))

pub returns-in-Known : goal.returns-in-Known
returns-in-Known c rest r = took_known r c.in-Some.is c.requires.0 c.place_point.ensures (omega (arith, c.well_formed)) (handed_on c.ok_or.ensures.ok_part c.in_ok-node.was c.in-Known.is)

pub returns-then-count-eq-MOST_NODES : goal.returns-then-count-eq-MOST_NODES
returns-then-count-eq-MOST_NODES c rest r =
    took_past r c.in-Some.is c.requires.0 c.place_point.ensures (omega (arith, c.well_formed)) (handed_on c.ok_or.ensures.ok_part c.in_ok-node.was c.in-New.is) c.if-count-eq-MOST_NODES.true

pub overflow_cast-nodes : goal.overflow_cast-nodes
overflow_cast-nodes c =
    let w = parent-within c.requires.1.1 c.in-Some.is c.requires.0 c.place_point.ensures (omega (arith, c.well_formed)) (handed_on c.ok_or.ensures.ok_part c.in_ok-node.was c.in-New.is) in
    let m = count_most c.requires.1.1 c.in-Some.is in
    record { fits = omega (arith, c.if-count-eq-MOST_NODES.false) }

pub returns-else-count-eq-MOST_NODES : goal.returns-else-count-eq-MOST_NODES
returns-else-count-eq-MOST_NODES c rest r =
    let m = count_most r c.in-Some.is in
    took_stored r c.in-Some.is c.requires.0 c.place_point.ensures (omega (arith, c.well_formed)) (handed_on c.ok_or.ensures.ok_part c.in_ok-node.was c.in-New.is) (omega (arith, c.if-count-eq-MOST_NODES.false))
