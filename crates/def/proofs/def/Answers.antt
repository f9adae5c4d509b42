-- `def::def` meets its contract.
-- Assumes nothing.
use native.Mathlib.Omega.{arith}
use mathlib.Core.Path.{◌≡◌}
use Rattle.std.specs.Prelude.{Err}
use Rattle.std.proofs.Common.{rules}
use Rattle.laws.specs.Lists.{zeros}
use Rattle.net.specs.Layout.{most_nodes}
use Rattle.routes.specs.Nodes.{route_nodes}
use Rattle.def.specs.JoiningLaws.{routed}
use Rattle.def.specs.Sectioning.{nodes-written}
use Rattle.def.specs.Answering.{answered_route, answered_pins, answered-many, answered-unwritten, answered-written}
use Rattle.def.proofs.def.Goals as goal

pub returns-in_err-route : goal.returns-in_err-route
returns-in_err-route c =
    let e : c.from_residual.result ≡ Err c.in_err-route.field-0.0 = search rules in
    rw e (answered_route _ _ _ _ _ _ c.in_err-route.ensures.verdict)

pub join_pins-requires-clause-routed : goal.join_pins-requires-clause-routed
join_pins-requires-clause-routed c = routed _ c.in_ok-route.ensures.route c.found-nodes.ensures.none c.found-nodes.ensures.some

pub join_pins-requires-clause-most_nodes_in_bounds :
    goal.join_pins-requires-clause-most_nodes_in_bounds
join_pins-requires-clause-most_nodes_in_bounds c = (omega arith, zeros most_nodes)

pub returns-in_err-join_pins : goal.returns-in_err-join_pins
returns-in_err-join_pins c =
    let e : c.from_residual-in_err-join_pins.result ≡ Err c.in_err-join_pins.field-0.0 = search rules in
    rw e (answered_pins _ _ _ _ _ c.in_ok-route.ensures.verdict _ c.in_err-join_pins.ensures.verdict)

pub returns-in_default : goal.returns-in_default
returns-in_default c =
    let r = routed _ c.in_ok-route.ensures.route c.found-nodes.ensures.none c.found-nodes.ensures.some in
    answered-many _ _ _ _ _ c.in_ok-route.ensures.verdict c.in_ok-join_pins.ensures.verdict (r.many c.in_default.is)

pub returns-in_err-bytes : goal.returns-in_err-bytes
returns-in_err-bytes c =
    let a = c.args in
    let r = routed _ c.in_ok-route.ensures.route c.found-nodes.ensures.none c.found-nodes.ensures.some in
    let few = r.few c.in-Some.nodes c.in-Some.is in
    let n = nodes-written (route_nodes a.text.now a.place) a.pins.now _ few.1 c.in_ok-join_pins.ensures.joined in
    let e : c.from_residual-in_err-bytes.result ≡ Err c.in_err-bytes.field-0.0 = search rules in
    rw e (answered-unwritten a.text.now a.place a.pins.now a.obstacles.now a.out.now c.in_ok-route.ensures.verdict c.in_ok-join_pins.ensures.verdict (rw few.0 n) (rw few.0) _ c.in_err-bytes.ensures)

pub returns : goal.returns
returns c =
    let a = c.args in
    let r = routed _ c.in_ok-route.ensures.route c.found-nodes.ensures.none c.found-nodes.ensures.some in
    let few = r.few c.in-Some.nodes c.in-Some.is in
    let n = nodes-written (route_nodes a.text.now a.place) a.pins.now _ few.1 c.in_ok-join_pins.ensures.joined in
    answered-written a.text.now a.place a.pins.now a.obstacles.now a.out.now c.in_ok-route.ensures.verdict c.in_ok-join_pins.ensures.verdict (rw few.0 n) (rw few.0) c.in_ok-route.ensures.route.end c.in_ok-bytes.ensures
