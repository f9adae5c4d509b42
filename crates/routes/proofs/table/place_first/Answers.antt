-- `routes::table::place_first` meets its contract.
-- Assumes nothing.
use native.Mathlib.Omega.{arith}
use Rattle.std.proofs.lemmas.Bool.Decides.{nat_tests}
use Rattle.routes.specs.Placing.{via_held, no_via, node_held, no_node_held, higher-max, placed_alone, placed_nowhere, placed_known, placed_via}
use Rattle.routes.proofs.table.place_first.Goals as goal

pub returns-then-is_empty : goal.returns-then-is_empty
returns-then-is_empty c last = placed_alone _ last _ c.requires.0 (grind (arith, nat_tests, c.is_empty.ensures, c.if-is_empty.true))

pub returns-in_default : goal.returns-in_default
returns-in_default c last =
    placed_nowhere _ last _ c.requires.0 (no_via c.args.nodes.now c.args.p c.node_at.ensures c.in_default.is) (λ e. grind (arith, nat_tests, c.is_empty.ensures, c.if-is_empty.false))

pub bounds-nodes-via : goal.bounds-nodes-via
bounds-nodes-via c = (via_held c.args.nodes.now c.args.p c.node_at.ensures c.in-Some.is).2

pub offset_bounds-nodes-via : goal.offset_bounds-nodes-via
offset_bounds-nodes-via c =
    let v = via_held c.args.nodes.now c.args.p c.node_at.ensures c.in-Some.is in
    let w = c.well_formed in
    record { fits = omega arith }

pub returns-in-Some-on : goal.returns-in-Some-on
returns-in-Some-on c last =
    let n = node_held c.args.nodes.now c.args.p c.requires.1 c.in-Some-on.is in
    rw n.1 (placed_known _ last _ c.requires.0 (via_held c.args.nodes.now c.args.p c.node_at.ensures c.in-Some.is).0 n.0)

pub returns-in-None : goal.returns-in-None
returns-in-None c last =
    let v = via_held c.args.nodes.now c.args.p c.node_at.ensures c.in-Some.is in
    rw (c.max.ensures, v.1, higher-max) (placed_via _ last _ c.requires.0 v.0 (no_node_held c.args.nodes.now c.args.p c.requires.1 c.in-None.is))
