-- `routes::reading::read_route` meets its contract. The invariant: `Reading`, the state after some points, with what was read behind them.
-- Assumes nothing.
use mathlib.Core.Path.{◌≡◌, ◌∙◌, refl, sym, ap}
use Rattle.std.specs.Prelude.{[], Ok, Err}
use Rattle.std.proofs.Common.{rules}
use Rattle.paths.specs.declared.Read.{Read}
use Rattle.routes.specs.Reading.{formed, reading_start, point_refused_lem, route_unformed, reading_formed, route_end_lem, reached_whole, left_formed, reading_on}
use Rattle.routes.proofs.reading.read_route.Goals as goal

pub returns-in_err-read : goal.returns-in_err-read
returns-in_err-read c =
    let m : c.map_err.result ≡ formed c.begin.result = search rules in
    let e : c.from_residual.result ≡ Err c.in_err-read.field-0.0 = search rules in
    rw e (route_unformed _ _ (reading_start _ c.args.place [] c.start_of.ensures.0 c.begin.ensures) (sym m ∙ c.in_err-read.was))

pub loop-read-init : goal.loop-read-init
loop-read-init c =
    let m : c.map_err.result ≡ formed c.begin.result = search rules in
    (reading_formed _ _ (reading_start _ c.args.place _ c.start_of.ensures.0 c.begin.ensures) (sym m ∙ c.in_ok-read.was), refl)

pub returns-in-End : goal.returns-in-End
returns-in-End c = route_end_lem _ _ c.loop-read.invariant.0 (ap (λ (s : Read). Ok s) c.in-End.is) (search rules)

pub take_point-requires : goal.take_point-requires
take_point-requires c = let inv = c.loop-read.invariant in (inv.1, (_, reached_whole _ _ inv.0 (ap (λ (s : Read). Ok s) c.in-Whole.is)))

pub returns-in_err-found-in-Whole : goal.returns-in_err-found-in-Whole
returns-in_err-found-in-Whole c =
    let e : c.from_residual-in_err-found-in-Whole.result ≡ Err c.in_err-found-in-Whole.field-0.0 = search rules in
    rw e (point_refused_lem _ _ (c.in_err-found-in-Whole.ensures _ (reached_whole _ _ c.loop-read.invariant.0 (ap (λ (s : Read). Ok s) c.in-Whole.is))))

pub returns-in_err-read-in-Whole : goal.returns-in_err-read-in-Whole
returns-in_err-read-in-Whole c =
    let r = c.loop-read.invariant.0 in
    let m : c.map_err-in-Whole.result ≡ formed c.next_point.result = search rules in
    let e : c.from_residual-in_err-read-in-Whole.result ≡ Err c.in_err-read-in-Whole.field-0.0 = search rules in
    let q = ap (λ (s : Read). Ok s) c.in-Whole.is in
    rw e
    (route_unformed _ _ (reading_on _ _ r q c.next_point.ensures (c.in_ok-found-in-Whole.ensures _ (reached_whole _ _ r q)))
    (sym m ∙ c.in_err-read-in-Whole.was))

pub loop-read-smaller : goal.loop-read-smaller
loop-read-smaller c =
    let m : c.map_err-in-Whole.result ≡ formed c.next_point.result = search rules in
    let q = ap (λ (s : Read). Ok s) c.in-Whole.is in
    rw c.in-Whole.is (left_formed _ _ c.loop-read.invariant.0 q c.next_point.ensures (sym m ∙ c.in_ok-read-in-Whole.was))

pub loop-read-preserved : goal.loop-read-preserved
loop-read-preserved c =
    let r = c.loop-read.invariant.0 in
    let m : c.map_err-in-Whole.result ≡ formed c.next_point.result = search rules in
    let q = ap (λ (s : Read). Ok s) c.in-Whole.is in (
      reading_formed _ _ (reading_on _ _ r q c.next_point.ensures (c.in_ok-found-in-Whole.ensures _ (reached_whole _ _ r q)))
          (sym m ∙ c.in_ok-read-in-Whole.was),
      search rules,
    )
