-- `paths::first_read` meets its contract. The invariant: what is sought is found among the points still to be read.
-- Assumes nothing.
use mathlib.Core.Path.{◌∙◌, sym, ap}
use native.Mathlib.Omega.{arith}
use Rattle.std.specs.Prelude.{Ok}
use Rattle.paths.specs.declared.Read.{Read}
use Rattle.paths.specs.AgainLaws.{search_start, search_here, search_on, search_left, search_in, search_end, search_none}
use Rattle.paths.proofs.first_read.Goals as goal

pub returns-in_err-read : goal.returns-in_err-read
returns-in_err-read c =
    let s = search_start _ c.args.place c.args.points c.args.x c.args.y c.args.low c.args.high c.start_of.ensures.0 c.begin.ensures in
    c.from_residual.ensures ∙ search_left s (sym c.ok.ensures.value ∙ c.in_err-read.was)

pub loop-k-init : goal.loop-k-init
loop-k-init c =
    search_in (search_start _ c.args.place _ _ _ _ _ c.start_of.ensures.0 c.begin.ensures) (sym c.ok.ensures.value ∙ c.in_ok-read.was)

pub returns-in_default : goal.returns-in_default
returns-in_default c = search_end c.loop-k.invariant (ap (λ (s : Read). Ok s) c.in_default.is)

pub returns-then-stands : goal.returns-then-stands
returns-then-stands c =
    search_here c.loop-k.invariant (omega arith) (ap (λ (s : Read). Ok s) c.in-Whole.is) (sym c.stands.ensures ∙ c.if-stands.true)

pub returns-in_err-read-2 : goal.returns-in_err-read-2
returns-in_err-read-2 c =
    let s = search_on c.loop-k.invariant (omega arith) (ap (λ (s : Read). Ok s) c.in-Whole.is) (sym c.stands.ensures ∙ c.if-stands.false) c.next_point.ensures in
    c.from_residual-in_err-read-2.ensures ∙ search_left s (sym c.ok-in-loop-k.ensures.value ∙ c.in_err-read-2.was)

pub loop-k-preserved : goal.loop-k-preserved
loop-k-preserved c =
    let s = search_on c.loop-k.invariant (omega arith) (ap (λ (s : Read). Ok s) c.in-Whole.is) (sym c.stands.ensures ∙ c.if-stands.false) c.next_point.ensures in
    search_in s (sym c.ok-in-loop-k.ensures.value ∙ c.in_ok-read-2.was)

pub returns : goal.returns
returns c = search_none c.loop-k.invariant (omega arith)
