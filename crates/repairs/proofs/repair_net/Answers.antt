-- `repairs::repair_net` meets its contract: each pass has what it requires from those before, and the answers are those of the promise.
-- Assumes nothing.
use Rattle.std.proofs.Common.{◌*◌, refl, sym, ap, ◌∙◌, rules, arith}
use Rattle.net.specs.Layout.{entry_bytes}
use Rattle.net.specs.declared.refusal.Refusal.TheVariants.{NoLegalSet, LentBuffer}
use Rattle.net.specs.Refusal.{none, answer}
use Rattle.net.specs.Answered.{answered_err, answered_ok}
use Rattle.net.specs.NoClearance.{stage_of}
use Rattle.std.proofs.lemmas.List.{length-map}
use Rattle.clusters.specs.Positions.{hi_of, position_of}
use Rattle.clusters.specs.FitsLaws.{wired_of}
use Rattle.clusters.specs.HopelessLaws.{none-hopeless}
use Rattle.repairs.specs.Promise.{no_legal_set}
use Rattle.repairs.specs.RepairLaws.{newest_right, ready_of, none_of, choosable_of, planned, planned-some, points-few, judged-short, judged-done}
use Rattle.repairs.proofs.repair_net.Goals as goal

pub first_passes-requires : goal.first_passes-requires
first_passes-requires c =
    let right = newest_right c.args.net c.requires in
    -- the size of what is lent, then the clauses
    (search rules, (wired_of right, right.sized.few_nodes))

pub returns-then-find_hopeless : goal.returns-then-find_hopeless
returns-then-find_hopeless c =
    let right = newest_right c.args.net c.requires in
    rw c.requires
    (no_legal_set
    (none_of _ _ _ _ right _ c.first_passes.ensures _ (sym c.find_hopeless.ensures.0 ∙ c.if-find_hopeless.true))
    (answered_err NoLegalSet 0) refl)

pub count_pass-points-requires : goal.count_pass-points-requires
count_pass-points-requires c =
    let right = newest_right c.args.net c.requires in (
      search rules,
      (
        search rules,
        (
          ready_of _ _ _ _ right _ c.first_passes.ensures,
          none-hopeless _ _ _ _ (sym c.find_hopeless.ensures.0 ∙ c.if-find_hopeless.false),
        ),
      ),
    )

pub overflow_mul-needed : goal.overflow_mul-needed
overflow_mul-needed c =
    let right = newest_right c.args.net c.requires in
    let few = points-few _ _ _ _ right _ c.first_passes.ensures _ _ _ c.count_pass-points.ensures in
    record { fits = omega (arith, right.sized.few_nodes) }

pub returns-then-out-needed : goal.returns-then-out-needed
returns-then-out-needed c =
    let right = newest_right c.args.net c.requires in
    let some = planned-some _ _ _ _ right _ c.first_passes.ensures _ _ _ c.count_pass-points.ensures in
    rw c.requires (judged-short some.1 (omega (arith, c.if-out-needed.true)) (answered_err (LentBuffer (entry_bytes * c.count_pass-points.result)) 0))

pub choose-requires : goal.choose-requires
choose-requires c =
    let right = newest_right c.args.net c.requires in
    let first = c.first_passes.new.c in (
      search rules,
      (
        search rules,
        (
          omega (arith, first.few),
          choosable_of _ _ _ _ right _ c.first_passes.ensures _ _ _ c.count_pass-points.ensures,
        ),
      ),
    )

pub write_list-requires-clause-writable : goal.write_list-requires-clause-writable
unfolding stage_of
write_list-requires-clause-writable c =
    let right = newest_right c.args.net c.requires in
    let first = c.first_passes.ensures in
    let plan = planned _ _ _ _ right _ first _ _ _ c.count_pass-points.ensures _ _ c.choose.ensures.1 in
    record {
      few = omega (arith, first.n_is, right.sized.few_nodes);
      his = omega (arith, c.first_passes.new.c.few, length-map c.first_passes.new.c.cuttable hi_of);
      nears = omega (arith, c.first_passes.new.c.few, length-map c.count_pass-points.new.k.near position_of);
      cuts = omega (arith, c.first_passes.new.c.few);
      near_short = λ r p. plan.listing.near_short r (omega (arith, first.n_is));
      hi_short = λ r p. plan.listing.hi_short r (omega (arith, first.n_is));
    }

pub write_list-requires-clause-cut_high_in_bounds : goal.write_list-requires-clause-cut_high_in_bounds
unfolding stage_of
write_list-requires-clause-cut_high_in_bounds c =
    let right = newest_right c.args.net c.requires in
    let first = c.first_passes.ensures in
    let plan = planned _ _ _ _ right _ first _ _ _ c.count_pass-points.ensures _ _ c.choose.ensures.1 in
    rw first.n_is (omega (arith, plan.points_is, c.if-out-needed.false))

pub returns : goal.returns
unfolding stage_of
returns c =
    let right = newest_right c.args.net c.requires in
    let first = c.first_passes.ensures in
    let plan = planned _ _ _ _ right _ first _ _ _ c.count_pass-points.ensures _ _ c.choose.ensures.1 in
    rw c.requires (judged-done plan (omega (arith, c.if-out-needed.false)) (answered_ok _ ∙ ap (answer none) (omega arith)) (rw first.n_is at c.write_list.ensures.1))
