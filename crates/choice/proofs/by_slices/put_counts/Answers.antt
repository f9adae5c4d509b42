-- `choice::by_slices::put_counts` meets its contract: below r the arrays have what the slices have there. Assumes nothing.
use Rattle.std.proofs.Common.{false, ◌≡◌, refl, None, is_some, get_or, ltb, arith}
use Rattle.std.proofs.Math.ListN.{get_or-map}
use Rattle.clusters.specs.Positions.{position_of}
use Rattle.clusters.specs.BySlices.{entry_more}
use Rattle.choice.proofs.by_slices.put_counts.Goals as goal

pub loop-r-preserved : goal.loop-r-preserved
loop-r-preserved g c =
    let a = c.args in
    let l = c.loop-r in
    let k = l.k in
    record {
      cuts = entry_more (λ j x. x ≡ get_or a.cut_any.now j false) k.cut_any l.r _ false (omega arith) refl l.invariant.cuts;
      oks = entry_more (λ j x. x ≡ get_or a.any_ok.now j false) k.any_ok l.r _ false (omega arith) refl l.invariant.oks;
      weights = entry_more (λ j x. x ≡ get_or a.any_weight.now j 0) k.any_weight l.r _ 0 (omega arith) refl l.invariant.weights;
      ungated = entry_more (λ j o. is_some o ≡ get_or a.has_ungated.now j false) k.ungated l.r _ None (omega arith) c.weight_of.ensures l.invariant.ungated;
      stops = entry_more (λ j o. ltb 0 (position_of o) ≡ ltb 0 (get_or a.near.now j 0)) k.near l.r _ None (omega arith) c.jumper_of.ensures l.invariant.stops;
    }

pub returns : goal.returns
returns g c =
    let l = c.loop-r in
    record {
      cuts = λ j p. l.invariant.cuts j (omega arith);
      oks = λ j p. l.invariant.oks j (omega arith);
      weights = λ j p. l.invariant.weights j (omega arith);
      ungated = λ j p. rw (get_or-map is_some l.k.ungated j None) (l.invariant.ungated j (omega arith));
      stops = λ j p. rw (get_or-map position_of l.k.near j None) (l.invariant.stops j (omega arith));
    }
