-- `counting::by_slices::put_branches` meets its contract: below r the slices have what k has. Assumes nothing.
use Rattle.std.proofs.Common.{false, ◌≡◌, sym, ◌∙◌, get_or, arith}
use Rattle.clusters.specs.Positions.{positions, position_at}
use Rattle.clusters.specs.BySlices.{entry_more}
use Rattle.counting.specs.Optional.{flags, flag_at}
use Rattle.counting.proofs.by_slices.put_branches.Goals as goal

pub loop-r-preserved : goal.loop-r-preserved
loop-r-preserved g c =
    let k = c.args.k.now in
    let l = c.loop-r in
    record {
      frees = entry_more (λ j x. x ≡ get_or (flags k.ungated) j false) l.has_ungated l.r _ false (omega arith) (c.is_some.ensures ∙ sym (flag_at k.ungated l.r _ (omega arith))) l.invariant.frees;
      nears = entry_more (λ j x. x ≡ get_or (positions k.near) j 0) l.near l.r _ 0 (omega arith) (c.position_of.ensures ∙ sym (position_at k.near l.r _ (omega arith))) l.invariant.nears;
    }
