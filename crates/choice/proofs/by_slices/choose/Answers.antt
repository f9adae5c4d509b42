-- `choice::by_slices::choose` meets its contract. Assumes nothing.
use Rattle.std.proofs.Common.{arith}
use Rattle.choice.specs.BySlicesLaws.{chooses_same}
use Rattle.choice.proofs.by_slices.choose.Goals as goal

pub returns : goal.returns
returns c =
    let a = c.args in
    let h = c.choose.ensures in
    let s = c.clusters_of-c.ensures in (
      h.0,
      λ r p. chooses_same a.n a.wires.now a.lo.now a.hi.now a.host.now a.cut_any.now a.any_ok.now a.any_weight.now a.has_ungated.now a.near.now c.clusters_of-c.result c.put_counts.new.k s c.put_counts.ensures a.limit h.0 c.choose.new.cut_high r p (h.1 r (omega (arith, s.n_is))),
    )
