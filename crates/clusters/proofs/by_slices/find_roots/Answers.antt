-- `clusters::by_slices::find_roots` meets its contract. Assumes nothing.
use Rattle.std.proofs.Common.{◌≡◌, arith}
use Rattle.std.proofs.lemmas.Grind.{common_steps}
use Rattle.clusters.specs.FirstPasses.{whole}
use Rattle.clusters.proofs.by_slices.find_roots.Goals as goal

pub returns : goal.returns
returns c = λ i p.
    let h = c.find_leaders.ensures i p in
    let e : h.0 ≡ whole c.args.wires.now c.args.stage c.args.lo.now i = grind (arith, common_steps) in
    rw e at h.2
