-- `clusters::roots::find_components` meets its contract. Assumes nothing.
use Rattle.std.proofs.Common.{◌≡◌, arith}
use Rattle.std.proofs.lemmas.Grind.{common_steps}
use Rattle.clusters.specs.FirstPasses.{is_present}
use Rattle.clusters.proofs.roots.find_components.Goals as goal

pub returns : goal.returns
returns c = λ i p.
    let h = c.find_leaders.ensures i p in
    let e : h.0 ≡ is_present c.args.wires.now c.args.stage i = grind (arith, common_steps) in
    rw e at h.2
