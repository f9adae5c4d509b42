-- `clusters::weights::weigh_clusters` meets its contract: the clusters below i have the weight of the wires below i. Assumes nothing.
use Rattle.std.proofs.Common.{◌+◌, arith}
use Rattle.clusters.specs.Positions.{los, his}
use Rattle.clusters.specs.FirstPasses.{Falling, lower_weight, upper_weight}
use Rattle.clusters.specs.Weights.{lower-fits, upper-fits, after-second}
use Rattle.clusters.proofs.weights.weigh_clusters.Goals as goal

pub overflow_add-fixed : goal.overflow_add-fixed
overflow_add-fixed c =
    let l = c.loop-i in
    let a = c.args in
    let q = c.requires in
    rw c.lower_weight.ensures
    (record {
      fits =
          lower-fits a.nodes.now a.wires.now (los a.cuttable.now) (his a.cuttable.now) a.root.now a.host.now a.stage q.wired.0 (λ j. omega (arith, c.type_inv.nodes j)) (λ j. omega (arith, c.type_inv.wires j)) q.wired.1 q.falling.0 q.falling.1
          l.i (omega arith) l.fixed (omega arith) l.invariant;
    })

pub overflow_add-fixed-in-loop-i : goal.overflow_add-fixed-in-loop-i
overflow_add-fixed-in-loop-i c =
    let l = c.loop-i in
    let a = c.args in
    let q = c.requires in
    rw (c.lower_weight.ensures, c.upper_weight.ensures)
    (record {
      fits =
          upper-fits a.nodes.now a.wires.now (los a.cuttable.now) (his a.cuttable.now) a.root.now a.host.now a.stage q.wired.0 (λ j. omega (arith, c.type_inv.nodes j)) (λ j. omega (arith, c.type_inv.wires j)) q.wired.1 q.falling.0 q.falling.1
          l.i (omega arith) l.fixed (omega arith) l.invariant;
    })

pub loop-i-preserved : goal.loop-i-preserved
loop-i-preserved c =
    let l = c.loop-i in
    let a = c.args in
    let fx : Falling (l.i + 1) a.root.now = λ j p. c.requires.falling.0 j (omega arith) in
    let fy : Falling (l.i + 1) a.host.now = λ j p. c.requires.falling.1 j (omega arith) in
    rw (c.lower_weight.ensures, c.upper_weight.ensures)
    (after-second l.i a.root.now a.host.now (lower_weight a.nodes.now a.wires.now a.stage (los a.cuttable.now)) (upper_weight a.nodes.now a.wires.now (los a.cuttable.now) (his a.cuttable.now)) l.fixed (omega arith) fx fy l.invariant)
