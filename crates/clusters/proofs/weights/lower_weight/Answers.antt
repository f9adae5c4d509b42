-- `clusters::weights::lower_weight` meets its contract. Assumes nothing.
use Rattle.std.proofs.Common.{◌≤◌, sym, ◌∙◌, arith}
use Rattle.laws.specs.Numbers.{Bytes}
use Rattle.net.specs.Limits.{length_bound}
use Rattle.clusters.specs.Positions.{lo_is}
use Rattle.clusters.specs.Turns.{is_present-positive}
use Rattle.clusters.specs.Weights.{product_small, length-≤}
use Rattle.clusters.proofs.weights.lower_weight.Goals as goal
use Rattle.clusters.proofs.weights.lower_weight.Goals.{in-Some, in-None}

pub overflow_mul-result : goal.overflow_mul-result
overflow_mul-result c =
    let a = c.args in
    let nodes : Bytes a.nodes.now = λ j. omega (arith, c.type_inv.nodes j) in
    let positive = is_present-positive a.wires.now a.stage a.i (sym c.is_present.ensures ∙ c.if-not-is_present.false) in
    let long = length-≤ c.requires.wired.0 nodes a.i positive c.requires.wired.1 in
    let short : c.match-cuttable-i.length ≤ length_bound =
    elim c.match-cuttable-i.branch [
      | in-Some w ↦
          let e = w.in-Some.e in
          let at = lo_is _ _ _ w.in-Some.is c.requires.wired.2 in
          omega (arith, w.length-is, e.positive, c.requires.i_bound (omega (arith, at, e.positive)))
      | in-None w ↦ omega (arith, w.length-is, w.length_of-length.ensures.0)
    ] in
    let small = product_small {a = c.from.result} {b = c.weight_of_step.result} (omega (arith, c.from.ensures, short)) (omega arith) in
    record { fits = omega arith }
