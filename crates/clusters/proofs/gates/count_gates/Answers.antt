-- `clusters::gates::count_gates` meets its contract: the clusters below i have the gates below i. Assumes nothing.
use Rattle.std.proofs.Common.{◌+◌, arith, get_or}
use Rattle.clusters.specs.FirstPasses.{Falling, gathered, gate_of}
use Rattle.clusters.specs.Turns.{gate-one, gathered-bound, gathered_none, cleared, gather-turn}
use Rattle.clusters.proofs.gates.count_gates.Goals as goal

pub overflow_add-gates : goal.overflow_add-gates
overflow_add-gates c =
    let l = c.loop-i in
    let a = c.args in
    let f = c.requires.falling.0 l.i (omega arith) in
    let x = gate_of a.nodes.now a.component.now a.sourced.now in
    let k = get_or a.root.now l.i 0 in
    let z = gathered_none l.i l.i a.root.now x (λ j p. c.requires.falling.0 j (omega arith)) (omega arith) in
    let e = cleared l.i (gathered l.i a.root.now x) l.gates (omega arith) z l.invariant k (omega arith) in
    let b = gathered-bound l.i 1 a.root.now x (λ j p. gate-one a.nodes.now a.component.now a.sourced.now j) k in
    let o = gate-one a.nodes.now a.component.now a.sourced.now l.i in
    record { fits = omega arith }

pub loop-i-preserved : goal.loop-i-preserved
loop-i-preserved c =
    let l = c.loop-i in
    let a = c.args in
    let falling : Falling (l.i + 1) a.root.now = λ j p. c.requires.falling.0 j (omega arith) in
    rw c.gate_of.ensures (gather-turn l.i a.root.now (gate_of a.nodes.now a.component.now a.sourced.now) l.gates (omega arith) falling l.invariant)
