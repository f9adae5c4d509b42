-- `clusters::by_slices::weigh_clusters` meets its contract. Assumes nothing.
use Rattle.std.proofs.Common.{◌∙◌, rules, arith}
use Rattle.laws.specs.Numbers.{Bytes}
use Rattle.clusters.specs.BySlices.{narrow_inside, inside_same, gathered_same}
use Rattle.clusters.proofs.by_slices.weigh_clusters.Goals as goal

pub clusters_of-c-requires : goal.clusters_of-c-requires
clusters_of-c-requires c =
    let nodes : Bytes c.args.nodes.now = λ j. omega (arith, c.type_inv.nodes j) in
    let w = c.requires.wired in
    let narrow = narrow_inside w.0 nodes w.1 in
    -- the size of what is answered, then the clauses
    (search rules, ((omega (arith, w.0.few), omega arith, omega arith, omega arith), rw c.node_count.ensures narrow))

pub weigh_clusters-requires-clause-wired : goal.weigh_clusters-requires-clause-wired
weigh_clusters-requires-clause-wired c = (c.requires.wired.0, inside_same c.args.nodes.now c.args.wires.now (rw c.node_count.ensures at c.clusters_of-c.ensures) c.requires.wired.1)

pub returns : goal.returns
returns c = λ r p. c.weigh_clusters.ensures r p ∙ gathered_same c.args.nodes.now c.args.wires.now (rw c.node_count.ensures at c.clusters_of-c.ensures) c.args.stage c.args.root.now r
