-- `clusters::first_passes::first_passes` meets its contract: each pass has what it requires from those before, and together they fit the net. Assumes nothing.
use Rattle.std.proofs.Common.{arith}
use Rattle.laws.specs.Numbers.{Bytes}
use Rattle.clusters.specs.Turns.{roots_fall, components_fall}
use Rattle.clusters.specs.EndsLaws.{inside_of, first-none}
use Rattle.clusters.specs.FitsLaws.{hosts-falling, clustered_of}
use Rattle.clusters.proofs.first_passes.first_passes.Goals as goal

pub find_hosts-requires-clause-lo_value : goal.find_hosts-requires-clause-lo_value
find_hosts-requires-clause-lo_value g c = first-none _ _ _ _ _ _ c.find_cuttable.ensures c.requires.wired.some

pub mark_sources-requires-clause-falling : goal.mark_sources-requires-clause-falling
mark_sources-requires-clause-falling g c = components_fall c.requires.wired _ _ c.find_components.ensures

pub count_gates-requires-clause-falling : goal.count_gates-requires-clause-falling
count_gates-requires-clause-falling g c = (roots_fall c.requires.wired _ _ _ c.find_roots.ensures, components_fall c.requires.wired _ _ c.find_components.ensures)

pub weigh_clusters-requires-clause-wired : goal.weigh_clusters-requires-clause-wired
weigh_clusters-requires-clause-wired g c = (c.requires.wired, inside_of _ _ _ _ _ _ c.find_cuttable.ensures)

pub weigh_clusters-requires-clause-falling : goal.weigh_clusters-requires-clause-falling
weigh_clusters-requires-clause-falling g c =
    let roots = roots_fall c.requires.wired _ _ _ c.find_roots.ensures in
    let inside = inside_of _ _ _ _ _ _ c.find_cuttable.ensures in
    (roots, hosts-falling c.requires.wired _ _ _ inside.wire roots c.find_hosts.ensures)

pub returns : goal.returns
returns g c =
    let nodes : Bytes c.args.nodes.now = λ j. omega (arith, c.type_inv.nodes j) in
    let wires : Bytes c.args.wires.now = λ j. omega (arith, c.type_inv.wires j) in
    clustered_of c.requires.wired nodes wires
    (record {
      n_is = c.node_count-c.ensures;
      ends = c.find_cuttable.ensures;
      roots = c.find_roots.ensures;
      hosts = c.find_hosts.ensures;
      components = c.find_components.ensures;
      sources = c.mark_sources.ensures;
      gated = c.count_gates.ensures;
      weighed = c.weigh_clusters.ensures;
    })
