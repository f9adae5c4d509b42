-- `counting::count::count_pass` meets its contract: its own arrays are long enough, and the marks are cleared.
-- Assumes nothing.
use Rattle.std.proofs.Common.{rules, arith}
use Rattle.counting.specs.CountTotal.{roots_few}
use Rattle.counting.proofs.count.count_pass.Goals as goal

pub total_points-requires : goal.total_points-requires
total_points-requires g c =
    let a = c.args in
    let ready = c.requires.ready in
    let few = roots_few a.nodes.now a.wires.now a.obstacles.now a.c.now ready a.limit c.count_clusters.new.k c.count_clusters.new.b c.count_clusters.ensures in
    (search rules, (search rules, omega (arith, ready.few)))
