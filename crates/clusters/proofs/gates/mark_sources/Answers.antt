-- `clusters::gates::mark_sources` meets its contract. Assumes nothing.
use Rattle.std.proofs.Common.{arith}
use Rattle.std.proofs.lemmas.Grind.{common_steps}
use Rattle.net.specs.Net.{node_flags, is_source}
use Rattle.clusters.proofs.gates.mark_sources.Goals as goal

pub returns : goal.returns
returns c = (rw c.node_count.ensures at c.mark_components.ensures (λ i. is_source (node_flags c.args.nodes.now i)) (λ i b p e. grind (arith, common_steps))).1
