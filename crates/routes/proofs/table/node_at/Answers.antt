-- `routes::table::node_at` meets its contract.
-- Assumes nothing.
use mathlib.Core.Path.{◌∙◌, refl}
use Rattle.std.proofs.Common.{rules, tests}
use Rattle.std.proofs.lemmas.Iterator.{YieldsList-from_slice}
use Rattle.std.proofs.lemmas.Iterator.Search.{position_from_yields_List}
use Rattle.routes.specs.Nodes.{stands_at, known_at, lowest_at}
use Rattle.routes.specs.Placing.{first_passing}
use Rattle.routes.proofs.table.node_at.Goals as goal

pub returns : goal.returns
unfolding known_at lowest_at
returns c =
    let a = c.args in
    position_from_yields_List (stands_at a.x a.y) _ _ _ c.position.ensures.ran (YieldsList-from_slice a.nodes.now (cc)) (λ x b q k. search (rules, tests))
    ∙ first_passing a.nodes.now (stands_at a.x a.y) _ (λ i l. refl)
