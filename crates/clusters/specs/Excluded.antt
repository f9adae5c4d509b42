-- Values of the definitions on a small net that exclude wrong first passes: net A of document 01, with node 0 (0,0), node 1 (13,0) and wire 1 of factor 1.
-- Assumes nothing.
use Rattle.std.specs.Prelude.{ℕ, ◌≡◌, refl, true, false, List, [], ◌∷◌}
use Rattle.net.specs.Net.{wire_length}
use Rattle.clusters.specs.FirstPasses.{lower_weight, upper_weight}
use Rattle.clusters.specs.Hopeless.{hopeless_at}

abbrev pub nodes : List ℕ
nodes = 0 ∷ 0 ∷ 0 ∷ 0 ∷ 1 ∷ 13 ∷ 0 ∷ 0 ∷ 0 ∷ 1 ∷ []

abbrev pub wires : List ℕ
wires = 0 ∷ 1 ∷ 1 ∷ []

-- not a cut at distance 0: positions 1 and 12 are the nearest to the nodes, and the step between stays with each
pub lower-step : lower_weight nodes wires 1 (0 ∷ 1 ∷ []) 1 ≡ 1
unfolding wire_length
lower-step = refl

pub upper-step : upper_weight nodes wires (0 ∷ 1 ∷ []) (0 ∷ 12 ∷ []) 1 ≡ 1
unfolding wire_length
upper-step = refl

-- not the weight of a cluster without a gate: it may go over the limit
pub plain-heavy : hopeless_at (13 ∷ []) (0 ∷ []) 12 0 ≡ false
plain-heavy = refl

pub gated-heavy : hopeless_at (13 ∷ []) (1 ∷ []) 12 0 ≡ true
gated-heavy = refl

pub gated-light : hopeless_at (13 ∷ []) (1 ∷ []) 13 0 ≡ false
gated-light = refl
