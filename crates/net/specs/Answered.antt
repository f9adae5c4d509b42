-- A refusal of the enumeration as the number and place that it is met by, and what is answered then.
-- Assumes nothing.
use Rattle.std.specs.Prelude.{ℕ, ◌≡◌, refl, true, Err, Ok}
use Rattle.net.specs.declared.refusal.Refusal.{Refusal}
use Rattle.net.specs.declared.refusal.Refusal.TheVariants.{StageOutside, Head, Pairs, NodeSection, WireSection, ObstacleSection, NodeFlags, WireParent, WireLayerOrFactor, WireOblique, ObstacleCorners, ListOrder, JumperOutside, JumperBarred, NoLegalSet, LentBuffer, RouteForm, RoutePoint, Pin, ObstacleLayer}
use Rattle.net.specs.Refusal.{none, refusal, met, answer}
use Rattle.net.specs.Numbers.{number_of, place_of, answered}

-- a refusal is met: its number is not 0
pub met_refusal : (r : Refusal) → met (refusal (number_of r) (place_of r)) ≡ true
met_refusal StageOutside = refl
met_refusal Head = refl
met_refusal Pairs = refl
met_refusal NodeSection = refl
met_refusal WireSection = refl
met_refusal ObstacleSection = refl
met_refusal (NodeFlags _) = refl
met_refusal (WireParent _) = refl
met_refusal (WireLayerOrFactor _) = refl
met_refusal (WireOblique _) = refl
met_refusal (ObstacleCorners _) = refl
met_refusal (ListOrder _) = refl
met_refusal (JumperOutside _) = refl
met_refusal (JumperBarred _) = refl
met_refusal NoLegalSet = refl
met_refusal (LentBuffer _) = refl
met_refusal (RouteForm _) = refl
met_refusal (RoutePoint _) = refl
met_refusal (Pin _) = refl
met_refusal (ObstacleLayer _) = refl

pub answered_err : (r : Refusal) (n : ℕ) → answered (Err r) ≡ answer (refusal (number_of r) (place_of r)) n
unfolding answer
answered_err r n = rw (met_refusal r)

pub answered_ok : (n : ℕ) → answered (Ok n) ≡ answer none n
unfolding answer
answered_ok n = refl
