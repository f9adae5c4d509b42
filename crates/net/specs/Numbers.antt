-- The refusals by their numbers and places, as document 01's and document 02's tables have them, and what a call answers.
-- Assumes nothing.
use Rattle.std.specs.Prelude.{ℕ, Result, Ok, Err}
use Rattle.net.specs.declared.refusal.Refusal.{Refusal}
use Rattle.net.specs.declared.refusal.Refusal.TheVariants.{StageOutside, Head, Pairs, NodeSection, WireSection, ObstacleSection, NodeFlags, WireParent, WireLayerOrFactor, WireOblique, ObstacleCorners, ListOrder, JumperOutside, JumperBarred, NoLegalSet, LentBuffer, RouteForm, RoutePoint, Pin, ObstacleLayer}
use Rattle.net.specs.declared.Answer.{Answer}
use Rattle.net.specs.Refusal.{Verdict, none, refusal}

abbrev pub number_of : Refusal → ℕ
number_of StageOutside = 1
number_of Head = 2
number_of Pairs = 3
number_of NodeSection = 4
number_of WireSection = 5
number_of ObstacleSection = 6
number_of (NodeFlags _) = 7
number_of (WireParent _) = 8
number_of (WireLayerOrFactor _) = 9
number_of (WireOblique _) = 10
number_of (ObstacleCorners _) = 11
number_of (ListOrder _) = 12
number_of (JumperOutside _) = 13
number_of (JumperBarred _) = 14
number_of NoLegalSet = 15
number_of (LentBuffer _) = 16
number_of (RouteForm _) = 17
number_of (RoutePoint _) = 18
number_of (Pin _) = 19
number_of (ObstacleLayer _) = 20

-- the record, the bytes needed or the place in the text; else 0
abbrev pub place_of : Refusal → ℕ
place_of (NodeFlags i) = i
place_of (WireParent i) = i
place_of (WireLayerOrFactor i) = i
place_of (WireOblique i) = i
place_of (ObstacleCorners i) = i
place_of (ListOrder i) = i
place_of (JumperOutside i) = i
place_of (JumperBarred i) = i
place_of (LentBuffer i) = i
place_of (RouteForm i) = i
place_of (RoutePoint i) = i
place_of (Pin i) = i
place_of (ObstacleLayer i) = i
place_of _ = 0

-- what a call answers: done with a count, or a refusal with its place
abbrev pub answered : Result ℕ Refusal → Answer
answered (Ok n) = record { number = 0; place = 0; count = n }
answered (Err r) = record { number = number_of r; place = place_of r; count = 0 }

-- what a check meets
abbrev pub checked : {T : Type 0} → Result T Refusal → Verdict
checked (Ok _) = none
checked (Err r) = refusal (number_of r) (place_of r)
