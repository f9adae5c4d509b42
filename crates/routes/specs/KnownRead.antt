-- A point is known on a layer if some point of the text stands there: what reading the text again tells.
-- Assumes nothing.
use Rattle.std.specs.Prelude.{ℕ, ◌≡◌, refl, ◌||◌, is_some, length}
use Rattle.std.proofs.Common.{◌∙◌}
use Rattle.std.proofs.Math.Path.{sym}
use Rattle.std.proofs.Math.Bool.{or_assoc}
use mathlib.Core.List.{List, [], ◌∷◌}
use Rattle.laws.specs.Sum.{any}
use Rattle.laws.specs.Sums.{or_false}
use Rattle.paths.specs.declared.Point.{Point}
use Rattle.paths.specs.Form.{points_of}
use Rattle.paths.specs.Again.{stands_within, first_read}
use Rattle.paths.specs.AgainLaws.{passes, first-whole}
use Rattle.routes.specs.declared.Node.{Node}
use Rattle.routes.specs.Nodes.{no_point, known, reach, nodes_from, route_nodes}
use Rattle.routes.specs.Reaching.{known-reach}

module _ (x y layer : ℕ) where
  known_from : (nodes : List Node) (before : Point) (points : List Point)
      → known (nodes_from nodes before points) x y layer ≡ (known nodes x y layer || passes (stands_within x y layer layer) points)
  unfolding nodes_from passes
  known_from nodes before [] = sym (or_false (known nodes x y layer) refl)
  known_from nodes before (p ∷ points) =
      let t = stands_within x y layer layer in
      rw (known_from (reach nodes before p) p points, known-reach nodes before p x y layer)
      (or_assoc (known nodes x y layer) (t p) (passes t points))

pub known_read : (text : List ℕ) (place x y layer : ℕ)
    → known (route_nodes text place) x y layer ≡ is_some (first_read text place (length (points_of text place)) x y layer layer)
unfolding route_nodes first_read known any
known_read text place x y layer =
    known_from x y layer [] no_point (points_of text place) ∙ sym (first-whole (stands_within x y layer layer) (points_of text place))
