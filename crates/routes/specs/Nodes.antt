-- The nodes of a route, the wires they hang by, and 18. Document 02, routes from DEF.
-- Assumes nothing.
use Rattle.std.specs.Prelude.{ℕ, Bool, false, not, ◌&&◌, cond, List, [], ◌∷◌, ◌++◌, Result, Ok, Err, eqb, ltb, length, get_or}
use Rattle.laws.specs.Sum.{any, lowest}
use Rattle.net.specs.Refusal.{Verdict, none, refusal, refused_if, or_else}
use Rattle.paths.specs.declared.Point.{Point}
use Rattle.paths.specs.declared.Wrong.{Wrong}
use Rattle.paths.specs.declared.Read.{Read}
use Rattle.paths.specs.declared.Read.TheVariants.{End, Whole}
use Rattle.paths.specs.Form.{points_of, ending_of}
use Rattle.routes.specs.declared.Node.{Node}

-- where there is no node
abbrev pub no_node : Node
no_node = record { x = 0; y = 0; layer = 0; parent = 0; wire = 0 }

abbrev pub node_at : List Node → ℕ → Node
node_at nodes i = get_or nodes i no_node

-- a node stands at x, y; and on a layer
abbrev pub stands_at : ℕ → ℕ → Node → Bool
stands_at x y n = eqb n.x x && eqb n.y y

abbrev pub stands_on : ℕ → ℕ → ℕ → Node → Bool
stands_on x y layer n = eqb n.layer layer && stands_at x y n

-- x, y is known on some layer; the lowest-numbered node of that point
unfoldable pub known_at : List Node → ℕ → ℕ → Bool
known_at nodes x y = any (length nodes) (λ i. stands_at x y (node_at nodes i))

unfoldable pub lowest_at : List Node → ℕ → ℕ → ℕ
lowest_at nodes x y = lowest (length nodes) (λ i. stands_at x y (node_at nodes i))

-- x, y on a layer is a node; its number
unfoldable pub known : List Node → ℕ → ℕ → ℕ → Bool
known nodes x y layer = any (length nodes) (λ i. stands_on x y layer (node_at nodes i))

unfoldable pub number_on : List Node → ℕ → ℕ → ℕ → ℕ
number_on nodes x y layer = lowest (length nodes) (λ i. stands_on x y layer (node_at nodes i))

abbrev pub higher : ℕ → ℕ → ℕ
higher a b = cond (ltb a b) b a

-- the node that a point makes: a path's first point hangs by a via of the higher layer on the lowest-numbered node of that point, a later one by a wire of the path's layer on the point before
unfoldable pub made_by : List Node → Point → Point → Node
made_by nodes before p =
    let via = lowest_at nodes p.x p.y in
    record {
      x = p.x;
      y = p.y;
      layer = p.layer;
      parent = cond p.first via (number_on nodes before.x before.y before.layer);
      wire = cond p.first (higher p.layer (node_at nodes via).layer) p.layer;
    }

-- nodes are numbered as the text first reaches them
unfoldable pub reach : List Node → Point → Point → List Node
reach nodes before p = cond (known nodes p.x p.y p.layer) nodes (nodes ++ (made_by nodes before p ∷ []))

unfoldable pub nodes_from : List Node → Point → List Point → List Node
nodes_from nodes before [] = nodes
nodes_from nodes before (p ∷ points) = nodes_from (reach nodes before p) p points

-- 18: a path after the first starts at an unknown point, or a later point of a path is already a node on that layer; the place is the byte of its `(`
unfoldable pub point_refused : List Node → Point → Bool
point_refused nodes p =
    cond p.first (not (eqb (length nodes) 0) && not (known_at nodes p.x p.y)) (known nodes p.x p.y p.layer)

unfoldable pub points_refusal : List Node → Point → List Point → Verdict
points_refusal nodes before [] = none
points_refusal nodes before (p ∷ points) = or_else (refused_if (point_refused nodes p) 18 p.at) (points_refusal (reach nodes before p) p points)

-- 17: the text leaves the form
unfoldable pub form_refusal : Result Read Wrong → Verdict
form_refusal (Err w) = refusal 17 w.0
form_refusal (Ok read) = none

-- before the first point there is none
abbrev pub no_point : Point
no_point = record { at = 0; layer = 0; first = false; x = 0; y = 0 }

-- of 17 and 18 the one earlier in the text: each whole point stands before the word that leaves the form
unfoldable pub route_refusal : List ℕ → ℕ → Verdict
route_refusal text place = or_else (points_refusal [] no_point (points_of text place)) (form_refusal (ending_of text place))

-- the nodes of the route from a place on, and the place after its `;`
unfoldable pub route_nodes : List ℕ → ℕ → List Node
route_nodes text place = nodes_from [] no_point (points_of text place)

unfoldable pub end_of : Result Read Wrong → ℕ
end_of (Err w) = w.0
end_of (Ok (End next)) = next
end_of (Ok (Whole p next)) = next

unfoldable pub route_end : List ℕ → ℕ → ℕ
route_end text place = end_of (ending_of text place)
