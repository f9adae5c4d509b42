-- The nodes of a route: one stands where a point of the route does, and no two stand on one point of a layer.
-- Assumes nothing.
use Rattle.std.specs.Prelude.{ℕ, ◌<◌, ◌≡◌, refl, true, false, List, [], ◌∷◌, ◌++◌, eqb, length}
use Rattle.std.proofs.Common.{◌∙◌, sym, ap, ⊎_elim, arith, eqb-true, eq-eqb}
use Rattle.laws.specs.Sums.{by, and_intro, and_left, and_right, any-no, last_or_below, lowest_is}
use Rattle.paths.specs.declared.Point.{Point}
use Rattle.paths.specs.Form.{points_of}
use Rattle.paths.specs.Again.{first_read, stands_within}
use Rattle.paths.specs.AgainLaws.{passes, first-whole}
use Rattle.routes.specs.declared.Node.{Node}
use Rattle.routes.specs.Nodes.{node_at, stands_at, stands_on, known, number_on, made_by, reach, nodes_from, no_point, route_nodes}
use Rattle.routes.specs.KnownRead.{known_read}
use Rattle.routes.specs.Reaching.{length_more, node-before, node_at_end, reach-known, reach-new}

-- where node i stands, no node before it does
abbrev Distinct : List Node → Type 0
Distinct nodes = (x y layer i j : ℕ) → j < i → i < length nodes → stands_on x y layer (node_at nodes i) ≡ true → stands_on x y layer (node_at nodes j) ≡ false

more : (nodes : List Node) (n : Node) → known nodes n.x n.y n.layer ≡ false → Distinct nodes → Distinct (nodes ++ (n ∷ []))
unfolding known
more nodes n u d x y layer i j p q s =
    let on = stands_on x y layer in
    let m = length_more nodes n in
    let old : on (node_at (nodes ++ (n ∷ [])) j) ≡ on (node_at nodes j) = ap on (node-before nodes n j (omega arith)) in
    ⊎_elim
    (λ e.
    let t : on n ≡ true = sym (ap on (node_at_end nodes n i e)) ∙ s in
    let b = and_right (eqb n.layer layer) (stands_at x y n) t in
    let a = eqb-true n.layer layer (and_left (eqb n.layer layer) (stands_at x y n) t) in
    let f = eqb-true n.x x (and_left (eqb n.x x) (eqb n.y y) b) in
    let g = eqb-true n.y y (and_right (eqb n.x x) (eqb n.y y) b) in
    old ∙ rw (← a, ← f, ← g) (any-no (length nodes) j (λ k. stands_on n.x n.y n.layer (node_at nodes k)) u (omega arith)))
    (λ l. old ∙ d x y layer i j p l (sym (ap on (node-before nodes n i l)) ∙ s))
    (last_or_below i (length nodes) (omega arith))

reach_distinct : (nodes : List Node) (before p : Point) → Distinct nodes → Distinct (reach nodes before p)
unfolding made_by
reach_distinct nodes before p d =
    by (known nodes p.x p.y p.layer)
    (λ k. rw (reach-known nodes before p k) d)
    (λ u. rw (reach-new nodes before p u) (more nodes (made_by nodes before p) u d))

from_distinct : (nodes : List Node) (before : Point) (points : List Point) → Distinct nodes → Distinct (nodes_from nodes before points)
unfolding nodes_from
from_distinct nodes before [] d = d
from_distinct nodes before (p ∷ points) d = from_distinct (reach nodes before p) p points (reach_distinct nodes before p d)

-- a node that stands there is the one that is found there
pub stands-alone : (text : List ℕ) (place x y layer i : ℕ) → i < length (route_nodes text place) → stands_on x y layer (node_at (route_nodes text place) i) ≡ true
    → number_on (route_nodes text place) x y layer ≡ i
unfolding route_nodes number_on
stands-alone text place x y layer i h s =
    lowest_is (length (route_nodes text place)) i (λ k. stands_on x y layer (node_at (route_nodes text place) k)) h s
    (λ j l. from_distinct [] no_point (points_of text place) (λ a b c k m p q r. absurd (omega arith)) x y layer i j l h s)

stands : (n m : Node) → n.x ≡ m.x → n.y ≡ m.y → n.layer ≡ m.layer → stands_on m.x m.y m.layer n ≡ true
stands n m p q r = and_intro (eq-eqb _ _ r) (and_intro (eq-eqb _ _ p) (eq-eqb _ _ q))

-- no two nodes on one point of a layer
pub one-node : (text : List ℕ) (place i j : ℕ) → i < length (route_nodes text place) → j < length (route_nodes text place)
    → (node_at (route_nodes text place) i).x ≡ (node_at (route_nodes text place) j).x
    → (node_at (route_nodes text place) i).y ≡ (node_at (route_nodes text place) j).y
    → (node_at (route_nodes text place) i).layer ≡ (node_at (route_nodes text place) j).layer → i ≡ j
one-node text place i j h k p q r =
    let n = node_at (route_nodes text place) i in
    let m = node_at (route_nodes text place) j in
    sym (stands-alone text place m.x m.y m.layer i h (stands n m p q r))
    ∙ stands-alone text place m.x m.y m.layer j k (stands m m refl refl refl)

-- a node on each point on a layer that the route reaches, and on no other
pub node-points : (text : List ℕ) (place x y layer : ℕ) → known (route_nodes text place) x y layer ≡ passes (stands_within x y layer layer) (points_of text place)
unfolding first_read
node-points text place x y layer = known_read text place x y layer ∙ first-whole (stands_within x y layer layer) (points_of text place)
