-- What the nodes of a route that is not refused hang on and by: a node with a lower number, and a layer from 1 to 16.
-- Assumes nothing.
use Rattle.std.specs.Prelude.{ℕ, ◌<◌, ◌≤◌, ◌≡◌, refl, true, false, List, [], ◌∷◌, ltb, length}
use Rattle.std.proofs.Common.{◌∙◌, ⊎_elim, arith}
use Rattle.std.proofs.Math.ListN.{get_or-eq_default}
use borrow.Author.Tests.{ne_eqb, ltb-true, ltb-false, not-false}
use Rattle.laws.specs.Sums.{by, last_or_below}
use Rattle.net.specs.Layout.{most_layers}
use Rattle.net.specs.Refusal.{met, refused_if}
use Rattle.net.specs.First.{unmet_if, unmet_l, unmet_r}
use Rattle.paths.specs.declared.Point.{Point}
use Rattle.paths.specs.Form.{points_of, ending_of}
use Rattle.paths.specs.FormLaws.{InRange, AllInRange, points_in_range}
use Rattle.routes.specs.declared.Node.{Node}
use Rattle.routes.specs.Nodes.{no_node, no_point, node_at, known, lowest_at, higher, made_by, reach, nodes_from, route_nodes, point_refused, points_refusal, form_refusal, route_refusal}
use Rattle.routes.specs.Placing.{number-below, lowest_at_below}
use Rattle.routes.specs.Reaching.{length_more, node-before, node_at_end, reach-known, reach-new, reached_known}

-- node i
pub record Hung (i : ℕ) (n : Node) : Type 0 where
  pub parent : 0 < i → n.parent < i
  pub layer : n.layer ≤ most_layers
  pub wire_low : 0 < n.wire
  pub wire_high : n.wire ≤ most_layers

abbrev AllHung : List Node → Type 0
AllHung nodes = (i : ℕ) → i < length nodes → Hung i (node_at nodes i)

-- the higher of two layers
higher-low : (a b : ℕ) → 0 < a → 0 < higher a b
higher-low a b h = by (ltb a b) (λ y. let q = ltb-true a b y in rw y (omega arith)) (λ z. rw z h)

higher-high : (a b : ℕ) → a ≤ most_layers → b ≤ most_layers → higher a b ≤ most_layers
higher-high a b h k = by (ltb a b) (λ y. rw y k) (λ z. rw z h)

layer_high : (nodes : List Node) → AllHung nodes → (i : ℕ) → (node_at nodes i).layer ≤ most_layers
layer_high nodes h i =
    by (ltb i (length nodes))
    (λ y. (h i (ltb-true i (length nodes) y)).layer)
    (λ z. rw (get_or-eq_default nodes no_node {n = i} (ltb-false i (length nodes) z)) (omega arith))

-- one point more: its node hangs as well, and it is known
module _ (nodes : List Node) (h : AllHung nodes) (before : Point) (here : 0 < length nodes → known nodes before.x before.y before.layer ≡ true)
    (p : Point) (range : InRange p) (u : point_refused nodes p ≡ false) where
  made_hung : Hung (length nodes) (made_by nodes before p)
  unfolding made_by point_refused
  made_hung =
      let b = (node_at nodes (lowest_at nodes p.x p.y)).layer in
      by p.first
      (λ f.
      record {
        parent = λ s.
            let k = rw (f, ne_eqb (length nodes) 0 (λ e. omega arith)) at u in
            rw f (ltb-true _ _ (lowest_at_below nodes p.x p.y ∙ not-false _ k));
        layer = range.layer_high;
        wire_low = rw f (higher-low p.layer b range.layer_low);
        wire_high = rw f (higher-high p.layer b range.layer_high (layer_high nodes h _));
      })
      (λ f.
      record {
        parent = λ s. rw f (ltb-true _ _ (number-below nodes before.x before.y before.layer ∙ here s));
        layer = range.layer_high;
        wire_low = rw f range.layer_low;
        wire_high = rw f range.layer_high;
      })

  reach-hung : AllHung (reach nodes before p)
  reach-hung =
      by (known nodes p.x p.y p.layer)
      (λ k. rw (reach-known nodes before p k) h)
      (λ k.
      let n = made_by nodes before p in
      rw (reach-new nodes before p k)
      (λ i l.
      ⊎_elim
      (λ e. rw (node_at_end nodes n i e, e) made_hung)
      (λ b. rw (node-before nodes n i b) (h i b))
      (last_or_below i (length nodes) (omega (arith, length_more nodes n)))))

from-hung : (nodes : List Node) (before : Point) (points : List Point) → AllHung nodes
    → (0 < length nodes → known nodes before.x before.y before.layer ≡ true)
    → AllInRange points → met (points_refusal nodes before points) ≡ false → AllHung (nodes_from nodes before points)
unfolding nodes_from points_refusal AllInRange
from-hung nodes before [] h k f u = h
from-hung nodes before (p ∷ points) h k f u =
    let a = refused_if (point_refused nodes p) 18 p.at in
    let b = points_refusal (reach nodes before p) p points in
    from-hung (reach nodes before p) p points
    (reach-hung nodes h before k p f.0 (unmet_if (point_refused nodes p) 18 p.at refl (unmet_l a b u)))
    (λ o. reached_known nodes before p)
    f.1
    (unmet_r a b u)

pub nodes-hung : (text : List ℕ) (place : ℕ) → met (route_refusal text place) ≡ false
    → (i : ℕ) → i < length (route_nodes text place) → Hung i (node_at (route_nodes text place) i)
unfolding route_refusal route_nodes
nodes-hung text place u =
    from-hung [] no_point (points_of text place) (λ i l. absurd (omega arith)) (λ o. absurd (omega arith)) (points_in_range text place)
    (unmet_l (points_refusal [] no_point (points_of text place)) (form_refusal (ending_of text place)) u)
