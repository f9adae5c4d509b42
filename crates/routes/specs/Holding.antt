-- Laws of the table as nodes are put into it.
-- Assumes nothing.
use Rattle.std.specs.Prelude.{ℕ, Bool, true, false, cond, ltb, ◌≡◌, ◌<◌, ◌≤◌, List, [], ◌∷◌, ◌++◌, length, take, set}
use Rattle.std.proofs.Common.{ltb-true, ltb-false, ◌∙◌, ⊎_elim, arith, ext_get_or, get_or-set_same, get_or-set_other}
use Rattle.std.proofs.Math.Seq.{get_or-take}
use Rattle.std.proofs.Math.ListN.{get_or-eq_default}
use Rattle.laws.specs.Sums.{by, last_or_below}
use Rattle.net.specs.Layout.{most_nodes}
use Rattle.routes.specs.declared.Node.{Node}
use Rattle.paths.specs.declared.Point.{Point}
use Rattle.routes.specs.Nodes.{node_at, lowest_at, made_by, no_node}
use Rattle.routes.specs.Table.{TableHolds}
use Rattle.routes.specs.Reaching.{length_more, node-before, node_at_end, number-most, lowest_at_most}

module _ {nodes table : List Node} (h : TableHolds nodes table) where
  -- the nodes that it has
  pub holds_all : length nodes ≤ most_nodes → length (take (length nodes) table) ≡ length nodes → take (length nodes) table ≡ nodes
  holds_all l n =
      ext_get_or no_node (take (length nodes) table) nodes n
      (λ i k. let m : i < length nodes = omega arith in get_or-take (length nodes) table i no_node m ∙ h.entries i m (omega arith))

  -- one node more: stored behind the others, or past the table
  module _ (n : Node) where
    pub holds_past : most_nodes ≤ length nodes → TableHolds (nodes ++ (n ∷ [])) table
    holds_past f = record { entries = λ i l m. rw (node-before nodes n i (omega arith)) (h.entries i (omega arith) m) }

    pub holds-stored : length nodes < length table → TableHolds (nodes ++ (n ∷ [])) (set table (length nodes) n)
    holds-stored k =
        record {
          entries = λ i l m.
              ⊎_elim
              (λ e. rw (node_at_end nodes n i e, e) (get_or-set_same table (length nodes) n no_node k))
              (λ b. rw (node-before nodes n i b) (get_or-set_other table (length nodes) i n no_node (λ e. omega arith) ∙ h.entries i b m))
              (last_or_below i (length nodes) (omega (arith, length_more nodes n)));
        }

-- the fields of a node fit their bits
pub record Fits (n : Node) : Type 0 where
  pub x : n.x < 65536
  pub y : n.y < 65536
  pub layer : n.layer < 256
  pub parent : n.parent < 256
  pub wire : n.wire < 256

cond_below : (t : Bool) {a b m : ℕ} → a < m → b < m → cond t a b < m
cond_below true p q = p
cond_below false p q = q

-- the node that a point makes fits, where there is room for it
pub made_fits : (nodes : List Node) → ((i : ℕ) → i < length nodes → (node_at nodes i).layer < 256) → length nodes < most_nodes
    → (before p : Point) → p.x < 65536 → p.y < 65536 → p.layer < 256 → Fits (made_by nodes before p)
unfolding made_by
made_fits nodes fits l before p a b c =
    let via = lowest_at nodes p.x p.y in
    let held : (node_at nodes via).layer < 256 =
    by (ltb via (length nodes))
    (λ y. fits via (ltb-true via (length nodes) y))
    (λ z. rw (get_or-eq_default nodes no_node {n = via} (ltb-false via (length nodes) z)) (omega arith))
    in
    record {
      x = a;
      y = b;
      layer = c;
      parent = cond_below p.first (omega (arith, lowest_at_most nodes p.x p.y)) (omega (arith, number-most nodes before.x before.y before.layer));
      wire = cond_below p.first (cond_below (ltb p.layer (node_at nodes via).layer) held c) c;
    }
