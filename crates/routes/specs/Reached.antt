-- What has been reached once some points of a route are read: the state of reading, and what a point does to it.
-- Assumes nothing.
use Rattle.std.specs.Prelude.{ℕ, ◌+◌, ◌<◌, ◌≡◌, refl, true, false, List, [], ◌∷◌, ◌++◌, Option, Some, Result, Ok, Err, length}
use Rattle.std.proofs.Common.{◌∙◌, sym, append_assoc, arith, length-append}
use Rattle.net.specs.declared.refusal.Refusal.{Refusal}
use Rattle.net.specs.declared.refusal.Refusal.TheVariants.{RoutePoint}
use Rattle.net.specs.Refusal.{refusal}
use Rattle.paths.specs.declared.Point.{Point}
use Rattle.paths.specs.Again.{stands_within}
use Rattle.paths.specs.AgainLaws.{passes, passes-more}
use Rattle.routes.specs.declared.Found.{Found}
use Rattle.routes.specs.declared.Node.{Node}
use Rattle.routes.specs.Nodes.{no_point, known, known_at, number_on, reach, nodes_from, point_refused, points_refusal}
use Rattle.routes.specs.Table.{TableHolds, found_at}
use Rattle.routes.specs.Reaching.{known-reach, known_at_reach, some_reached}

-- of all points of a route `points` have been read, and the rest is still to be read: the nodes found, the point before, and what the variables of reading hold.
-- Refusal and nodes of the route are those of the rest; what is known is what stands among the points read
pub record Reached (all rest : List Point) (points : ℕ) (found : Option Found) (table : List Node) : Type 0 where
  pub done : List Point
  pub nodes : List Node
  pub before : Point
  pub split : all ≡ done ++ rest
  pub many : points ≡ length done
  pub refused : points_refusal [] no_point all ≡ points_refusal nodes before rest
  pub reached : nodes_from [] no_point all ≡ nodes_from nodes before rest
  pub on : (x y layer : ℕ) → known nodes x y layer ≡ passes (stands_within x y layer layer) done
  pub at : (x y : ℕ) → known_at nodes x y ≡ passes (stands_within x y 0 255) done
  pub some : 0 < points → 0 < length nodes
  pub follows : found ≡ found_at nodes before
  pub holds : TableHolds nodes table

-- a point was taken: it is refused, or reading goes on behind it
abbrev pub Took : List Point → List Point → ℕ → Point → Result (Option Found) Refusal → List Node → Type 0
Took all rest points p (Ok found) table = Reached all rest (points + 1) found table
Took all rest points p (Err e) table = (e ≡ RoutePoint p.at) × (points_refusal [] no_point all ≡ refusal 18 p.at)

-- nothing read
pub start_reached : (all : List Point) (table : List Node) → Reached all all 0 (Some (record { count = 0; last = 0 })) table
unfolding known known_at number_on passes Rattle.laws.specs.Sum.any Rattle.laws.specs.Sum.lowest
start_reached all table =
    record {
      done = [];
      nodes = [];
      before = no_point;
      split = refl;
      many = refl;
      refused = refl;
      reached = refl;
      on = λ x y layer. refl;
      at = λ x y. refl;
      some = λ l. l;
      follows = refl;
      holds = record { entries = λ i l m. absurd (omega arith) };
    }

-- a point that is refused
pub here-refused : {all rest : List Point} {p : Point} {points : ℕ} {found : Option Found} {table : List Node} (r : Reached all (p ∷ rest) points found table)
    → point_refused r.nodes p ≡ true → points_refusal [] no_point all ≡ refusal 18 p.at
unfolding points_refusal
here-refused r h = rw (r.refused, h)

-- a point that is not refused
pub reached_more : {all rest : List Point} {p : Point} {points : ℕ} {found : Option Found} {table : List Node} (r : Reached all (p ∷ rest) points found table)
    → point_refused r.nodes p ≡ false → p.layer < 256
    → (found' : Option Found) (table' : List Node)
    → found' ≡ found_at (reach r.nodes r.before p) p
    → TableHolds (reach r.nodes r.before p) table'
    → Reached all rest (points + 1) found' table'
unfolding points_refusal nodes_from
reached_more {rest} {p} r u h found' table' c t =
    record {
      done = r.done ++ (p ∷ []);
      nodes = reach r.nodes r.before p;
      before = p;
      split = r.split ∙ sym (append_assoc r.done (p ∷ []) rest);
      many = rw r.many (sym (length-append r.done (p ∷ [])));
      refused = r.refused ∙ rw u;
      reached = r.reached;
      on = λ x y layer.
          rw (passes-more (stands_within x y layer layer) r.done p, ← r.on x y layer) (known-reach r.nodes r.before p x y layer);
      at = λ x y.
          rw (passes-more (stands_within x y 0 255) r.done p, ← r.at x y) (known_at_reach r.nodes r.before p x y h);
      some = λ o. some_reached r.nodes r.before p;
      follows = c;
      holds = t;
    }
