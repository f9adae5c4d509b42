-- The table of the first 256 nodes of a route, and what reading a route hands out.
-- Assumes nothing.
use Rattle.std.specs.Prelude.{ℕ, ◌<◌, ◌≡◌, cond, List, Option, Some, None, Result, IfOk, ltb, length}
use Rattle.net.specs.declared.refusal.Refusal.{Refusal}
use Rattle.net.specs.Numbers.{checked}
use Rattle.net.specs.Layout.{most_nodes}
use Rattle.paths.specs.declared.Point.{Point}
use Rattle.paths.specs.Form.{points_of}
use Rattle.routes.specs.declared.Route.{Route}
use Rattle.routes.specs.declared.Found.{Found}
use Rattle.routes.specs.declared.Placed.{Placed}
use Rattle.routes.specs.declared.Placed.TheVariants.{Known, New}
use Rattle.routes.specs.declared.Node.{Node}
use Rattle.routes.specs.Nodes.{node_at, known, number_on, lowest_at, higher, point_refused, route_refusal, route_nodes, route_end}

-- the table has the first nodes
pub record TableHolds (nodes table : List Node) : Type 0 where
  pub entries : (i : ℕ) → i < length nodes → i < most_nodes → node_at table i ≡ node_at nodes i

-- how many nodes there are, where no more than a net may have
abbrev pub counted : ℕ → Option ℕ
counted n = cond (ltb most_nodes n) None (Some n)

-- the same with the node of the point before
abbrev pub found_at : List Node → Point → Option Found
found_at nodes before =
    cond (ltb most_nodes (length nodes)) None (Some (record { count = length nodes; last = number_on nodes before.x before.y before.layer }))

-- what a point does to the nodes found so far, where `last` is the node of the point before; none where 18 refuses it
abbrev pub placed : List Node → ℕ → Point → Option Placed
placed nodes last p =
    let via = lowest_at nodes p.x p.y in
    cond (point_refused nodes p) None
    (Some (cond (known nodes p.x p.y p.layer) (Known (number_on nodes p.x p.y p.layer))
    (New (cond p.first via last) (cond p.first (higher p.layer (node_at nodes via).layer) p.layer))))

-- a route that is met by neither 17 nor 18
pub record IsRoute (text : List ℕ) (from : ℕ) (r : Route) : Type 0 where
  pub end : r.end ≡ route_end text from
  pub points : r.points ≡ length (points_of text from)
  pub count : r.count ≡ counted (length (route_nodes text from))
  pub some : 0 < length (route_nodes text from)
  pub table : TableHolds (route_nodes text from) r.nodes

-- what reading the route from a place on hands out
pub record RouteRead (text : List ℕ) (from : ℕ) (r : Result Route Refusal) : Type 0 where
  pub verdict : checked r ≡ route_refusal text from
  pub route : IfOk r (IsRoute text from)
