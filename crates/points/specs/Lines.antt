-- Laws of the points of a wire, on both axes, and of the search along its line.
-- Assumes nothing.
use Rattle.std.specs.Prelude.{ℕ, ◌<◌, ◌≤◌, ◌≡◌, ◌⊎◌, Bool, true, false, ◌&&◌, List, get_or, leb, ltb, Option, None, Some}
use Rattle.std.proofs.Common.{sym, ◌∙◌, arith, ltb-true, ltb-false, leb-true, leb-false}
use Rattle.std.proofs.lemmas.Bool.Decides.{nat_tests}
use Rattle.laws.specs.Sum.{any}
use Rattle.laws.specs.Sums.{by, and_left, and_right, and_intro, any-yes, any_none}
use Rattle.net.specs.Layout.{newest}
use Rattle.net.specs.Net.{node_x, node_y, wire_parent, wire_length, obstacle_x1, obstacle_y1, obstacle_x2, obstacle_y2, obstacle_layer, obstacle_count, wire_layer, near, barred}
use Rattle.net.specs.declared.fields.Obstacle.{Obstacle}
use Rattle.points.specs.Cuttable.{Checked, Highest, Lowest, LastBelow, FirstAbove}
use Rattle.points.specs.Geometry.{heading, stepped, Reach, reach_less, last_below, first_above, between, axis_below, axis_above, both_below, both-above, reach-x, reach-y, point_x_is, point_y_is}
use Rattle.points.specs.declared.line.Line.{Line}
use Rattle.points.specs.declared.line.Point.{Point}

-- the line of wire i
abbrev pub line_of : List ℕ → List ℕ → ℕ → Line
line_of nodes wires i =
    record {
      layer = wire_layer wires i;
      x = record { from = node_x nodes i; step = heading (node_x nodes i) (node_x nodes (wire_parent wires i)) };
      y = record { from = node_y nodes i; step = heading (node_y nodes i) (node_y nodes (wire_parent wires i)) };
    }

-- every coordinate of a line up to t steps is a number of 16 bits
pub record Reaches (line : Line) (t : ℕ) : Type 0 where
  pub x : Reach line.x.from line.x.step t
  pub y : Reach line.y.from line.y.step t

pub reaches_less : {line : Line} {t s : ℕ} → Reaches line t → s ≤ t → Reaches line s
reaches_less {line} r l = record { x = reach_less r.x l; y = reach_less r.y l }

-- the point t steps on
abbrev pub point_on : Line → ℕ → Point
point_on line t = record { x = stepped line.x.from line.x.step t; y = stepped line.y.from line.y.step t }

-- the line of an accepted wire, as far as its length
pub reaches_of : (nodes wires : List ℕ) (i t : ℕ) → ((k : ℕ) → get_or nodes k 0 < 256) → Checked nodes wires i → t ≤ wire_length nodes wires i → Reaches (line_of nodes wires i) t
reaches_of nodes wires i t bytes w l = record { x = reach-x nodes wires i bytes w l; y = reach-y nodes wires i bytes w l }

-- an obstacle holds a point, its border included
abbrev pub covers : Obstacle → Point → Bool
covers o p = between o.x1 o.x2 p.x && between o.y1 o.y2 p.y

-- an obstacle's stretch of a line, on both axes
pub obstacle-below : (o : Obstacle) (line : Line) {a b r : ℕ} →
    a ≡ last_below line.x.from line.x.step o.x1 o.x2 → b ≡ last_below line.y.from line.y.step o.y1 o.y2 →
    a ≤ r → b ≤ r → (r ≡ a) ⊎ (r ≡ b) → LastBelow (λ t. covers o (point_on line t)) r
obstacle-below o line ea eb l m c =
    both_below
    (rw (← ea) at (axis_below line.x.from line.x.step o.x1 o.x2))
    (rw (← eb) at (axis_below line.y.from line.y.step o.y1 o.y2))
    l
    m
    c

pub obstacle-above : (o : Obstacle) (line : Line) (end : ℕ) {a b r : ℕ} → Reaches line end →
    a ≡ first_above line.x.from line.x.step o.x1 o.x2 end → b ≡ first_above line.y.from line.y.step o.y1 o.y2 end →
    r ≤ a → r ≤ b → (r ≡ a) ⊎ (r ≡ b) → FirstAbove (λ t. covers o (point_on line t)) end r
obstacle-above o line end reach ea eb l m c =
    both-above
    (rw (← ea) at (axis_above o.x1 o.x2 reach.x))
    (rw (← eb) at (axis_above o.y1 o.y2 reach.y))
    l
    m
    c

-- obstacle k bars the point x, y to a wire of a layer, under a clearance
abbrev pub bars : ℕ → ℕ → List ℕ → ℕ → ℕ → ℕ → ℕ → Bool
bars version clearance obstacles layer k x y = near version clearance obstacles k x y && leb layer (obstacle_layer version obstacles k)

-- o is obstacle k
pub record IsObstacle (version : ℕ) (obstacles : List ℕ) (k : ℕ) (o : Obstacle) : Type 0 where
  pub x1 : o.x1 ≡ obstacle_x1 version obstacles k
  pub y1 : o.y1 ≡ obstacle_y1 version obstacles k
  pub x2 : o.x2 ≡ obstacle_x2 version obstacles k
  pub y2 : o.y2 ≡ obstacle_y2 version obstacles k
  pub layer : o.layer ≡ obstacle_layer version obstacles k

pub covers_is : {version : ℕ} {obstacles : List ℕ} {k : ℕ} {o : Obstacle} → IsObstacle version obstacles k o → (p : Point) → covers o p ≡ near version 0 obstacles k p.x p.y
unfolding near
covers_is e p = rw (e.x1, e.x2, e.y1, e.y2) (grind (arith, nat_tests))

pub bars_is : {version : ℕ} {obstacles : List ℕ} {k : ℕ} {o : Obstacle} → IsObstacle version obstacles k o → (layer : ℕ) (p : Point) → (covers o p && leb layer o.layer) ≡ bars version 0 obstacles layer k p.x p.y
bars_is e layer p = rw (covers_is e p, e.layer)

-- o is one of the obstacles, and bars the point t steps on
pub record BarredBy (obstacles : List ℕ) (line : Line) (t : ℕ) (o : Obstacle) : Type 0 where
  pub k : ℕ
  pub inside : k < obstacle_count newest obstacles
  pub is : IsObstacle newest obstacles k o
  pub barring : bars newest 0 obstacles line.layer k (point_on line t).x (point_on line t).y ≡ true

-- some obstacle bars the point t steps on
unfoldable pub barred_at : ℕ → ℕ → List ℕ → Line → ℕ → Bool
barred_at version clearance obstacles line t =
    any (obstacle_count version obstacles) (λ k. bars version clearance obstacles line.layer k (point_on line t).x (point_on line t).y)

pub barred_is : (version clearance : ℕ) (nodes wires obstacles : List ℕ) (i t : ℕ) →
    barred_at version clearance obstacles (line_of nodes wires i) t ≡ barred version clearance nodes wires obstacles i t
unfolding barred_at barred
barred_is version clearance nodes wires obstacles i t = rw (point_x_is nodes wires i t, point_y_is nodes wires i t)

-- none before the first that passes a test does
pub first-none : (n r : ℕ) (f : ℕ → Bool) → ((j : ℕ) → j < r → f j ≡ false) → n ≤ r → any n f ≡ false
first-none n r f before l = any_none n f (λ j h. before j (omega arith))

-- an obstacle that bars a position is left behind in one step
module _ (obstacles : List ℕ) (line : Line) (t : ℕ) {o : Obstacle} (b : BarredBy obstacles line t o) where
  -- it holds that position, and it bars every position that it holds
  held : covers o (point_on line t) ≡ true
  held =
      covers_is b.is (point_on line t)
      ∙ and_left (near newest 0 obstacles b.k (point_on line t).x (point_on line t).y) (leb line.layer (obstacle_layer newest obstacles b.k)) b.barring

  bars-held : (s : ℕ) → covers o (point_on line s) ≡ true → barred_at newest 0 obstacles line s ≡ true
  unfolding barred_at
  bars-held s g =
      any-yes (obstacle_count newest obstacles) b.k (λ k. bars newest 0 obstacles line.layer k (point_on line s).x (point_on line s).y) b.inside
      (and_intro (sym (covers_is b.is (point_on line s)) ∙ g)
      (and_right (near newest 0 obstacles b.k (point_on line t).x (point_on line t).y) (leb line.layer (obstacle_layer newest obstacles b.k)) b.barring))

  pub leap_down : {r last : ℕ} → 0 < t →
      LastBelow (λ t. covers o (point_on line t)) r →
      ((s : ℕ) → t < s → s ≤ last → barred_at newest 0 obstacles line s ≡ true) → (r < t) × ((s : ℕ) → r < s → s ≤ last → barred_at newest 0 obstacles line s ≡ true)
  leap_down p below passed =
      let z = below t p held in
      (z.0, λ s l m. by (leb s t) (λ u. bars-held s (z.1 s l (leb-true s t u))) (λ u. passed s (leb-false s t u) m))

  pub leap_up : {r first end : ℕ} → t < end →
      FirstAbove (λ t. covers o (point_on line t)) end r →
      ((s : ℕ) → first ≤ s → s < t → barred_at newest 0 obstacles line s ≡ true) → (t < r) × ((s : ℕ) → first ≤ s → s < r → barred_at newest 0 obstacles line s ≡ true)
  leap_up p above passed =
      let z = above t p held in
      (z.0, λ s l m. by (ltb s t) (λ u. passed s l (ltb-true s t u)) (λ u. bars-held s (z.1 s (ltb-false s t u) m)))

-- a search that speaks of the same test
pub highest_ap : {b d : ℕ → Bool} (x : ℕ) (r : Option ℕ) → ((t : ℕ) → b t ≡ d t) → Highest b x r → Highest d x r
highest_ap x None e h = λ t p l. sym (e t) ∙ h t p l
highest_ap x (Some r) e h =
    record { positive = h.positive; within = h.within; free = sym (e r) ∙ h.free; above = λ t l m. sym (e t) ∙ h.above t l m }

pub lowest_ap : {b d : ℕ → Bool} (x end : ℕ) (r : Option ℕ) → ((t : ℕ) → b t ≡ d t) → Lowest b x end r → Lowest d x end r
lowest_ap x end None e h = λ t l m. sym (e t) ∙ h t l m
lowest_ap x end (Some r) e h =
    record { from = h.from; within = h.within; free = sym (e r) ∙ h.free; below = λ t l m. sym (e t) ∙ h.below t l m }
