-- Theorem: which numbers the call can answer with. 5, 8 and 9 never: the wire section that it makes has its right length, each parent in it is below its wire, layers are 1 to 16 and factors 1. Nor 2 and 20: the call writes version 1, whose obstacles read as layer 16.
-- Assumes nothing.
use Rattle.std.specs.Prelude.{ℕ, zero, suc, ◌+◌, ◌-◌, ◌*◌, ◌%◌, ◌<◌, ◌≡◌, refl, Bool, true, false, ◌&&◌, ◌||◌, List, [], ◌∷◌, Result, Ok, Err, eqb, length}
use Rattle.std.proofs.Math.Bool.{not}
use Rattle.std.proofs.Math.Nat.{add-zero}
use native.Mathlib.Omega.{arith}
use Rattle.std.proofs.Math.Dec.{ltb}
use borrow.Author.Tests.{eq-eqb, ne_eqb, lt-ltb, le-ltb}
use Rattle.laws.specs.Sums.{by}
use Rattle.laws.specs.Gathers.{record_of_lem}
use Rattle.net.specs.Layout.{node_bytes, wire_bytes, obstacle_bytes, most_nodes, most_obstacles, most_layers, most_flags}
use Rattle.net.specs.Net.{node_count, node_x, node_y, node_flags, wire_parent, wire_layer, wire_factor, obstacle_count, obstacle_x1, obstacle_y1, obstacle_x2, obstacle_y2}
use Rattle.net.specs.File.{file_bytes}
use Rattle.net.specs.Refusal.{Verdict, refused_if, met, or_else, first_of, sections_refusal, node_refusal, wire_refusal, obstacle_refusal, is_version, net_refusal, write_refusal}
use Rattle.paths.specs.declared.Point.{Point}
use Rattle.paths.specs.declared.Read.{Read}
use Rattle.paths.specs.declared.Wrong.{Wrong}
use Rattle.paths.specs.Form.{points_of, ending_of}
use Rattle.routes.specs.declared.Node.{Node}
use Rattle.routes.specs.Nodes.{node_at, known, no_point, reach, point_refused, points_refusal, form_refusal, route_refusal, route_nodes}
use Rattle.routes.specs.Hanging.{Hung, nodes-hung}
use Rattle.def.specs.Pins.{pin_bytes, pin_x, pin_y, pin_layer, pin_count, pin_refusal, pins_refusal}
use Rattle.def.specs.Sections.{node_section, wire_record, wire_section}
use Rattle.def.specs.Sectioning.{nodes-count, wires_length}
use Rattle.def.specs.Promise.{def_refusal, def_answer}

-- a number stands in a list
abbrev pub is_one_of : ℕ → List ℕ → Bool
is_one_of n [] = false
is_one_of n (m ∷ l) = eqb n m || is_one_of n l

-- done, and refused by 4 to 11 without 5, 8 and 9, or by 16 to 19
abbrev pub def_numbers : List ℕ
def_numbers = 0 ∷ 4 ∷ 6 ∷ 7 ∷ 10 ∷ 11 ∷ 16 ∷ 17 ∷ 18 ∷ 19 ∷ []

-- what a condition answers stands in it
record Listed (r : Verdict) : Type 0 where
  number : is_one_of r.number def_numbers ≡ true

-- conditions in order
listed_if : (t : Bool) (n p : ℕ) → is_one_of n def_numbers ≡ true → Listed (refused_if t n p)
listed_if true n p h = record { number = h }
listed_if false n p h = record { number = refl }

listed-or : {a b : Verdict} → Listed a → (met a ≡ false → Listed b) → Listed (or_else a b)
listed-or {a} p q = by (met a) (λ y. rw y p) (λ z. rw z (q z))

listed-first : (n : ℕ) {f : ℕ → Verdict} → ((i : ℕ) → i < n → Listed (f i)) → Listed (first_of n f)
unfolding first_of
listed-first zero h = record { number = refl }
listed-first (suc n) h = listed-or (listed-first n (λ i l. h i (omega arith))) (λ u. h n (omega arith))

-- 17 and 18
points-listed : (nodes : List Node) (before : Point) (points : List Point) → Listed (points_refusal nodes before points)
unfolding points_refusal
points-listed nodes before [] = record { number = refl }
points-listed nodes before (p ∷ points) =
    listed-or (listed_if (point_refused nodes p) 18 p.at refl) (λ u. points-listed (reach nodes before p) p points)

form_listed : (r : Result Read Wrong) → Listed (form_refusal r)
unfolding form_refusal
form_listed (Err w) = record { number = refl }
form_listed (Ok read) = record { number = refl }

route_listed : (text : List ℕ) (place : ℕ) → Listed (route_refusal text place)
unfolding route_refusal
route_listed text place = listed-or (points-listed [] no_point (points_of text place)) (λ u. form_listed (ending_of text place))

-- 19
pins_listed : (nodes : List Node) (pins : List ℕ) → Listed (pins_refusal nodes pins)
unfolding pins_refusal pin_refusal
pins_listed nodes pins =
    listed-first (pin_count pins)
    (λ k l. listed_if (ltb (length pins) (pin_bytes * k + pin_bytes) || not (known nodes (pin_x pins k) (pin_y pins k) (pin_layer pins k))) 19 k refl)

-- 7; 11, and not 20
node-listed : (ns : List ℕ) (i : ℕ) → Listed (node_refusal ns i)
unfolding node_refusal
node-listed ns i = listed_if (ltb most_flags (node_flags ns i)) 7 i refl

obstacle-listed : (os : List ℕ) (k : ℕ) → Listed (obstacle_refusal 1 os k)
unfolding obstacle_refusal
obstacle-listed os k =
    listed-or (listed_if (ltb (obstacle_x2 1 os k) (obstacle_x1 1 os k) || ltb (obstacle_y2 1 os k) (obstacle_y1 1 os k)) 11 k refl)
    (λ u. record { number = refl })

-- 4 and 6, and not 5
module _ (nodes : List Node) (pins obstacles : List ℕ) where
  sections_listed : Listed (sections_refusal 1 (node_section nodes pins) (wire_section nodes) obstacles)
  unfolding sections_refusal
  sections_listed =
      let ns = node_section nodes pins in
      let wrong-nodes = not (eqb (length ns % node_bytes) 0) || (eqb (node_count ns) 0 || ltb most_nodes (node_count ns)) in
      let wrong-obstacles = not (eqb (length obstacles % obstacle_bytes 1) 0) || ltb most_obstacles (obstacle_count 1 obstacles) in
      rw (eq-eqb _ _ (wires_length nodes pins))
      (listed-or (listed_if wrong-nodes 4 0 refl) (λ u. listed_if wrong-obstacles 6 0 refl))

  -- 10, and neither 8 nor 9
  module _ (hung : (i : ℕ) → i < length nodes → Hung i (node_at nodes i)) where
    wire-listed : (i : ℕ) → i < length nodes - 1 → Listed (wire_refusal (node_section nodes pins) (wire_section nodes) (i + 1))
    unfolding wire_refusal wire_section
    wire-listed i l =
        let ns = node_section nodes pins in
        let ws = wire_section nodes in
        let n = node_at nodes (i + 1) in
        let h = hung (i + 1) (omega arith) in
        let e : i + 1 - 1 ≡ i = omega arith in
        let byte = record_of_lem wire_bytes (λ j. wire_record (node_at nodes (j + 1))) (λ j. refl) 0 (length nodes - 1) i in
        let parent : wire_parent ws (i + 1) ≡ n.parent = rw (e, ← add-zero (wire_bytes * i)) (byte 0 l (omega arith)) in
        let layer : wire_layer ws (i + 1) ≡ n.wire = rw e (byte 1 l (omega arith)) in
        let factor : wire_factor ws (i + 1) ≡ 1 = rw e (byte 2 l (omega arith)) in
        let oblique = not (eqb (node_x ns (i + 1)) (node_x ns (wire_parent ws (i + 1)))) && not (eqb (node_y ns (i + 1)) (node_y ns (wire_parent ws (i + 1)))) in
        rw (
          lt-ltb (wire_parent ws (i + 1)) (i + 1) (rw parent (h.parent (omega arith))),
          ne_eqb (wire_layer ws (i + 1)) 0 (λ z. omega (arith, h.wire_low)),
          le-ltb most_layers (wire_layer ws (i + 1)) (rw layer h.wire_high),
          ne_eqb (wire_factor ws (i + 1)) 0 (λ z. omega arith),
        )
        (listed_if oblique 10 (i + 1) refl)

    net-listed : Listed (net_refusal 1 (node_section nodes pins) (wire_section nodes) obstacles)
    unfolding net_refusal
    net-listed =
        let ns = node_section nodes pins in
        let c = nodes-count nodes pins in
        listed-or sections_listed
        (λ u. listed-or (listed-first (node_count ns) (λ i l. node-listed ns i))
        (λ v. listed-or (listed-first (node_count ns - 1) (λ i l. wire-listed i (omega arith)))
        (λ w. listed-first (obstacle_count 1 obstacles) (λ k l. obstacle-listed obstacles k))))

-- 17 and 18, then 19, then these and 16
pub def_number : (text : List ℕ) (place : ℕ) (pins obstacles : List ℕ) (lent : ℕ) → is_one_of (def_answer text place pins obstacles lent).number def_numbers ≡ true
unfolding def_answer def_refusal write_refusal is_version
def_number text place pins obstacles lent =
    let nodes = route_nodes text place in
    let ns = node_section nodes pins in
    let ws = wire_section nodes in
    let needed = file_bytes ns ws obstacles in
    (listed-or (route_listed text place)
    (λ u. listed-or (pins_listed nodes pins)
    (λ v. listed-or (net-listed nodes pins obstacles (nodes-hung text place u))
    (λ w. listed_if (ltb lent needed) 16 needed refl)))).number
