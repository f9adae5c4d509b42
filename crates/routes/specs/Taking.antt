-- What taking a point leads to: past the table, refused, already a node, or a node more.
-- Assumes nothing.
use Rattle.std.specs.Prelude.{ℕ, ◌+◌, ◌<◌, ◌≤◌, ◌≡◌, refl, Bool, true, false, cond, List, ◌∷◌, Option, Some, None, is_some, is_none, Result, Ok, Err, ltb, length, take, set}
use Rattle.std.proofs.Common.{◌∙◌, sym, arith, ne_eqb, lt-ltb, le-ltb}
use Rattle.std.proofs.lemmas.Bool.{ltb-true, ltb-false}
use Rattle.std.proofs.Math.Seq.{length-take-le}
use Rattle.std.specs.Result.{result_ok}
use Rattle.laws.specs.Sums.{by, lowest-none}
use Rattle.net.specs.declared.refusal.Refusal.TheVariants.{RoutePoint}
use Rattle.net.specs.Layout.{most_nodes}
use Rattle.paths.specs.declared.Point.{Point}
use Rattle.paths.specs.Form.{points_of}
use Rattle.paths.specs.Again.{stands_within, first_read}
use Rattle.paths.specs.AgainLaws.{first_some, first-none}
use Rattle.routes.specs.declared.Found.{Found}
use Rattle.routes.specs.declared.Placed.{Placed}
use Rattle.routes.specs.declared.Placed.TheVariants.{Known, New}
use Rattle.routes.specs.declared.Node.{Node}
use Rattle.routes.specs.Nodes.{node_at, known, number_on, lowest_at, higher, made_by, reach, point_refused}
use Rattle.routes.specs.Table.{found_at, placed}
use Rattle.routes.specs.Reaching.{length_more, reach-known, reach-new, length-reach, number-reach, number-most, lowest_at_most}
use Rattle.routes.specs.Holding.{holds_all, holds_past, holds-stored}
use Rattle.routes.specs.Reached.{Reached, Took, here-refused, reached_more}

-- what the table has
found-few : (nodes : List Node) (before : Point) {f : Found} → Some f ≡ found_at nodes before
    → (f.count ≡ length nodes) × (f.last ≡ number_on nodes before.x before.y before.layer) × (length nodes ≤ most_nodes)
found-few nodes before {f} e =
    by (ltb most_nodes (length nodes))
    (λ y. let q = rw y at e in cc)
    (λ z. let q = rw z at e in let l = ltb-false most_nodes (length nodes) z in (cc, cc, l))

found-many : (nodes : List Node) (before : Point) → None ≡ found_at nodes before → most_nodes < length nodes
found-many nodes before e = by (ltb most_nodes (length nodes)) (λ y. ltb-true most_nodes (length nodes) y) (λ z. let q = rw z at e in cc)

-- the answers of placing
module _ (nodes : List Node) (last : ℕ) (p : Point) where
  as_refused : None ≡ placed nodes last p → point_refused nodes p ≡ true
  as_refused e = by (point_refused nodes p) (λ y. y) (λ z. by (known nodes p.x p.y p.layer) (λ k. let q = rw (z, k) at e in cc) (λ k. let q = rw (z, k) at e in cc))

  as_known : {n : ℕ} → Some (Known n) ≡ placed nodes last p → (point_refused nodes p ≡ false) × (known nodes p.x p.y p.layer ≡ true) × (n ≡ number_on nodes p.x p.y p.layer)
  as_known e =
      by (point_refused nodes p)
      (λ y. let q = rw y at e in cc)
      (λ z. by (known nodes p.x p.y p.layer) (λ k. let q = rw (z, k) at e in (z, k, cc)) (λ k. let q = rw (z, k) at e in cc))

  as_new : {parent wire : ℕ} → Some (New parent wire) ≡ placed nodes last p
      → (point_refused nodes p ≡ false) × (known nodes p.x p.y p.layer ≡ false)
      × (parent ≡ cond p.first (lowest_at nodes p.x p.y) last) × (wire ≡ cond p.first (higher p.layer (node_at nodes (lowest_at nodes p.x p.y)).layer) p.layer)
  as_new e =
      by (point_refused nodes p)
      (λ y. let q = rw y at e in cc)
      (λ z. by (known nodes p.x p.y p.layer) (λ k. let q = rw (z, k) at e in cc) (λ k. let q = rw (z, k) at e in (z, k, cc, cc)))

-- what an Option said that was made a Result
pub handed_on : {T E : Type 0} {o : Option T} {r : Result T E} {x y : T} → o ≡ result_ok r → r ≡ Ok x → x ≡ y → o ≡ Some y
handed_on a b d = cc

pub handed_none : {T E : Type 0} {o : Option T} {r : Result T E} {e : E} → o ≡ result_ok r → r ≡ Err e → o ≡ None
handed_none a b = cc

-- the number of a node that is not there
number_none : (nodes : List Node) (p : Point) → known nodes p.x p.y p.layer ≡ false → number_on nodes p.x p.y p.layer ≡ length nodes
unfolding known number_on
number_none nodes p k = lowest-none (length nodes) _ k

cond_most : (t : Bool) {a b m : ℕ} → a ≤ m → b ≤ m → cond t a b ≤ m
cond_most true p q = p
cond_most false p q = q

module _ {all rest : List Point} {p : Point} {points : ℕ} {found : Option Found} {table : List Node} (r : Reached all (p ∷ rest) points found table) where
  -- past the table
  module _ (e : found ≡ None) where
    far : most_nodes < length r.nodes
    far = found-many r.nodes r.before (sym e ∙ r.follows)

    pub took_far : {t : Bool} → t ≡ point_refused r.nodes p → t ≡ false → p.layer < 256 → Took all rest points p (Ok None) table
    took_far j z b =
        let g = length-reach r.nodes r.before p in
        reached_more r (sym j ∙ z) b None table
        (rw (lt-ltb most_nodes (length (reach r.nodes r.before p)) (omega (arith, far))))
        (by (known r.nodes p.x p.y p.layer)
        (λ k. rw (reach-known r.nodes r.before p k) r.holds)
        (λ k. rw (reach-new r.nodes r.before p k) (holds_past r.holds (made_by r.nodes r.before p) (omega (arith, far)))))

    pub took_far_refused : {t : Bool} → t ≡ point_refused r.nodes p → t ≡ true → Took all rest points p (Err (RoutePoint p.at)) table
    took_far_refused j y = (refl, here-refused r (sym j ∙ y))

  -- in it, as `placed` says
  module _ {f : Found} (e : found ≡ Some f) where
    pub near : (f.count ≡ length r.nodes) × (f.last ≡ number_on r.nodes r.before.x r.before.y r.before.layer) × (length r.nodes ≤ most_nodes)
    near = found-few r.nodes r.before (sym e ∙ r.follows)

    pub count_most : f.count ≤ most_nodes
    count_most = omega (arith, near)

    module _ (k : length table ≡ most_nodes) where
      taken : take f.count table ≡ r.nodes
      taken = rw near.0 (holds_all r.holds near.2 (length-take-le (length r.nodes) table (omega (arith, near))))

      module _ {q : Option Placed} (w : q ≡ placed (take f.count table) f.last p) where
        here : q ≡ placed r.nodes f.last p
        here = rw taken at w

        pub took_refused : q ≡ None → Took all rest points p (Err (RoutePoint p.at)) table
        took_refused o = (refl, here-refused r (as_refused r.nodes f.last p (sym o ∙ here)))

        module _ (b : p.layer < 256) where
          pub took_known : {n : ℕ} → q ≡ Some (Known n) → Took all rest points p (Ok (Some (record { count = f.count; last = n }))) table
          took_known o =
              let a = as_known r.nodes f.last p (sym o ∙ here) in
              let s = reach-known r.nodes r.before p a.1 in
              reached_more r a.0 b _ table (rw (s, near.0, a.2, le-ltb most_nodes (length r.nodes) near.2)) (rw s r.holds)

          -- a node more, past the table or in it
          module _ {parent wire : ℕ} (o : q ≡ Some (New parent wire)) where
            new : (point_refused r.nodes p ≡ false) × (known r.nodes p.x p.y p.layer ≡ false)
                × (parent ≡ cond p.first (lowest_at r.nodes p.x p.y) f.last) × (wire ≡ cond p.first (higher p.layer (node_at r.nodes (lowest_at r.nodes p.x p.y)).layer) p.layer)
            new = as_new r.nodes f.last p (sym o ∙ here)

            pub parent-within : parent ≤ f.count
            parent-within =
                rw (new.2, near.1, near.0)
                (cond_most p.first (lowest_at_most r.nodes p.x p.y) (number-most r.nodes r.before.x r.before.y r.before.layer))

            -- its parent fits the table
            pub parent-fits : f.count < most_nodes → parent < most_nodes
            parent-fits c = omega (arith, parent-within)

            pub took_past : f.count ≡ most_nodes → Took all rest points p (Ok None) table
            took_past c =
                let s = reach-new r.nodes r.before p new.1 in
                let l = length_more r.nodes (made_by r.nodes r.before p) in
                reached_more r new.0 b None table
                (rw (s, l, lt-ltb most_nodes (length r.nodes + 1) (omega (arith, near))))
                (rw s (holds_past r.holds _ (omega (arith, near))))

            pub took_stored : f.count < most_nodes
                → Took all rest points p (Ok (Some (record { count = f.count + 1; last = f.count })))
                (set table f.count (record { x = p.x; y = p.y; layer = p.layer; parent = parent; wire = wire }))
            unfolding made_by
            took_stored c =
                let s = reach-new r.nodes r.before p new.1 in
                let l = length_more r.nodes (made_by r.nodes r.before p) in
                let n = number-reach r.nodes r.before p ∙ number_none r.nodes p new.1 in
                reached_more r new.0 b _ _
                (rw (n, s, l, near.0, le-ltb most_nodes (length r.nodes + 1) (omega (arith, near))))
                (rw (s, near.0, new.2, new.3, near.1) (holds-stored r.holds (made_by r.nodes r.before p) (omega (arith, near))))

-- past the table 18 is judged by reading again
pub again : (text : List ℕ) (place : ℕ) {rest : List Point} {p : Point} {points : ℕ} {found : Option Found} {table : List Node}
    (r : Reached (points_of text place) (p ∷ rest) points found table) → found ≡ None
    → cond p.first (is_none (first_read text place points p.x p.y 0 255)) (is_some (first_read text place points p.x p.y p.layer p.layer)) ≡ point_refused r.nodes p
unfolding first_read point_refused
again text place {rest} {p} r e =
    let l = far r e in
    rw (
      r.split,
      r.many,
      first-none (stands_within p.x p.y 0 255) r.done (p ∷ rest),
      first_some (stands_within p.x p.y p.layer p.layer) r.done (p ∷ rest),
      ← r.at p.x p.y,
      ← r.on p.x p.y p.layer,
      ne_eqb (length r.nodes) 0 (λ z. omega arith),
    )

pub took_again : (text : List ℕ) (place : ℕ) {rest : List Point} {p : Point} {points : ℕ} {found : Option Found} {table : List Node}
    → Reached (points_of text place) (p ∷ rest) points found table → p.layer < 256 → found ≡ None → {t : Bool}
    → t ≡ cond p.first (is_none (first_read text place points p.x p.y 0 255)) (is_some (first_read text place points p.x p.y p.layer p.layer))
    → Took (points_of text place) rest points p (cond t (Err (RoutePoint p.at)) (Ok None)) table
took_again text place {rest} {p} {points} {table} r b e {t} h =
    let j : t ≡ point_refused r.nodes p = h ∙ again text place r e in
    by t
    (λ y. rw y (took_far_refused r e j y))
    (λ z. rw z (took_far r e j z b))
