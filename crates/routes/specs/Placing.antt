-- What a point does to the nodes found so far, as the searches through them show it.
-- Assumes nothing.
use Prim.Native.Nat.{ℕ, ◌<◌, max}
use Rattle.std.specs.Prelude.{◌≡◌, refl, Bool, true, false, cond, List, Option, Some, None, eqb, ltb, length}
use Rattle.std.specs.List.{position_or_len}
use Rattle.std.proofs.Common.{◌∙◌, sym, arith, eq-eqb, ne_eqb, lt-ltb, le-ltb}
use Rattle.std.proofs.Math.ListN.{get_or-eq_default}
use Rattle.std.proofs.lemmas.Bool.{ltb-true, ltb-false}
use Rattle.std.proofs.lemmas.List.Sums.{position_or_len_is}
use Rattle.laws.specs.Sum.{any, lowest}
use Rattle.laws.specs.Sums.{by, and_no_right, and_false, any-no, any_none, lowest-passes, lowest_is, lowest-least, lowest-none, lowest-≤}
use Rattle.paths.specs.declared.Point.{Point}
use Rattle.routes.specs.declared.Placed.TheVariants.{Known, New}
use Rattle.routes.specs.declared.Node.{Node}
use Rattle.routes.specs.Nodes.{no_node, node_at, known, known_at, number_on, lowest_at, higher, point_refused}
use Rattle.routes.specs.Table.{placed}

-- a number passes the test if the lowest one is below the end
lowest-below : (n : ℕ) (f : ℕ → Bool) → ltb (lowest n f) n ≡ any n f
lowest-below n f =
    by (any n f)
    (λ a. lt-ltb _ _ (lowest-passes n f a).0 ∙ sym a)
    (λ b. rw (lowest-none n f b, b) (le-ltb n n (omega arith)))

pub number-below : (found : List Node) (x y layer : ℕ) → ltb (number_on found x y layer) (length found) ≡ known found x y layer
unfolding number_on known
number-below found x y layer = lowest-below (length found) _

pub lowest_at_below : (found : List Node) (x y : ℕ) → ltb (lowest_at found x y) (length found) ≡ known_at found x y
unfolding lowest_at known_at
lowest_at_below found x y = lowest-below (length found) _

-- a search by a number for what passes a test
module _ (n w : ℕ) (g : ℕ → ℕ) (f : ℕ → Bool) (same : (i : ℕ) → i < n → eqb (g i) w ≡ f i) where
  pub search_here : (i : ℕ) → i < n → ((j : ℕ) → j < i → g j ≡ w → ⊥) → g i ≡ w → i ≡ lowest n f
  search_here i l b e =
      sym (lowest_is n i f l (sym (same i l) ∙ eq-eqb _ _ e) (λ j m. sym (same j (omega arith)) ∙ ne_eqb _ _ (b j m)))

  pub search_none : ((j : ℕ) → j < n → g j ≡ w → ⊥) → n ≡ lowest n f
  search_none b = sym (lowest-none n f (any_none n f (λ j m. sym (same j m) ∙ ne_eqb _ _ (b j m))))

-- the first node that passes a test has the lowest number
pub first_passing : (nodes : List Node) (g : Node → Bool) (f : ℕ → Bool) → ((i : ℕ) → i < length nodes → g (node_at nodes i) ≡ f i)
    → cond (ltb (position_or_len g nodes) (length nodes)) (Some (position_or_len g nodes)) None ≡ cond (any (length nodes) f) (Some (lowest (length nodes) f)) None
first_passing nodes g f same =
    let n = length nodes in
    let p : position_or_len g nodes ≡ lowest n f =
    position_or_len_is g nodes (lowest n f) no_node (lowest-≤ n f)
    (λ k l. let h = lowest-≤ n f in same k (omega arith) ∙ lowest-least n k f l)
    (λ l. same (lowest n f) l ∙ (lowest-passes n f (sym (lowest-below n f) ∙ lt-ltb _ _ l)).1)
    in
    rw (p, lowest-below n f)

-- what a search found
pub some_held : (t : Bool) (m : ℕ) {n : ℕ} {o : Option ℕ} → o ≡ cond t (Some m) None → o ≡ Some n → (t ≡ true) × (n ≡ m)
some_held true m e h = (refl, cc)
some_held false m e h = cc

pub none_held : (t : Bool) (m : ℕ) {o : Option ℕ} → o ≡ cond t (Some m) None → o ≡ None → t ≡ false
none_held true m e h = cc
none_held false m e h = refl

pub higher-max : (a b : ℕ) → max a b ≡ higher a b
higher-max a b = by (ltb a b) (λ y. let l = ltb-true a b y in rw y (omega arith)) (λ z. let l = ltb-false a b z in rw z (omega arith))

-- a node that was found is one of them
pub lowest_at_within : (nodes : List Node) (x y : ℕ) → known_at nodes x y ≡ true → lowest_at nodes x y < length nodes
unfolding known_at lowest_at
lowest_at_within nodes x y k = (lowest-passes (length nodes) _ k).0

-- what the searches for a point found
module _ (nodes : List Node) (p : Point) {found : Option ℕ} where
  module _ (e : found ≡ cond (known_at nodes p.x p.y) (Some (lowest_at nodes p.x p.y)) None) where
    pub via_held : {n : ℕ} → found ≡ Some n → (known_at nodes p.x p.y ≡ true) × (n ≡ lowest_at nodes p.x p.y) × (n < length nodes)
    via_held h = let v = some_held (known_at nodes p.x p.y) (lowest_at nodes p.x p.y) e h in (v.0, v.1, rw v.1 (lowest_at_within nodes p.x p.y v.0))

    pub no_via : found ≡ None → known_at nodes p.x p.y ≡ false
    no_via h = none_held (known_at nodes p.x p.y) (lowest_at nodes p.x p.y) e h

  module _ (e : found ≡ cond (known nodes p.x p.y p.layer) (Some (number_on nodes p.x p.y p.layer)) None) where
    pub node_held : {n : ℕ} → found ≡ Some n → (known nodes p.x p.y p.layer ≡ true) × (n ≡ number_on nodes p.x p.y p.layer)
    node_held h = some_held (known nodes p.x p.y p.layer) (number_on nodes p.x p.y p.layer) e h

    pub no_node_held : found ≡ None → known nodes p.x p.y p.layer ≡ false
    no_node_held h = none_held (known nodes p.x p.y p.layer) (number_on nodes p.x p.y p.layer) e h

-- a path's first point is known, or unknown on every layer, by the lowest number
module _ (found : List Node) (x y : ℕ) {i : ℕ} (v : i ≡ lowest_at found x y) where
  pub known-at : i < length found → known_at found x y ≡ true
  known-at l = sym (lowest_at_below found x y) ∙ rw (← v) (lt-ltb i (length found) l)

  pub unknown-at : i ≡ length found → known_at found x y ≡ false
  unknown-at e = sym (lowest_at_below found x y) ∙ rw (← v) (le-ltb i (length found) (omega arith))

  pub unknown : i ≡ length found → (layer : ℕ) → known found x y layer ≡ false
  unfolding known_at known
  unknown e layer =
      any_none (length found) _ (λ j l. and_no_right (eqb (node_at found j).layer layer) (any-no (length found) j _ (unknown-at e) l))

-- where there is no node, none is on a higher layer
pub higher-alone : (found : List Node) (layer : ℕ) → higher layer (node_at found (length found)).layer ≡ layer
higher-alone found layer = rw (get_or-eq_default found no_node {n = length found} (omega arith), le-ltb layer 0 (omega arith))

module _ (nodes : List Node) (last : ℕ) (p : Point) where
  -- a later point of a path
  module _ (f : p.first ≡ false) where
    pub placed_again : known nodes p.x p.y p.layer ≡ true → None ≡ placed nodes last p
    unfolding point_refused
    placed_again k = rw (f, k)

    pub placed_behind : known nodes p.x p.y p.layer ≡ false → Some (New last p.layer) ≡ placed nodes last p
    unfolding point_refused
    placed_behind k = rw (f, k)

  -- a path's first point
  module _ (f : p.first ≡ true) where
    pub placed_alone : length nodes ≡ 0 → Some (New 0 p.layer) ≡ placed nodes last p
    unfolding point_refused known_at known lowest_at any lowest
    placed_alone e = rw (f, e, get_or-eq_default nodes no_node {n = 0} (omega arith), le-ltb p.layer 0 (omega arith))

    pub placed_nowhere : known_at nodes p.x p.y ≡ false → (length nodes ≡ 0 → ⊥) → None ≡ placed nodes last p
    unfolding point_refused
    placed_nowhere k e = rw (f, k, ne_eqb (length nodes) 0 e)

    module _ (k : known_at nodes p.x p.y ≡ true) where
      pub placed_known : known nodes p.x p.y p.layer ≡ true → Some (Known (number_on nodes p.x p.y p.layer)) ≡ placed nodes last p
      unfolding point_refused
      placed_known on = rw (f, k, on, and_false)

      pub placed_via : known nodes p.x p.y p.layer ≡ false
          → Some (New (lowest_at nodes p.x p.y) (higher p.layer (node_at nodes (lowest_at nodes p.x p.y)).layer)) ≡ placed nodes last p
      unfolding point_refused
      placed_via on = rw (f, k, on, and_false)
