-- Laws of the nodes as points reach them: which points are known, and what number a point's node has.
-- Assumes nothing.
use Prim.Native.Nat.{ℕ, ◌+◌, ◌<◌, ◌≤◌}
use Rattle.std.specs.Prelude.{◌≡◌, ◌&&◌, ◌||◌, List, [], ◌∷◌, ◌++◌, eqb, ltb, length}
use Rattle.std.proofs.Common.{◌∙◌, arith, length-append}
use Rattle.std.proofs.Math.Path.{refl, sym}
use Rattle.std.proofs.Math.Bool.{Bool, true, false, not}
use Rattle.std.proofs.Math.ListN.{get_or-append}
use Rattle.std.proofs.lemmas.List.{get_or_at}
use borrow.Author.Tests.{eq-eqb, lt-ltb, le-ltb, eqb-true, eqb-false, ltb-false}
use Rattle.laws.specs.Sum.{any}
use Rattle.laws.specs.Sums.{by, and_intro, and_left, and_right, and_comm, and_true, or_left, or_right, or_false, any_ap, any_next, any-yes, any-no, any_some, lowest_is, lowest-none, lowest-≤}
use Rattle.paths.specs.declared.Point.{Point}
use Rattle.paths.specs.Again.{stands_within}
use Rattle.routes.specs.declared.Node.{Node}
use Rattle.routes.specs.Nodes.{no_node, node_at, stands_at, stands_on, known, known_at, number_on, lowest_at, made_by, reach}

-- some node passes a test
abbrev some_node : (Node → Bool) → List Node → Bool
some_node f nodes = any (length nodes) (λ i. f (node_at nodes i))

-- one node more
pub length_more : (nodes : List Node) (n : Node) → length (nodes ++ (n ∷ [])) ≡ length nodes + 1
length_more nodes n = length-append nodes (n ∷ [])

pub node-before : (nodes : List Node) (n : Node) (i : ℕ) → i < length nodes → node_at (nodes ++ (n ∷ [])) i ≡ node_at nodes i
node-before nodes n i l = get_or-append nodes (n ∷ []) no_node i l

pub node_at_end : (nodes : List Node) (n : Node) (i : ℕ) → i ≡ length nodes → node_at (nodes ++ (n ∷ [])) i ≡ n
node_at_end nodes n i e = get_or_at nodes n [] no_node i (sym e)

-- a number is at most that of the nodes
pub number-most : (nodes : List Node) (x y layer : ℕ) → number_on nodes x y layer ≤ length nodes
unfolding number_on
number-most nodes x y layer = lowest-≤ (length nodes) _

pub lowest_at_most : (nodes : List Node) (x y : ℕ) → lowest_at nodes x y ≤ length nodes
unfolding lowest_at
lowest_at_most nodes x y = lowest-≤ (length nodes) _

some_more : (f : Node → Bool) (nodes : List Node) (n : Node) → some_node f (nodes ++ (n ∷ [])) ≡ (some_node f nodes || f n)
some_more f nodes n =
    rw (
      length_more nodes n,
      any_next (length nodes) (λ i. f (node_at (nodes ++ (n ∷ [])) i)),
      node_at_end nodes n (length nodes) refl,
      any_ap (length nodes) {f = λ i. f (node_at (nodes ++ (n ∷ [])) i)} {g = λ i. f (node_at nodes i)} (λ i l. rw (node-before nodes n i l)),
    )

-- a layer from l to l is l
same_layer : (a l : ℕ) → eqb a l ≡ (not (ltb a l) && not (ltb l a))
same_layer a l =
    by (eqb a l)
    (λ y. let e = eqb-true a l y in rw (y, le-ltb a l (omega arith), le-ltb l a (omega arith)))
    (λ z.
    let ne = eqb-false a l z in
    by (ltb a l)
    (λ u. rw (z, u))
    (λ u. let w = ltb-false a l u in rw (z, u, lt-ltb l a (omega arith))))

module _ (nodes : List Node) (before p : Point) where
  pub reach-known : known nodes p.x p.y p.layer ≡ true → reach nodes before p ≡ nodes
  unfolding reach
  reach-known k = rw k

  pub reach-new : known nodes p.x p.y p.layer ≡ false → reach nodes before p ≡ nodes ++ (made_by nodes before p ∷ [])
  unfolding reach
  reach-new k = rw k

  -- a test that looks only at where a node stands
  some-reach : (f : Node → Bool) (t : Bool)
      → ((n : Node) → n.x ≡ p.x → n.y ≡ p.y → n.layer ≡ p.layer → f n ≡ t)
      → some_node f (reach nodes before p) ≡ (some_node f nodes || t)
  unfolding known made_by
  some-reach f t h =
      by (known nodes p.x p.y p.layer)
      (λ k.
      let r = any_some (length nodes) (λ i. stands_on p.x p.y p.layer (node_at nodes i)) k in
      let n = node_at nodes r.0 in
      let l = and_left (eqb n.layer p.layer) _ r.2 in
      let s = and_right (eqb n.layer p.layer) _ r.2 in
      let q = h n (eqb-true _ _ (and_left (eqb n.x p.x) _ s)) (eqb-true _ _ (and_right (eqb n.x p.x) _ s)) (eqb-true _ _ l) in
      rw (reach-known k)
      (by t
      (λ y. let a = any-yes (length nodes) r.0 (λ i. f (node_at nodes i)) r.1 (q ∙ y) in a ∙ sym (or_left t a))
      (λ z. sym (or_false (some_node f nodes) z))))
      (λ k. rw (reach-new k, some_more f nodes (made_by nodes before p), h (made_by nodes before p) refl refl refl))

  -- a point is known on a layer, or on some layer, once a point of the text stood there
  pub known-reach : (x y layer : ℕ) → known (reach nodes before p) x y layer ≡ (known nodes x y layer || stands_within x y layer layer p)
  unfolding known stands_within
  known-reach x y layer =
      some-reach (stands_on x y layer) (stands_within x y layer layer p)
      (λ n a b c. rw (a, b, c, same_layer p.layer layer) (last-first (eqb p.x x) (eqb p.y y) (not (ltb p.layer layer) && not (ltb layer p.layer))))
    where
      last-first : (a b c : Bool) → (c && (a && b)) ≡ (a && (b && c))
      last-first true b c = and_comm c b
      last-first false b true = refl
      last-first false b false = refl

  pub known_at_reach : (x y : ℕ) → p.layer < 256 → known_at (reach nodes before p) x y ≡ (known_at nodes x y || stands_within x y 0 255 p)
  unfolding known_at stands_within
  known_at_reach x y h =
      some-reach (stands_at x y) (stands_within x y 0 255 p)
      (λ n a b c. rw (a, b, le-ltb p.layer 0 (omega arith), le-ltb 255 p.layer (omega arith), and_true (eqb p.y y)))

  -- the number of the point's node is the one it gets
  pub number-reach : number_on (reach nodes before p) p.x p.y p.layer ≡ number_on nodes p.x p.y p.layer
  unfolding number_on known made_by
  number-reach =
      by (known nodes p.x p.y p.layer)
      (λ k. rw (reach-known k))
      (λ k.
      let n = made_by nodes before p in
      let f : ℕ → Bool = λ i. stands_on p.x p.y p.layer (node_at nodes i) in
      rw (reach-new k, lowest-none (length nodes) f k)
      (lowest_is (length (nodes ++ (n ∷ []))) (length nodes) _ (omega (arith, length_more nodes n))
      (rw (node_at_end nodes n (length nodes) refl) (and_intro (eq-eqb p.layer p.layer refl) (and_intro (eq-eqb p.x p.x refl) (eq-eqb p.y p.y refl))))
      (λ j l. rw (node-before nodes n j l) (any-no (length nodes) j f k l))))

  pub length-reach : length nodes ≤ length (reach nodes before p)
  length-reach =
      by (known nodes p.x p.y p.layer)
      (λ k. rw (reach-known k) (omega arith))
      (λ k. rw (reach-new k) (omega (arith, length_more nodes (made_by nodes before p))))

  -- the point is known then
  pub reached_known : known (reach nodes before p) p.x p.y p.layer ≡ true
  unfolding stands_within
  reached_known =
      rw (
        known-reach p.x p.y p.layer,
        eq-eqb p.x p.x refl,
        eq-eqb p.y p.y refl,
        le-ltb p.layer p.layer (omega arith),
      )
      (or_right (known nodes p.x p.y p.layer) refl)

  pub some_reached : 0 < length (reach nodes before p)
  unfolding known
  some_reached = let r = any_some (length (reach nodes before p)) _ reached_known in omega (arith, r.1)
