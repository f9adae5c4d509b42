-- A smallest legal set has no point in a piece of the uncut stage that has a source: without those points it is legal too.
-- Assumes nothing.
use Prim.Native.Nat.{ℕ, zero, suc, ◌≤◌}
use Rattle.std.specs.Prelude.{◌≡◌, Bool, true, false, not, ◌&&◌, eqb}
use Rattle.std.proofs.Math.Path.{refl, ap, fun_ext}
use Rattle.std.proofs.Common.{sym, ◌∙◌, arith, lt_irrefl}
use borrow.Author.Tests.{eq-eqb, ne_eqb, eqb-true, eqb-false}
use Rattle.laws.specs.Sum.{χ, sum, any, lowest, highest}
use Rattle.laws.specs.Sums.{by, no_both, not_true_false, and_left, and_right, and_intro, and_no_right, χ_ap, χ-yes, sum_ap, sum-≤, sum_tight, any_ap, any_none, any_some, any-yes}
use Rattle.net.specs.Stage.{Stage}
use Rattle.net.specs.Formed.{Formed}
use Rattle.pieces.specs.Piece.{Points, Element, node, step, Touch, along, foot, head, via, Connected, touching, same, back, chain, Group, Piece, has_source}
use Rattle.pieces.specs.Legal.{Legal, size}
use Rattle.pieces.specs.Inside.{Inside}
use Rattle.pieces.specs.Name.{cut_at, first_jumper, last_jumper, joins, follow, lowest_node}
use Rattle.pieces.specs.Weight.{wire_adds, node_weight}
use Rattle.pieces.specs.Lowest.{joins-yes, lowest_node-up}
use Rattle.pieces.specs.Jumpers.{first-uncut, number-low}
use Rattle.pieces.specs.Names.{connected-name, to-lowest}
use Rattle.pieces.specs.LegalByNodes.{free-inside, legal→nodes, nodes→legal}
use Rattle.pieces.specs.Size.{empty}
use Rattle.pieces.specs.SmallestSet.{SmallestSet}

-- what is connected with jumpers is connected without
touch_uncut : {s : Stage} {J : Points} {d e : Element} → Touch s J d e → Touch s empty d e
touch_uncut (along p l h n) = along p l h refl
touch_uncut (foot p l) = foot p l
touch_uncut (head p l) = head p l
touch_uncut (via p l) = via p l

uncut : {s : Stage} {J : Points} {d e : Element} → Connected s J d e → Connected s empty d e
uncut (touching t) = touching (touch_uncut t)
uncut same = same
uncut (back c) = back (uncut c)
uncut (chain c d) = chain (uncut c) (uncut d)

empty-inside : (s : Stage) → Inside s empty
empty-inside s i t h = absurd (no_both h refl)

empty-cut : (s : Stage) (i : ℕ) → cut_at s empty i ≡ false
unfolding cut_at
empty-cut s i = any_none (s.len i) (λ t. false) (λ t p. refl)

-- the lowest node of node i's piece of the uncut stage
abbrev root : Stage → ℕ → ℕ
root s i = lowest_node s empty i

module _ (s : Stage) (formed : Formed s) where
  root_up : (i : ℕ) → s.present i ≡ true → root s i ≡ root s (s.parent i)
  root_up i p = lowest_node-up s empty formed i (joins-yes s empty i p (empty-cut s i))

  root-lowest : (J : Points) → Inside s J → (i : ℕ) → root s (lowest_node s J i) ≡ root s i
  root-lowest J inside i = sym (connected-name s empty formed (empty-inside s) (uncut (to-lowest s J formed inside i))).0

  -- two sets that agree on the wires of one piece of the uncut stage have the same pieces with nodes there, and they weigh the same
  module _ (J K : Points) (r : ℕ) (agree : (i t : ℕ) → root s i ≡ r → J i t ≡ K i t) where
    same-cut : (i : ℕ) → root s i ≡ r → cut_at s J i ≡ cut_at s K i
    unfolding cut_at
    same-cut i e = any_ap (s.len i) (λ t p. agree i t e)

    same_first : (i : ℕ) → root s i ≡ r → first_jumper s J i ≡ first_jumper s K i
    unfolding first_jumper
    same_first i e = ap (λ (f : ℕ → Bool). lowest (s.len i) f) (fun_ext (λ t. agree i t e))

    same-last : (i : ℕ) → root s i ≡ r → last_jumper s J i ≡ last_jumper s K i
    unfolding last_jumper
    same-last i e = ap (λ (f : ℕ → Bool). highest (s.len i) f) (fun_ext (λ t. agree i t e))

    same-follow : (k i : ℕ) → root s i ≡ r → follow s J k i ≡ follow s K k i
    unfolding follow joins
    same-follow zero i e = refl
    same-follow (suc k) i e =
        by (s.present i)
        (λ p. rw (same-cut i e, same-follow k (s.parent i) (sym (root_up i p) ∙ e)))
        (λ p. rw p)

    same-lowest : (i : ℕ) → root s i ≡ r → lowest_node s J i ≡ lowest_node s K i
    unfolding lowest_node
    same-lowest i e = same-follow i i e

    module _ (inside-J : Inside s J) (inside-K : Inside s K) (h : ℕ) (here : root s h ≡ r) where
      -- a wire of another piece of the uncut stage adds nothing
      other_lowest : (L : Points) → Inside s L → (i : ℕ) → (root s i ≡ r → ⊥) → eqb (lowest_node s L i) h ≡ false
      other_lowest L inside i ne = ne_eqb (lowest_node s L i) h (λ e. ne (sym (root-lowest L inside i) ∙ (ap (λ (x : ℕ). root s x) e ∙ here)))

      same-adds : (i : ℕ) → s.present i ≡ true → wire_adds s J h i ≡ wire_adds s K h i
      unfolding wire_adds
      same-adds i p =
          by (eqb (root s i) r)
          (λ y.
          let e = eqb-true (root s i) r y in
          rw (same-lowest i e, same-lowest (s.parent i) (sym (root_up i p) ∙ e), same-cut i e, same_first i e, same-last i e))
          (λ z.
          let ne = eqb-false (root s i) r z in
          let up : root s (s.parent i) ≡ r → ⊥ = λ e. ne (root_up i p ∙ e) in
          rw (other_lowest J inside-J i ne, other_lowest K inside-K i ne, other_lowest J inside-J (s.parent i) up, other_lowest K inside-K (s.parent i) up, and_no_right (cut_at s J i) refl, and_no_right (cut_at s K i) refl))

      same-weight : node_weight s J h ≡ node_weight s K h
      unfolding node_weight
      same-weight = sum_ap s.nodes (λ i q. χ_ap (s.present i) (λ p. same-adds i p))

-- some source is in the piece of the uncut stage whose lowest node is r
abbrev sourced : Stage → ℕ → Bool
sourced s r = any s.nodes (λ k. s.source k && eqb (root s k) r)

-- a set without its points in pieces of the uncut stage that have a source
abbrev unsourced : Stage → Points → Points
unsourced s J i t = not (sourced s (root s i)) && J i t

module _ (s : Stage) (formed : Formed s) (limit : ℕ) (J : Points) (legal : Legal s limit J) where
  inside : Inside s J
  inside = free-inside s J legal.free

  abbrev K : Points
  K = unsourced s J

  K_in : (i t : ℕ) → K i t ≡ true → J i t ≡ true
  K_in i t h = and_right (not (sourced s (root s i))) (J i t) h

  K-inside : Inside s K
  K-inside i t h = inside i t (K_in i t h)

  -- it is legal too
  unsourced-legal : Legal s limit K
  unsourced-legal =
      nodes→legal s formed limit K (λ i t h. legal.free i t (K_in i t h))
      (λ h p own i q g low none.
      by (sourced s (root s h))
      (λ y.
      let k = any_some s.nodes (λ k. s.source k && eqb (root s k) (root s h)) y in
      let src = and_left (s.source k.0) (eqb (root s k.0) (root s h)) k.2 in
      let at = eqb-true (root s k.0) (root s h) (and_right (s.source k.0) (eqb (root s k.0) (root s h)) k.2) in
      let agree : (i t : ℕ) → root s i ≡ root s h → K i t ≡ empty i t = λ i t e. rw (e, y) in
      let a = same-lowest s formed K empty (root s h) agree h refl in
      let b = same-lowest s formed K empty (root s h) agree k.0 at in
      absurd (none k.0 k.1 src (b ∙ (at ∙ (sym a ∙ own)))))
      (λ z.
      let agree : (i t : ℕ) → root s i ≡ root s h → K i t ≡ J i t = λ i t e. rw (e, z) in
      let lowest-same = same-lowest s formed K J (root s h) agree in
      let in_it : root s i ≡ root s h = sym (root-lowest s formed K K-inside i) ∙ ap (λ (x : ℕ). root s x) low in
      let light =
      legal→nodes s formed limit J legal h p (sym (lowest-same h refl) ∙ own) i q g (sym (lowest-same i in_it) ∙ low)
      (λ k r src at. none k r src (lowest-same k (sym (root-lowest s formed J inside k) ∙ ap (λ (x : ℕ). root s x) at) ∙ at)) in
      rw (same-weight s formed K J (root s h) agree K-inside inside h refl) light))

-- a smallest legal set has no point in a piece of the uncut stage that has a source
pub source-uncut : (s : Stage) → Formed s → (limit : ℕ) (J : Points) → SmallestSet s limit J → (P : Group) → Piece s empty P → has_source s P ≡ true →
    (i t : ℕ) → J i t ≡ true → P (step i t) ≡ false
unfolding size has_source
source-uncut s formed limit J m P piece has i t jumper = not_true_false (P (step i t)) (λ y. kept (at_source y))
  where
    legal : Legal s limit J
    legal = m.legal

    test : (b a : Bool) → χ (not b && a) 1 ≤ χ a 1
    test true a = omega arith
    test false a = omega arith

    -- the piece's source has the root of wire i
    at_source : P (step i t) ≡ true → sourced s (root s i) ≡ true
    at_source y =
        let k = any_some s.nodes (λ k. s.source k && P (node k)) has in
        let src = and_left (s.source k.0) (P (node k.0)) k.2 in
        let in_it = and_right (s.source k.0) (P (node k.0)) k.2 in
        let f = legal.free i t jumper in
        let len = first-uncut s empty (empty-inside s) i (empty-cut s i) in
        let low = number-low s empty (empty-inside s) i t (let h = f.high in omega arith) in
        let e = (connected-name s empty formed (empty-inside s) (piece.connected (node k.0) (step i t) in_it y)).0 in
        any-yes s.nodes k.0 (λ k. s.source k && eqb (root s k) (root s i)) k.1 (and_intro src (eq-eqb (root s k.0) (root s i) (e ∙ low)))

    -- no point is left out
    kept : sourced s (root s i) ≡ true → ⊥
    kept y =
        let f = legal.free i t jumper in
        let rows =
        sum_tight s.nodes {f = λ j. sum (s.len j) (λ x. χ (unsourced s J j x) 1)} {g = λ j. sum (s.len j) (λ x. χ (J j x) 1)}
        (λ j p. sum-≤ (s.len j) (λ x q. test (sourced s (root s j)) (J j x))) (m.fewest (unsourced s J) (unsourced-legal s formed limit J legal)) i (formed.inside i f.present) in
        let point =
        sum_tight (s.len i) {f = λ x. χ (unsourced s J i x) 1} {g = λ x. χ (J i x) 1}
        (λ x q. test (sourced s (root s i)) (J i x)) (let r = rows in omega arith) t f.high in
        let out : χ (unsourced s J i t) 1 ≡ 0 = rw y in
        let has = χ-yes 1 jumper in
        lt_irrefl 0 (omega arith)
