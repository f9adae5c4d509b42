-- A legal set stays legal where each wire keeps only its lowest and its highest jumper: what lies between two jumpers of a wire has no gate.
-- So a smallest legal set has at most two jumpers on a wire.
-- Assumes nothing.
use Prim.Native.Nat.{ℕ, zero, suc, ◌+◌, ◌-◌, ◌*◌, ◌≤◌}
use Rattle.std.specs.Prelude.{◌≡◌, Bool, true, false, ◌&&◌, ◌||◌, List, ltb, eqb}
use Rattle.std.proofs.Math.Path.{refl, sym}
use Rattle.std.proofs.Common.{◌∙◌, arith, lt_irrefl, ltb-true, ltb-false, eq-eqb}
use Rattle.laws.specs.Sum.{χ, sum}
use Rattle.laws.specs.Sums.{by, not_true_false, and_left, and_intro, and_no_left, or_left, or_right, χ-no, sum_ap, sum-≤, sum-+, sum-zero, sum_tight, any-yes, any_none, lowest_is, highest_is, sum_pick-≤}
use Rattle.net.specs.Stage.{Stage}
use Rattle.net.specs.Formed.{Formed}
use Rattle.pieces.specs.Piece.{Points}
use Rattle.pieces.specs.Legal.{Legal, Smallest, size, listed}
use Rattle.pieces.specs.Inside.{Inside}
use Rattle.pieces.specs.Name.{cut_at, first_jumper, last_jumper, joins, follow, lowest_node}
use Rattle.pieces.specs.Weight.{wire_adds, node_weight}
use Rattle.pieces.specs.Jumpers.{uncut-none, first-uncut, last-uncut, first-jumper, last-jumper, first-last, below-first, above-last}
use Rattle.pieces.specs.LegalByNodes.{free-inside, legal→nodes, nodes→legal}
use Rattle.pieces.specs.Size.{either}
use Rattle.pieces.specs.SmallestSet.{SmallestSet}

-- the lowest and the highest jumper of each wire
unfoldable pub outer : Stage → Points → Points
outer s J i t = J i t && (eqb (first_jumper s J i) t || eqb (last_jumper s J i) t)

pub outer_in : (s : Stage) (J : Points) (i t : ℕ) → outer s J i t ≡ true → J i t ≡ true
unfolding outer
outer_in s J i t h = and_left (J i t) (eqb (first_jumper s J i) t || eqb (last_jumper s J i) t) h

outer-out : (s : Stage) (J : Points) (i t : ℕ) → J i t ≡ false → outer s J i t ≡ false
unfolding outer
outer-out s J i t h = and_no_left (eqb (first_jumper s J i) t || eqb (last_jumper s J i) t) h

module _ (s : Stage) (J : Points) (inside : Inside s J) where
  outer-inside : Inside s (outer s J)
  outer-inside i t h = inside i t (outer_in s J i t h)

  has_first : (i : ℕ) → cut_at s J i ≡ true → outer s J i (first_jumper s J i) ≡ true
  unfolding outer
  has_first i c =
      let f = first_jumper s J i in
      and_intro (first-jumper s J inside i c) (or_left (eqb (last_jumper s J i) f) (eq-eqb f f refl))

  has_last : (i : ℕ) → cut_at s J i ≡ true → outer s J i (last_jumper s J i) ≡ true
  unfolding outer
  has_last i c =
      let l = last_jumper s J i in
      and_intro (last-jumper s J inside i c) (or_right (eqb (first_jumper s J i) l) (eq-eqb l l refl))

  -- ---- the same wires are cut, with the same lowest and highest jumper
  outer-cut : (i : ℕ) → cut_at s (outer s J) i ≡ cut_at s J i
  unfolding cut_at
  outer-cut i =
      by (cut_at s J i)
      (λ c.
      let b = first-last s J inside i c in
      any-yes (s.len i) (first_jumper s J i) (λ t. outer s J i t) (omega arith) (has_first i c) ∙ sym c)
      (λ u. any_none (s.len i) (λ t. outer s J i t) (λ t p. outer-out s J i t (uncut-none s J inside i t u)) ∙ sym u)

  outer-first : (i : ℕ) → first_jumper s (outer s J) i ≡ first_jumper s J i
  outer-first i =
      by (cut_at s J i)
      (λ c.
      let b = first-last s J inside i c in
      unfold first_jumper in
      lowest_is (s.len i) (first_jumper s J i) (λ t. outer s J i t) (omega arith) (has_first i c)
      (λ t p. outer-out s J i t (below-first s J inside i t p)))
      (λ u. first-uncut s (outer s J) outer-inside i (outer-cut i ∙ u) ∙ sym (first-uncut s J inside i u))

  outer-last : (i : ℕ) → last_jumper s (outer s J) i ≡ last_jumper s J i
  outer-last i =
      by (cut_at s J i)
      (λ c.
      let b = first-last s J inside i c in
      unfold last_jumper in
      highest_is (s.len i) (last_jumper s J i) (λ t. outer s J i t) (omega arith) (has_last i c)
      (λ t p. outer-out s J i t (above-last s J inside i t p)))
      (λ u. last-uncut s (outer s J) outer-inside i (outer-cut i ∙ u) ∙ sym (last-uncut s J inside i u))

  -- ---- so the pieces with nodes are the same, and weigh the same
  outer-follow : (k i : ℕ) → follow s (outer s J) k i ≡ follow s J k i
  unfolding follow joins
  outer-follow zero i = refl
  outer-follow (suc k) i = rw (outer-cut i, outer-follow k (s.parent i))

  outer-lowest : (i : ℕ) → lowest_node s (outer s J) i ≡ lowest_node s J i
  unfolding lowest_node
  outer-lowest i = outer-follow i i

  outer-weight : (h : ℕ) → node_weight s (outer s J) h ≡ node_weight s J h
  unfolding node_weight wire_adds
  outer-weight h =
      sum_ap s.nodes (λ i p. rw (outer-lowest i, outer-lowest (s.parent i), outer-cut i, outer-first i, outer-last i))

pub outer-legal : (s : Stage) → Formed s → (limit : ℕ) (J : Points) → Legal s limit J → Legal s limit (outer s J)
outer-legal s formed limit J legal =
    nodes→legal s formed limit (outer s J)
    (λ i t h. legal.free i t (outer_in s J i t h))
    (λ h p e i q g low none.
    rw (outer-weight s J inside h)
    (legal→nodes s formed limit J legal h p (sym (outer-lowest s J inside h) ∙ e) i q g (sym (outer-lowest s J inside i) ∙ low)
    (λ k r src at. none k r src (outer-lowest s J inside k ∙ at))))
  where
    inside : Inside s J
    inside = free-inside s J legal.free

-- ---- at most two jumpers on a wire, and none on wire 0, which is not there
kept : (a b c : Bool) → χ (a && (b || c)) 1 ≤ χ b 1 + χ c 1
kept true b c = either b c
kept false b c = omega arith

outer-row : (s : Stage) (J : Points) (i : ℕ) → sum (s.len i) (λ t. χ (outer s J i t) 1) ≤ 2
unfolding outer
outer-row s J i =
    let a =
    sum-≤ (s.len i)
    {f = λ t. χ (J i t && (eqb (first_jumper s J i) t || eqb (last_jumper s J i) t)) 1}
    {g = λ t. χ (eqb (first_jumper s J i) t) 1 + χ (eqb (last_jumper s J i) t) 1}
    (λ t p. kept (J i t) (eqb (first_jumper s J i) t) (eqb (last_jumper s J i) t)) in
    let b = sum-+ (s.len i) (λ t. χ (eqb (first_jumper s J i) t) 1) (λ t. χ (eqb (last_jumper s J i) t) 1) in
    let c = sum_pick-≤ (s.len i) (first_jumper s J i) 1 in
    let d = sum_pick-≤ (s.len i) (last_jumper s J i) 1 in
    omega arith

-- a sum of terms that are at most 2, the first of them 0
sum_twos : (n : ℕ) (f : ℕ → ℕ) → f 0 ≡ 0 → ((i : ℕ) → f i ≤ 2) → sum n f ≤ 2 * (n - 1)
unfolding sum
sum_twos zero f z h = omega arith
sum_twos (suc zero) f z h = omega arith
sum_twos (suc (suc n)) f z h = let a = sum_twos (suc n) f z h in let b = h (suc n) in omega arith

pub outer-size : (s : Stage) → Formed s → (limit : ℕ) (J : Points) → Legal s limit J → size s (outer s J) ≤ 2 * (s.nodes - 1)
unfolding size
outer-size s formed limit J legal =
    sum_twos s.nodes (λ i. sum (s.len i) (λ t. χ (outer s J i t) 1))
    (sum-zero (s.len 0) (λ t p. χ-no 1 (not_true_false (outer s J 0 t) (λ h. none t (outer_in s J 0 t h)))))
    (λ i. outer-row s J i)
  where
    none : (t : ℕ) → J 0 t ≡ true → ⊥
    none t h = lt_irrefl 0 (omega (arith, formed.below 0 (legal.free 0 t h).present))

-- the rows of the outer jumpers are no longer
outer-least : (s : Stage) (J : Points) (i : ℕ) → sum (s.len i) (λ t. χ (outer s J i t) 1) ≤ sum (s.len i) (λ t. χ (J i t) 1)
outer-least s J i = sum-≤ (s.len i) (λ t p. test (outer s J i t) (J i t) (outer_in s J i t))
  where
    test : (a b : Bool) → (a ≡ true → b ≡ true) → χ a 1 ≤ χ b 1
    test true b h = rw (h refl) (omega arith)
    test false b h = omega arith

-- a smallest legal set has at most two jumpers on each wire
pub two_on_wire : (s : Stage) → Formed s → (limit : ℕ) (J : Points) → SmallestSet s limit J → (i : ℕ) → sum (s.len i) (λ t. χ (J i t) 1) ≤ 2
unfolding size
two_on_wire s formed limit J m i =
    by (ltb i s.nodes)
    (λ y.
    let few = m.fewest (outer s J) (outer-legal s formed limit J m.legal) in
    let same =
    sum_tight s.nodes {f = λ i. sum (s.len i) (λ t. χ (outer s J i t) 1)} {g = λ i. sum (s.len i) (λ t. χ (J i t) 1)} (λ j p. outer-least s J j) few i (ltb-true i s.nodes y) in
    let most = outer-row s J i in
    omega arith)
    (λ z.
    let none = sum-zero (s.len i) {f = λ t. χ (J i t) 1} (λ t p. χ-no 1 (not_true_false (J i t) (λ h. outside t h (ltb-false i s.nodes z)))) in
    omega arith)
  where
    outside : (t : ℕ) → J i t ≡ true → s.nodes ≤ i → ⊥
    outside t h le = let p = formed.inside i (m.legal.free i t h).present in lt_irrefl 0 (omega arith)

-- so a smallest list has at most two entries for each wire
pub smallest-few : (s : Stage) → Formed s → (limit : ℕ) (list : List ℕ) (n : ℕ) → Smallest s limit list n → n ≤ 2 * (s.nodes - 1)
smallest-few s formed limit list n m =
    let J = listed list n in
    let a = m.fewest (outer s J) (outer-legal s formed limit J m.legal) in
    let b = outer-size s formed limit J m.legal in
    omega arith
