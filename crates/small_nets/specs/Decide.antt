-- A test that decides whether a set is legal, and every set of no, one or two points: for nets small enough to compute.
-- Assumes nothing.
use Rattle.std.specs.Prelude.{ℕ, ◌≤◌, ◌<◌, ◌≡◌, refl, Bool, false, ◌&&◌, ◌||◌}
use Rattle.std.proofs.Common.{◌∙◌, ap, subst, arith}
use Rattle.std.proofs.Math.Path.{fun_ext}
use Rattle.std.proofs.Math.Bool.{true, not}
use Rattle.std.proofs.Math.Dec.{ltb, eqb}
use borrow.Author.Tests.{eqb-true, eqb-false, eq-eqb, le-ltb, ltb-false, not-true}
use Rattle.laws.specs.Sum.{any}
use Rattle.laws.specs.Sums.{by, no_both, and_left, and_right, and_intro, any_none, any-no, any-yes, any_some, not_true_false, not_false_true}
use Rattle.net.specs.Stage.{Stage}
use Rattle.net.specs.Formed.{Formed}
use Rattle.pieces.specs.Piece.{Points}
use Rattle.pieces.specs.Legal.{Free, Legal, NoneLegal, size}
use Rattle.pieces.specs.Name.{lowest_node}
use Rattle.pieces.specs.Weight.{node_weight}
use Rattle.pieces.specs.LegalByNodes.{LightNodes, legal→nodes, nodes→legal}
use Rattle.pieces.specs.Size.{empty, single, with, without, AllFree, none-empty, one_less, has_point}
use Rattle.cuts.specs.Fits.{free_at}
use Rattle.cuts.specs.BridgeFits.{free_of, of_free}
use Rattle.small_nets.specs.Cases.{Least, Only}

-- the piece whose lowest node is h is harmful
unfoldable pub harmful_at : Stage → ℕ → Points → ℕ → Bool
harmful_at s limit J h =
    eqb (lowest_node s J h) h
    && (any s.nodes (λ i. s.gate i && eqb (lowest_node s J i) h)
    && (not (any s.nodes (λ k. s.source k && eqb (lowest_node s J k) h)) && ltb limit (node_weight s J h)))

-- some piece with nodes is harmful
unfoldable pub harms : Stage → ℕ → Points → Bool
harms s limit J = any s.nodes (λ h. harmful_at s limit J h)

module _ (s : Stage) (formed : Formed s) (limit : ℕ) where
  pub legal-test : (J : Points) → Legal s limit J → harms s limit J ≡ false
  unfolding harms harmful_at
  legal-test J legal = any_none s.nodes (λ h. harmful_at s limit J h) (λ h lt. not_true_false (harmful_at s limit J h) (λ e. bad h lt e))
    where
      bad : (h : ℕ) → h < s.nodes → harmful_at s limit J h ≡ true → ⊥
      bad h lt e =
          let own = eqb-true (lowest_node s J h) h (and_left (eqb (lowest_node s J h) h) _ e) in
          let rest = and_right (eqb (lowest_node s J h) h) (any s.nodes (λ i. s.gate i && eqb (lowest_node s J i) h) && (not (any s.nodes (λ k. s.source k && eqb (lowest_node s J k) h)) && ltb limit (node_weight s J h))) e in
          let g = any_some s.nodes (λ i. s.gate i && eqb (lowest_node s J i) h) (and_left (any s.nodes (λ i. s.gate i && eqb (lowest_node s J i) h)) (not (any s.nodes (λ k. s.source k && eqb (lowest_node s J k) h)) && ltb limit (node_weight s J h)) rest) in
          let rest2 = and_right (any s.nodes (λ i. s.gate i && eqb (lowest_node s J i) h)) (not (any s.nodes (λ k. s.source k && eqb (lowest_node s J k) h)) && ltb limit (node_weight s J h)) rest in
          let src = not-true (any s.nodes (λ k. s.source k && eqb (lowest_node s J k) h)) (and_left (not (any s.nodes (λ k. s.source k && eqb (lowest_node s J k) h))) (ltb limit (node_weight s J h)) rest2) in
          let heavy = and_right (not (any s.nodes (λ k. s.source k && eqb (lowest_node s J k) h))) (ltb limit (node_weight s J h)) rest2 in
          let light =
          legal→nodes s formed limit J legal h lt own g.0 g.1 (and_left (s.gate g.0) (eqb (lowest_node s J g.0) h) g.2) (eqb-true (lowest_node s J g.0) h (and_right (s.gate g.0) (eqb (lowest_node s J g.0) h) g.2))
          (λ k r sk low. no_both (any-yes s.nodes k (λ x. s.source x && eqb (lowest_node s J x) h) r (and_intro sk (eq-eqb (lowest_node s J k) h low))) src) in
          no_both heavy (le-ltb limit (node_weight s J h) light)

  pub test-legal : (J : Points) → AllFree s J → harms s limit J ≡ false → Legal s limit J
  unfolding harms harmful_at
  test-legal J free none = nodes→legal s formed limit J free light
    where
      light : LightNodes s limit J
      light h lt own i r g low src =
          by (ltb limit (node_weight s J h))
          (λ y. absurd (no_both (and_intro (eq-eqb (lowest_node s J h) h own) (and_intro (any-yes s.nodes i (λ x. s.gate x && eqb (lowest_node s J x) h) r (and_intro g (eq-eqb (lowest_node s J i) h low))) (and_intro (ap not (any_none s.nodes (λ x. s.source x && eqb (lowest_node s J x) h) (λ k q. not_true_false (s.source k && eqb (lowest_node s J k) h) (λ e. src k q (and_left (s.source k) (eqb (lowest_node s J k) h) e) (eqb-true (lowest_node s J k) h (and_right (s.source k) (eqb (lowest_node s J k) h) e)))))) y))) (any-no s.nodes h (λ x. harmful_at s limit J x) none lt)))
          (λ z. ltb-false limit (node_weight s J h) z)

-- sets of one and of two points
abbrev pub one : ℕ → ℕ → Points
one i t = with empty i t

abbrev pub two : ℕ → ℕ → ℕ → ℕ → Points
two i t j p = with (one j p) i t

-- some point that may be cut passes the test
unfoldable pub somewhere : Stage → Points → Bool
somewhere s f = any s.nodes (λ i. any (s.len i) (λ t. free_at s i t && f i t))

pub nowhere : (s : Stage) → Formed s → (f : Points) → somewhere s f ≡ false → (i t : ℕ) → Free s i t → f i t ≡ false
unfolding somewhere
nowhere s formed f none i t free =
    not_true_false (f i t)
    (λ e. no_both (any-yes s.nodes i (λ j. any (s.len j) (λ p. free_at s j p && f j p)) (formed.inside i free.present) (any-yes (s.len i) t (λ p. free_at s i p && f i p) free.high (and_intro (of_free s i t free) e))) none)

-- a set is one of its points with the others
rejoin : (J : Points) (i t : ℕ) → J i t ≡ true → J ≡ with (without J i t) i t
rejoin J i t h = fun_ext (λ j. fun_ext (λ p. go (single i t j p) (J j p) (λ e. rw (← eqb-true i j (and_left (eqb i j) (eqb t p) e), ← eqb-true t p (and_right (eqb i j) (eqb t p) e)) h)))
  where
    go : (a b : Bool) → (a ≡ true → b ≡ true) → b ≡ (a || (not a && b))
    go true b k = k refl
    go false b k = refl

fewer-free : (s : Stage) (J : Points) (i t : ℕ) → AllFree s J → AllFree s (without J i t)
fewer-free s J i t free j p h = free j p (and_right (not (single i t j p)) (J j p) h)

module _ (s : Stage) (formed : Formed s) (J : Points) (free : AllFree s J) where
  pub size_1 : size s J ≡ 1 → (i : ℕ) × (t : ℕ) × Free s i t × (J ≡ one i t)
  size_1 e =
      let w = has_point s formed J free 0 e in
      let i = w.0 in
      let t = w.1 in
      let less = one_less s formed J free i t w.2 in
      let rest : without J i t ≡ empty = none-empty s formed (without J i t) (fewer-free s J i t free) (omega arith) in
      (i, t, free i t w.2, rejoin J i t w.2 ∙ ap (λ (K : Points). with K i t) rest)

pub size_2 : (s : Stage) (formed : Formed s) (J : Points) → AllFree s J → size s J ≡ 2 → (i : ℕ) × (t : ℕ) × (j : ℕ) × (p : ℕ) × Free s i t × Free s j p × (J ≡ two i t j p)
size_2 s formed J free e =
    let w = has_point s formed J free 1 e in
    let i = w.0 in
    let t = w.1 in
    let less = one_less s formed J free i t w.2 in
    let v = size_1 s formed (without J i t) (fewer-free s J i t free) (omega arith) in
    (i, t, v.0, v.1, free i t w.2, v.2, rejoin J i t w.2 ∙ ap (λ (K : Points). with K i t) v.3)

-- points of one and of two
pub one_free : (s : Stage) (i t : ℕ) → free_at s i t ≡ true → AllFree s (one i t)
one_free s i t h j p e = go (single i t j p) refl e
  where
    go : (a : Bool) → single i t j p ≡ a → (a || false) ≡ true → Free s j p
    go true q f = free_of s j p (rw (← eqb-true i j (and_left (eqb i j) (eqb t p) q), ← eqb-true t p (and_right (eqb i j) (eqb t p) q)) h)
    go false q f = absurd (no_both f refl)

pub single-free : (s : Stage) (i t : ℕ) → free_at s i t ≡ true → AllFree s (single i t)
single-free s i t h j p q =
    free_of s j p (rw (← eqb-true i j (and_left (eqb i j) (eqb t p) q), ← eqb-true t p (and_right (eqb i j) (eqb t p) q)) h)

pub two-free : (s : Stage) (i t j p : ℕ) → free_at s i t ≡ true → free_at s j p ≡ true → AllFree s (two i t j p)
two-free s i t j p h k x y e = go (single i t x y) refl e
  where
    go : (a : Bool) → single i t x y ≡ a → (a || one j p x y) ≡ true → Free s x y
    go true q f = free_of s x y (rw (← eqb-true i x (and_left (eqb i x) (eqb t y) q), ← eqb-true t y (and_right (eqb i x) (eqb t y) q)) h)
    go false q f = one_free s j p k x y f

module _ (s : Stage) (formed : Formed s) (limit : ℕ) where
  -- no jumper
  pub least_0 : harms s limit empty ≡ false → size s empty ≡ 0 → Least s limit 0
  least_0 h z =
      record { set = empty; legal = test-legal s formed limit empty (λ i t e. absurd (no_both e refl)) h; points = z; fewest = λ J legal. omega arith }

  -- the empty set is not legal
  at_least_1 : harms s limit empty ≡ true → (J : Points) → Legal s limit J → 1 ≤ size s J
  at_least_1 h J legal =
      by (eqb (size s J) 0)
      (λ z. absurd (no_both h (subst (λ (K : Points). harms s limit K ≡ false) (none-empty s formed J legal.free (eqb-true (size s J) 0 z)) (legal-test s formed limit J legal))))
      (λ z. let ne = eqb-false (size s J) 0 z in omega arith)

  pub least_1 : (i t : ℕ) → harms s limit empty ≡ true → free_at s i t ≡ true → harms s limit (one i t) ≡ false → size s (one i t) ≡ 1 → Least s limit 1
  least_1 i t h f g z =
      record { set = one i t; legal = test-legal s formed limit (one i t) (one_free s i t f) g; points = z; fewest = at_least_1 h }

  -- one jumper is enough only where the test passes
  pub only_1 : (passes : Points) → somewhere s (λ i t. not (harms s limit (one i t)) && not (passes i t)) ≡ false → Only s limit 1 passes
  only_1 passes none J legal e i t h =
      let w = size_1 s formed J legal.free e in
      let light = subst (λ (K : Points). harms s limit K ≡ false) w.3 (legal-test s formed limit J legal) in
      let out = nowhere s formed (λ i t. not (harms s limit (one i t)) && not (passes i t)) none w.0 w.1 w.2 in
      let same : one w.0 w.1 i t ≡ true = subst (λ (K : Points). K i t ≡ true) w.3 h in
      at w.0 w.1 light out (single w.0 w.1 i t) refl same
    where
      at : (j p : ℕ) → harms s limit (one j p) ≡ false → (not (harms s limit (one j p)) && not (passes j p)) ≡ false → (a : Bool) → single j p i t ≡ a → (a || false) ≡ true → passes i t ≡ true
      at j p light out true q f =
          rw (← eqb-true j i (and_left (eqb j i) (eqb p t) q), ← eqb-true p t (and_right (eqb j i) (eqb p t) q))
          (not_false_true (passes j p) (λ z. no_both (and_intro (ap not light) (ap not z)) out))
      at j p light out false q f = absurd (no_both f refl)

  -- neither no jumper nor one
  at_least_2 : harms s limit empty ≡ true → somewhere s (λ i t. not (harms s limit (one i t))) ≡ false → (J : Points) → Legal s limit J → 2 ≤ size s J
  at_least_2 h none J legal =
      let a = at_least_1 h J legal in
      by (eqb (size s J) 1)
      (λ z.
      let w = size_1 s formed J legal.free (eqb-true (size s J) 1 z) in
      let light = subst (λ (K : Points). harms s limit K ≡ false) w.3 (legal-test s formed limit J legal) in
      absurd (no_both (ap not light) (nowhere s formed (λ i t. not (harms s limit (one i t))) none w.0 w.1 w.2)))
      (λ z. let ne = eqb-false (size s J) 1 z in omega arith)

  pub least_2 :
      (i t j p : ℕ) → harms s limit empty ≡ true → somewhere s (λ i t. not (harms s limit (one i t))) ≡ false → free_at s i t ≡ true → free_at s j p ≡ true →
      harms s limit (two i t j p) ≡ false → size s (two i t j p) ≡ 2 → Least s limit 2
  least_2 i t j p h none f k g z =
      record { set = two i t j p; legal = test-legal s formed limit (two i t j p) (two-free s i t j p f k) g; points = z; fewest = at_least_2 h none }

  -- nothing may be cut, and the empty set is not legal
  pub none_free : harms s limit empty ≡ true → somewhere s (λ i t. true) ≡ false → NoneLegal s limit
  none_free h none J legal =
      no_both h
      (subst (λ (K : Points). harms s limit K ≡ false) (fun_ext (λ i. fun_ext (λ t. not_true_false (J i t) (λ e. no_both refl (nowhere s formed (λ i t. true) none i t (legal.free i t e)))))) (legal-test s formed limit J legal))

  -- two jumpers are enough only where the test passes
  pub only_2 :
      (passes : Points) → somewhere s (λ i t. somewhere s (λ j p. not (harms s limit (two i t j p)) && not (passes i t && passes j p))) ≡ false → Only s limit 2 passes
  only_2 passes none J legal e i t h =
      let w = size_2 s formed J legal.free e in
      let light = subst (λ (K : Points). harms s limit K ≡ false) w.6 (legal-test s formed limit J legal) in
      let row = nowhere s formed (λ i t. somewhere s (λ j p. not (harms s limit (two i t j p)) && not (passes i t && passes j p))) none w.0 w.1 w.4 in
      let out = nowhere s formed (λ j p. not (harms s limit (two w.0 w.1 j p)) && not (passes w.0 w.1 && passes j p)) row w.2 w.3 w.5 in
      let both = not_false_true (passes w.0 w.1 && passes w.2 w.3) (λ z. no_both (and_intro (ap not light) (ap not z)) out) in
      let same : two w.0 w.1 w.2 w.3 i t ≡ true = subst (λ (K : Points). K i t ≡ true) w.6 h in
      which w.0 w.1 w.2 w.3 (and_left (passes w.0 w.1) (passes w.2 w.3) both) (and_right (passes w.0 w.1) (passes w.2 w.3) both) (single w.0 w.1 i t) (single w.2 w.3 i t) refl refl same
    where
      moved : (j p : ℕ) → passes j p ≡ true → single j p i t ≡ true → passes i t ≡ true
      moved j p h q = rw (← eqb-true j i (and_left (eqb j i) (eqb p t) q), ← eqb-true p t (and_right (eqb j i) (eqb p t) q)) h

      which : (j p k q : ℕ) → passes j p ≡ true → passes k q ≡ true → (a b : Bool) → single j p i t ≡ a → single k q i t ≡ b → (a || (b || false)) ≡ true → passes i t ≡ true
      which j p k q x y true b ea eb f = moved j p x ea
      which j p k q x y false true ea eb f = moved k q y eb
      which j p k q x y false false ea eb f = absurd (no_both f refl)
