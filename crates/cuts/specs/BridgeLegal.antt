-- A good set with at most two points on a wire, and none where the component has a source, is legal, and its points are as many as it counts.
-- Assumes nothing.
use Rattle.std.specs.Prelude.{ℕ, ◌+◌, ◌-◌, ◌*◌, ◌<◌, ◌≡◌, refl, Bool, true, false, ◌&&◌, ◌||◌, cond, ltb}
use Rattle.std.proofs.Math.Path.{sym}
use Rattle.std.proofs.Common.{◌∙◌, ap, arith}
use Rattle.std.proofs.Math.Bool.{not}
use Rattle.std.proofs.Math.Dec.{eqb}
use borrow.Author.Tests.{eq-eqb, ne_eqb, eqb-true, eqb-false, ltb-true, lt-ltb}
use Rattle.laws.specs.Sum.{χ, sum}
use Rattle.laws.specs.Sums.{by, no_both, not_true_false, not_false_true, and_left, and_right, and_intro, and_no_left, or_left, or_right, χ-yes, χ-no, sum_ap, sum-+, sum-zero, sum-pick, term-≤, any-yes, any_none, any_some, lowest_is, highest_is, up}
use Rattle.net.specs.Stage.{Stage}
use Rattle.net.specs.Formed.{Formed}
use Rattle.pieces.specs.Legal.{Free, Legal, size}
use Rattle.pieces.specs.Name.{cut_at, first_jumper, last_jumper, lowest_node}
use Rattle.pieces.specs.Lowest.{joins-yes, absent-apart, lowest_node-up, lowest_node-stop, head_apart}
use Rattle.pieces.specs.LegalByNodes.{LightNodes, nodes→legal}
use Rattle.cuts.specs.Cluster.{Clusters, Effect, Parts, Good, point_count}
use Rattle.cuts.specs.Fits.{Fits, sourced, live_gate, points_of}
use Rattle.cuts.specs.BridgeFits.{free_of, to_stage, to-clusters, sum-nodes, cuttable-present}
use Rattle.cuts.specs.BridgeWeight.{PartsOf, EffectOf, fixed-uncut, gates_of_piece, weight_of_piece}

-- at most two points on a wire: the first and the last
abbrev pub Exact : Clusters → Effect → Type 0
Exact c e = (j : ℕ) → j < c.nodes → c.cuttable j ≡ true → e.points j ≡ χ (e.cut j) (cond (eqb (e.first j) (e.last j)) 1 2)

-- no cut where the component has a source
abbrev pub SourcesUncut : Stage → Clusters → (ℕ → ℕ) → Effect → Type 0
SourcesUncut s c component e = (j : ℕ) → j < c.nodes → c.cuttable j ≡ true → sourced s component (component j) ≡ true → e.cut j ≡ false

pub parts_of_good : (c : Clusters) (limit : ℕ) (e : Effect) (p : Parts) → Good c limit e p → PartsOf c e p
parts_of_good c limit e p good =
    record {
      adds_cut = good.adds_cut;
      adds_whole = good.adds_whole;
      weight_is = good.weight_is;
      gates_is = good.gates_is;
    }

-- ---- the points of an effect
module _ (c : Clusters) (e : Effect) where
  pub points-yes : (i t : ℕ) → i < c.nodes → c.cuttable i ≡ true → e.cut i ≡ true → points_of c e i t ≡ (eqb t (e.first i) || eqb t (e.last i))
  unfolding points_of
  points-yes i t p k cut = rw (lt-ltb i c.nodes p, k, cut)

  pub points-inside : (i t : ℕ) → points_of c e i t ≡ true → (i < c.nodes) × (c.cuttable i ≡ true) × (e.cut i ≡ true)
  unfolding points_of
  points-inside i t h =
      let some = eqb t (e.first i) || eqb t (e.last i) in
      let a = and_right (ltb i c.nodes) (c.cuttable i && (e.cut i && some)) h in
      let b = and_right (c.cuttable i) (e.cut i && some) a in
      (ltb-true i c.nodes (and_left (ltb i c.nodes) (c.cuttable i && (e.cut i && some)) h), and_left (c.cuttable i) (e.cut i && some) a, and_left (e.cut i) some b)

  pub points_none : (i t : ℕ) → c.cuttable i ≡ true → e.cut i ≡ false → points_of c e i t ≡ false
  points_none i t k uncut = not_true_false (points_of c e i t) (λ h. no_both (points-inside i t h).2 uncut)

  pub points-first : (i : ℕ) → i < c.nodes → c.cuttable i ≡ true → e.cut i ≡ true → points_of c e i (e.first i) ≡ true
  points-first i p k cut =
      points-yes i (e.first i) p k cut ∙ or_left (eqb (e.first i) (e.last i)) (eq-eqb (e.first i) (e.first i) refl)

  pub points-last : (i : ℕ) → i < c.nodes → c.cuttable i ≡ true → e.cut i ≡ true → points_of c e i (e.last i) ≡ true
  points-last i p k cut =
      points-yes i (e.last i) p k cut ∙ or_right (eqb (e.last i) (e.first i)) (eq-eqb (e.last i) (e.last i) refl)

  points_other :
      (i t : ℕ) → i < c.nodes → c.cuttable i ≡ true → e.cut i ≡ true → (t ≡ e.first i → ⊥) → (t ≡ e.last i → ⊥) → points_of c e i t ≡ false
  points_other i t p k cut f l =
      points-yes i t p k cut ∙ rw (ne_eqb t (e.first i) f, ne_eqb t (e.last i) l)

module _
    (s : Stage)
    (c : Clusters)
    (root component : ℕ → ℕ)
    (formed : Formed s)
    (fits : Fits s c root component)
    (limit : ℕ)
    (e : Effect)
    (p : Parts)
    (good : Good c limit e p) where
  free_point : (i t : ℕ) → i < c.nodes → c.free i t ≡ true → Free s i t
  free_point i t q f = free_of s i t (sym (fits.free_is i t (to_stage s c root component formed fits i q)) ∙ f)

  first_point_lem : (i : ℕ) → i < c.nodes → c.cuttable i ≡ true → e.cut i ≡ true → Free s i (e.first i)
  first_point_lem i q k cut = free_point i (e.first i) q (good.first_free i q k cut)

  last_point : (i : ℕ) → i < c.nodes → c.cuttable i ≡ true → e.cut i ≡ true → Free s i (e.last i)
  last_point i q k cut = free_point i (e.last i) q (good.last_free i q k cut)

  pub points-free : (i t : ℕ) → points_of c e i t ≡ true → Free s i t
  points-free i t h =
      let a = points-inside c e i t h in
      by (eqb t (e.first i))
      (λ y. let w = eqb-true t (e.first i) y in rw w (first_point_lem i a.0 a.1 a.2))
      (λ z.
      let l : eqb t (e.last i) ≡ true = rw z at (sym (points-yes c e i t a.0 a.1 a.2) ∙ h) in
      let w = eqb-true t (e.last i) l in
      rw w (last_point i a.0 a.1 a.2))

  cut_is : (j : ℕ) → j < s.nodes → c.cuttable j ≡ true → e.cut j ≡ cut_at s (points_of c e) j
  unfolding cut_at
  cut_is j q k =
      let q' = to-clusters s c root component formed fits j q in
      by (e.cut j)
      (λ cut.
      cut
      ∙ sym (any-yes (s.len j) (e.first j) (λ t. points_of c e j t) (first_point_lem j q' k cut).high (points-first c e j q' k cut)))
      (λ uncut. uncut ∙ sym (any_none (s.len j) (λ t. points_of c e j t) (λ t lt. points_none c e j t k uncut)))

  pub points-effect : EffectOf s c (points_of c e) e
  unfolding first_jumper last_jumper
  points-effect =
      record {
        cut_is = cut_is;
        first_is = λ j q k cut.
            let q' = to-clusters s c root component formed fits j q in
            let ec = cut_is j q k ∙ cut in
            let order = good.in_order j q' k ec in
            sym
            (lowest_is (s.len j) (e.first j) (λ t. points_of c e j t) (first_point_lem j q' k ec).high (points-first c e j q' k ec)
            (λ t lt. points_other c e j t q' k ec (λ w. native.Mathlib.Nat.lt_irrefl 0 (omega arith)) (λ w. native.Mathlib.Nat.lt_irrefl 0 (omega arith))));
        last_is = λ j q k cut.
            let q' = to-clusters s c root component formed fits j q in
            let ec = cut_is j q k ∙ cut in
            let order = good.in_order j q' k ec in
            sym
            (highest_is (s.len j) (e.last j) (λ t. points_of c e j t) (last_point j q' k ec).high (points-last c e j q' k ec)
            (λ t lt. points_other c e j t q' k ec (λ w. native.Mathlib.Nat.lt_irrefl 0 (omega arith)) (λ w. native.Mathlib.Nat.lt_irrefl 0 (omega arith))));
      }

  -- ---- a component with a source stays whole
  whole_component :
      SourcesUncut s c component e → (i : ℕ) → i < s.nodes → sourced s component (component i) ≡ true → lowest_node s (points_of c e) i ≡ component i
  whole_component kept =
      up s.nodes
      (λ i. sourced s component (component i) ≡ true → lowest_node s (points_of c e) i ≡ component i)
      (λ i q whole src.
      by (s.present i)
      (λ present.
      let J = points_of c e in
      let up = fits.component_up i q present in
      let uncut : cut_at s J i ≡ false =
      by (c.cuttable i)
      (λ k. sym (cut_is i q k) ∙ kept i (to-clusters s c root component formed fits i q) k src)
      (λ k. fixed-uncut s c root component formed fits J points-free i q k) in
      lowest_node-up s J formed i (joins-yes s J i present uncut)
      ∙ (whole (s.parent i) (formed.below i present) (ap (λ (x : ℕ). sourced s component x) (sym up) ∙ src) ∙ sym up))
      (λ absent.
      lowest_node-stop s (points_of c e) formed i (absent-apart s (points_of c e) i absent)
      ∙ sym (fits.component_own i q absent)))

  -- a gate of a piece without a source is live
  live : SourcesUncut s c component e → (h i : ℕ) → i < s.nodes → s.gate i ≡ true → lowest_node s (points_of c e) i ≡ h → ((k : ℕ) → k < s.nodes → s.source k ≡ true → lowest_node s (points_of c e) k ≡ h → ⊥) → live_gate s component i ≡ true
  unfolding live_gate sourced
  live kept h i q gate low none =
      and_intro gate
      (ap not
      (not_true_false (sourced s component (component i))
      (λ src.
      let r = any_some s.nodes (λ j. eqb (component j) (component i) && s.source j) src in
      let k = r.0 in
      let same = eqb-true (component k) (component i) (and_left (eqb (component k) (component i)) (s.source k) r.2) in
      none k r.1 (and_right (eqb (component k) (component i)) (s.source k) r.2)
      (whole_component kept k r.1 (ap (λ (x : ℕ). sourced s component x) same ∙ src)
      ∙ (same ∙ (sym (whole_component kept i q src) ∙ low))))))

  light : SourcesUncut s c component e → LightNodes s limit (points_of c e)
  light kept h hp head i q gate low none =
      let J = points_of c e in
      let parts = parts_of_good c limit e p good in
      let apart = head_apart s J formed h head in
      let hp' = to-clusters s c root component formed fits h hp in
      let is = gates_of_piece s c root component formed fits J points-free e p points-effect parts h hp apart in
      let one = term-≤ s.nodes i (λ j. χ (live_gate s component j) (χ (eqb (lowest_node s J j) h) 1)) q in
      let a = χ-yes (χ (eqb (lowest_node s J i) h) 1) (live kept h i q gate low none) in
      let b = χ-yes 1 (eq-eqb (lowest_node s J i) h low) in
      let w = weight_of_piece s c root component formed fits J points-free e p points-effect parts h hp apart in
      by (c.cuttable h)
      (λ k.
      let cut : cut_at s J h ≡ true =
      not_false_true (cut_at s J h)
      (λ uncut. no_both (joins-yes s J h (cuttable-present s c root component formed fits h hp k) uncut) apart) in
      let most = good.cut_light h hp' k (cut_is h hp k ∙ cut) (omega arith) in
      let own = χ-yes (c.factor h * (first_jumper s J h - c.lo h)) (and_intro k cut) in
      let first : c.factor h * (e.first h - c.lo h) ≡ c.factor h * (first_jumper s J h - c.lo h) =
      ap (λ (x : ℕ). c.factor h * (x - c.lo h)) (points-effect.first_is h hp k cut) in
      omega arith)
      (λ k.
      let most = good.root_light h hp' k (omega arith) in
      let own = χ-no (c.factor h * (first_jumper s J h - c.lo h)) (and_no_left (cut_at s J h) k) in
      omega arith)

  -- ---- the number of points
  two-points : (n a b : ℕ) → a < n → b < n → sum n (λ t. χ (eqb t a || eqb t b) 1) ≡ cond (eqb a b) 1 2
  two-points n a b p q =
      by (eqb a b)
      (λ y.
      let w = eqb-true a b y in
      rw y
      (sum_ap n {g = λ t. χ (eqb t a) 1} (λ t lt. ap (λ (x : ℕ). χ (eqb t a || eqb t x) 1) (sym w) ∙ ap (λ u. χ u 1) (same (eqb t a)))
      ∙ sum-pick n a (λ t. 1) p))
      (λ z.
      let ne = eqb-false a b z in
      let add = sum-+ n (λ t. χ (eqb t a) 1) (λ t. χ (eqb t b) 1) in
      let x = sum-pick n a (λ t. 1) p in
      let y = sum-pick n b (λ t. 1) q in
      let each =
      sum_ap n
      {f = λ t. χ (eqb t a || eqb t b) 1}
      {g = λ t. χ (eqb t a) 1 + χ (eqb t b) 1}
      (λ t lt. either (eqb t a) (eqb t b) (λ u v. ne (sym (eqb-true t a u) ∙ eqb-true t b v))) in
      rw z (omega arith))
    where
      same : (u : Bool) → (u || u) ≡ u
      same true = refl
      same false = refl

      either : (u v : Bool) → (u ≡ true → v ≡ true → ⊥) → χ (u || v) 1 ≡ χ u 1 + χ v 1
      either true true h = absurd (h refl refl)
      either true false h = refl
      either false true h = refl
      either false false h = refl

  wire-points : Exact c e → (i : ℕ) → i < s.nodes → sum (s.len i) (λ t. χ (points_of c e i t) 1) ≡ χ (c.cuttable i) (e.points i)
  wire-points exact i q =
      let q' = to-clusters s c root component formed fits i q in
      by (c.cuttable i)
      (λ k.
      by (e.cut i)
      (λ cut.
      sum_ap (s.len i) (λ t lt. ap (λ u. χ u 1) (points-yes c e i t q' k cut))
      ∙ (two-points (s.len i) (e.first i) (e.last i) (first_point_lem i q' k cut).high (last_point i q' k cut).high
      ∙ sym
      (χ-yes (e.points i) k
      ∙ (exact i q' k ∙ χ-yes (cond (eqb (e.first i) (e.last i)) 1 2) cut))))
      (λ uncut.
      sum-zero (s.len i) (λ t lt. χ-no 1 (points_none c e i t k uncut))
      ∙ sym
      (χ-yes (e.points i) k
      ∙ (exact i q' k ∙ χ-no (cond (eqb (e.first i) (e.last i)) 1 2) uncut))))
      (λ k.
      sum-zero (s.len i)
      (λ t lt. χ-no 1 (not_true_false (points_of c e i t) (λ h. no_both (points-inside c e i t h).1 k)))
      ∙ sym (χ-no (e.points i) k))

  pub points-size : Exact c e → size s (points_of c e) ≡ point_count c e
  unfolding size point_count
  points-size exact =
      sum_ap s.nodes (wire-points exact) ∙ sym (sum-nodes s c root component formed fits (λ j. χ (c.cuttable j) (e.points j)))

  pub points-legal : SourcesUncut s c component e → Legal s limit (points_of c e)
  points-legal kept = nodes→legal s formed limit (points_of c e) points-free (light kept)

  pub legal_of_good : Exact c e → SourcesUncut s c component e → Legal s limit (points_of c e) × (size s (points_of c e) ≡ point_count c e)
  legal_of_good exact kept = (points-legal kept, points-size exact)
