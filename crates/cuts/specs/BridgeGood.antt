-- A legal set of jumpers is good for the clusters: its effect, its parts, and that they meet `Good`.
-- Assumes nothing.
use Rattle.std.specs.Prelude.{ℕ, ◌+◌, ◌-◌, ◌*◌, ◌≤◌, ◌<◌, ◌≡◌, Bool, not, ◌&&◌, cond, ltb}
use Rattle.std.proofs.Math.Path.{refl, sym}
use Rattle.std.proofs.Common.{◌∙◌, ap}
use Rattle.std.proofs.Math.Bool.{true, false}
use native.Mathlib.Omega.{arith}
use Rattle.std.proofs.Math.Dec.{eqb}
use borrow.Author.Tests.{eq-eqb, eqb-true, eqb-false, ltb-true, ltb-false, not-true}
use Rattle.laws.specs.Sum.{χ, sum}
use Rattle.laws.specs.Sums.{by, no_both, not_true_false, and_left, and_right, and_intro, and_no_left, χ-yes, χ-no, χ-≤, sum_ap, sum-≤, sum-+, sum-zero, sum-some, term-≤, two-≤, any-yes, lowest-passes, lowest-least, highest-passes, up}
use Rattle.laws.specs.Tree.{tree, tree_is, joined_to, joined-rising}
use Rattle.net.specs.Stage.{Stage}
use Rattle.net.specs.Formed.{Formed}
use Rattle.pieces.specs.Piece.{Points}
use Rattle.pieces.specs.Legal.{Legal, size}
use Rattle.pieces.specs.Name.{cut_at, first_jumper, last_jumper, joins, lowest_node}
use Rattle.pieces.specs.Lowest.{joins-present, cut_apart, absent-apart, lowest_node-up, lowest_node-stop}
use Rattle.pieces.specs.LegalByNodes.{legal→nodes}
use Rattle.cuts.specs.Cluster.{Clusters, Sound, Effect, Parts, Good, hangs, span, point_count}
use Rattle.cuts.specs.Fits.{Fits, sourced, live_gate}
use Rattle.cuts.specs.BridgeFits.{of_free, to_stage, to-clusters, sum-nodes, root_again, host-root, sound_of_fits}
use Rattle.cuts.specs.BridgeWeight.{PartsOf, EffectOf, uncut_branch, wire_share, cluster_share, own_stretch, adds-split, χ-exchange, root-absent, gates_of_piece, weight_of_piece}

-- what a set of jumpers does to each wire
abbrev pub effect_of : Stage → Points → Effect
effect_of s J =
    record {
      cut = λ j. cut_at s J j;
      first = λ j. first_jumper s J j;
      last = λ j. last_jumper s J j;
      points = λ j. sum (s.len j) (λ t. χ (J j t) 1);
    }

-- the parts of an effect, as tree sums over the branches that are not cut
abbrev pub weight_part : Clusters → Effect → ℕ → ℕ
weight_part c e = tree c.nodes (joined_to (uncut_branch c e) c.host) (cluster_share c e)

abbrev pub gates_part : Clusters → Effect → ℕ → ℕ
gates_part c e = tree c.nodes (joined_to (uncut_branch c e) c.host) c.gates

abbrev pub parts_of : Clusters → Effect → Parts
parts_of c e =
    record {
      adds = λ j. cond (e.cut j) (c.factor j * (c.hi j - e.last j)) (weight_part c e j + span c j);
      weight = λ r. weight_part c e r;
      gates = λ r. gates_part c e r;
    }

pub parts_of_lem : (c : Clusters) → Sound c → (e : Effect) → PartsOf c e (parts_of c e)
parts_of_lem c sound e =
    record {
      adds_cut = λ j lt k cut. rw cut;
      adds_whole = λ j lt k uncut. rw uncut;
      weight_is = weight;
      gates_is = gates;
    }
  where
    rising : (i j : ℕ) → i < c.nodes → j < c.nodes → joined_to (uncut_branch c e) c.host i j ≡ true → i < j
    rising =
        joined-rising c.nodes (uncut_branch c e) c.host
        (λ j lt u. sound.host_below j lt (and_left (c.cuttable j) (not (e.cut j)) u))

    weight :
        (r : ℕ) → r < c.nodes → weight_part c e r ≡ c.fixed r + sum c.nodes (λ j. χ (hangs c r j) ((parts_of c e).adds j))
    weight r lt =
        let a = tree_is c.nodes (joined_to (uncut_branch c e) c.host) (cluster_share c e) rising r lt in
        let b =
        sum_ap c.nodes
        {f = λ j. χ (hangs c r j) ((parts_of c e).adds j)}
        {g = λ j. χ (hangs c r j) (wire_share c e j) + χ (joined_to (uncut_branch c e) c.host r j) (weight_part c e j)}
        (λ j q.
        adds-split (c.cuttable j) (e.cut j) (eqb (c.host j) r) ((parts_of c e).adds j) (weight_part c e j)
        (c.factor j * (c.hi j - e.last j)) (span c j)
        (λ k cut. rw cut)
        (λ k uncut. rw uncut)) in
        let d =
        sum-+ c.nodes
        (λ j. χ (hangs c r j) (wire_share c e j))
        (λ j. χ (joined_to (uncut_branch c e) c.host r j) (weight_part c e j)) in
        omega arith

    gates :
        (r : ℕ) → r < c.nodes → gates_part c e r ≡ c.gates r + sum c.nodes (λ j. χ (hangs c r j && not (e.cut j)) (gates_part c e j))
    gates r lt =
        tree_is c.nodes (joined_to (uncut_branch c e) c.host) c.gates rising r lt
        ∙ ap
        (λ (x : ℕ). c.gates r + x)
        (sum_ap c.nodes (λ j q. sym (χ-exchange (c.cuttable j) (eqb (c.host j) r) (not (e.cut j)) (gates_part c e j))))

module _ (s : Stage) (c : Clusters) (root component : ℕ → ℕ) (formed : Formed s) (fits : Fits s c root component) where
  -- a piece lies in one component
  pub low_component : (J : Points) (i : ℕ) → i < s.nodes → component i ≡ component (lowest_node s J i)
  low_component J =
      up s.nodes
      (λ i. component i ≡ component (lowest_node s J i))
      (λ i p same.
      by (joins s J i)
      (λ a.
      let present = joins-present s J i a in
      fits.component_up i p present
      ∙ (same (s.parent i) (formed.below i present) ∙ ap component (sym (lowest_node-up s J formed i a))))
      (λ a. ap component (sym (lowest_node-stop s J formed i a))))

  -- a live gate's piece has no source
  pub live-sourceless :
      (J : Points) (h i : ℕ) → i < s.nodes → live_gate s component i ≡ true → lowest_node s J i ≡ h → (k : ℕ) → k < s.nodes → s.source k ≡ true → lowest_node s J k ≡ h → ⊥
  unfolding live_gate sourced
  live-sourceless J h i p live low k q src low' =
      let same : component k ≡ component i =
      low_component J k q ∙ (ap component (low' ∙ sym low) ∙ sym (low_component J i p)) in
      no_both
      (any-yes s.nodes k (λ j. eqb (component j) (component i) && s.source j) q (and_intro (eq-eqb (component k) (component i) same) src))
      (not-true (sourced s component (component i)) (and_right (s.gate i) (not (sourced s component (component i))) live))

  -- a node that leads no cluster has no gates
  pub no_root_gates :
      (e : Effect) (p : Parts) → PartsOf c e p → (r : ℕ) → r < s.nodes → eqb (root r) r ≡ false → p.gates r ≡ 0
  no_root_gates e p parts r lt z =
      let ne = eqb-false (root r) r z in
      let a = parts.gates_is r (to-clusters s c root component formed fits r lt) in
      let b = fits.gates_is r lt in
      let d =
      sum-zero s.nodes
      {f = λ i. χ (eqb (root i) r && live_gate s component i) 1}
      (λ i q.
      χ-no 1
      (and_no_left (live_gate s component i)
      (not_true_false (eqb (root i) r)
      (λ y. let w = eqb-true (root i) r y in ne (ap root (sym w) ∙ (root_again s c root component formed fits i q ∙ w)))))) in
      let g =
      sum-zero c.nodes
      {f = λ j. χ (hangs c r j && not (e.cut j)) (p.gates j)}
      (λ j q.
      χ-no (p.gates j)
      (and_no_left (not (e.cut j))
      (not_true_false (hangs c r j)
      (λ y.
      let w = eqb-true (c.host j) r (and_right (c.cuttable j) (eqb (c.host j) r) y) in
      let k = and_left (c.cuttable j) (eqb (c.host j) r) y in
      ne (ap root (sym w) ∙ (host-root s c root component formed fits j (to_stage s c root component formed fits j q) k ∙ w)))))) in
      omega arith

  module _ (limit : ℕ) (J : Points) (legal : Legal s limit J) where
    effect : EffectOf s c J (effect_of s J)
    effect = record { cut_is = λ j p k. refl; first_is = λ j p k cut. refl; last_is = λ j p k cut. refl }

    parts : PartsOf c (effect_of s J) (parts_of c (effect_of s J))
    parts = parts_of_lem c (sound_of_fits s c root component formed fits) (effect_of s J)

    -- the part at h with the stretch of h's own wire is a piece
    light :
        (h : ℕ) → h < s.nodes → joins s J h ≡ false → 0 < gates_part c (effect_of s J) h → weight_part c (effect_of s J) h + own_stretch s c J h ≤ limit
    unfolding live_gate
    light h hp a some =
        let e = effect_of s J in
        let is = gates_of_piece s c root component formed fits J legal.free e (parts_of c e) effect parts h hp a in
        let r = sum-some s.nodes (λ i. χ (live_gate s component i) (χ (eqb (lowest_node s J i) h) 1)) (omega arith) in
        let i = r.0 in
        let live : live_gate s component i ≡ true = both_left (live_gate s component i) (eqb (lowest_node s J i) h) r.2 in
        let low = eqb-true (lowest_node s J i) h (both_right (live_gate s component i) (eqb (lowest_node s J i) h) r.2) in
        let w =
        legal→nodes s formed limit J legal h hp (lowest_node-stop s J formed h a) i r.1
        (and_left (s.gate i) (not (sourced s component (component i))) live)
        low
        (live-sourceless J h i r.1 live low) in
        let v = weight_of_piece s c root component formed fits J legal.free e (parts_of c e) effect parts h hp a in
        omega arith
      where
        both_left : (t u : Bool) → 0 < χ t (χ u 1) → t ≡ true
        both_left true u h = refl
        both_left false u h = absurd (native.Mathlib.Nat.lt_irrefl 0 h)

        both_right : (t u : Bool) → 0 < χ t (χ u 1) → u ≡ true
        both_right true true h = refl
        both_right true false h = absurd (native.Mathlib.Nat.lt_irrefl 0 h)
        both_right false true h = refl
        both_right false false h = absurd (native.Mathlib.Nat.lt_irrefl 0 h)

    first_point_lem : (j : ℕ) → cut_at s J j ≡ true → (first_jumper s J j < s.len j) × (J j (first_jumper s J j) ≡ true)
    unfolding cut_at first_jumper
    first_point_lem j cut = lowest-passes (s.len j) (λ t. J j t) cut

    last_point : (j : ℕ) → cut_at s J j ≡ true → (last_jumper s J j < s.len j) × (J j (last_jumper s J j) ≡ true)
    unfolding cut_at last_jumper
    last_point j cut = highest-passes (s.len j) (λ t. J j t) cut

    free_point : (j t : ℕ) → j < c.nodes → J j t ≡ true → c.free j t ≡ true
    free_point j t p h =
        fits.free_is j t (to_stage s c root component formed fits j p) ∙ of_free s j t (legal.free j t h)

    ordered : (j : ℕ) → cut_at s J j ≡ true → first_jumper s J j ≤ last_jumper s J j
    unfolding first_jumper
    ordered j cut =
        by (ltb (last_jumper s J j) (first_jumper s J j))
        (λ y.
        absurd (no_both (last_point j cut).1
        (lowest-least (s.len j) (last_jumper s J j) (λ t. J j t) (ltb-true (last_jumper s J j) (first_jumper s J j) y))))
        (λ z. ltb-false (last_jumper s J j) (first_jumper s J j) z)

    one_or_more : (j : ℕ) → cut_at s J j ≡ true → 1 ≤ sum (s.len j) (λ t. χ (J j t) 1)
    one_or_more j cut =
        let f = first_point_lem j cut in
        let a = term-≤ (s.len j) (first_jumper s J j) (λ t. χ (J j t) 1) f.0 in
        let b = χ-yes 1 f.1 in
        omega arith

    only_one : (j : ℕ) → cut_at s J j ≡ true → sum (s.len j) (λ t. χ (J j t) 1) ≡ 1 → first_jumper s J j ≡ last_jumper s J j
    only_one j cut one =
        by (eqb (first_jumper s J j) (last_jumper s J j))
        (λ y. eqb-true (first_jumper s J j) (last_jumper s J j) y)
        (λ z.
        let f = first_point_lem j cut in
        let l = last_point j cut in
        let a =
        two-≤ (s.len j) (first_jumper s J j) (last_jumper s J j) (λ t. χ (J j t) 1) f.0 l.0
        (eqb-false (first_jumper s J j) (last_jumper s J j) z) in
        let b = χ-yes 1 f.1 in
        let d = χ-yes 1 l.1 in
        absurd (native.Mathlib.Nat.lt_irrefl 0 (omega arith)))

    root_light :
        (r : ℕ) → r < c.nodes → c.cuttable r ≡ false → 0 < gates_part c (effect_of s J) r → weight_part c (effect_of s J) r ≤ limit
    root_light r p k some =
        let q = to_stage s c root component formed fits r p in
        by (eqb (root r) r)
        (λ y.
        let absent = root-absent s c root component formed fits J legal.free r q (eqb-true (root r) r y) k in
        let a = light r q (absent-apart s J r absent) some in
        omega arith)
        (λ z.
        let a = no_root_gates (effect_of s J) (parts_of c (effect_of s J)) parts r q z in
        absurd (native.Mathlib.Nat.lt_irrefl 0 (omega arith)))

    cut_light :
        (j : ℕ) → j < c.nodes → c.cuttable j ≡ true → cut_at s J j ≡ true → 0 < gates_part c (effect_of s J) j → weight_part c (effect_of s J) j + c.factor j * (first_jumper s J j - c.lo j) ≤ limit
    cut_light j p k cut some =
        let a = light j (to_stage s c root component formed fits j p) (cut_apart s J j cut) some in
        let b = χ-yes (c.factor j * (first_jumper s J j - c.lo j)) (and_intro k cut) in
        omega arith

    pub good-effect : Good c limit (effect_of s J) (parts_of c (effect_of s J))
    good-effect =
        record {
          first_free = λ j p k cut. free_point j (first_jumper s J j) p (first_point_lem j cut).1;
          last_free = λ j p k cut. free_point j (last_jumper s J j) p (last_point j cut).1;
          in_order = λ j p k cut. ordered j cut;
          some = λ j p k cut. one_or_more j cut;
          alone = λ j p k cut one. only_one j cut one;
          adds_cut = parts.adds_cut;
          adds_whole = parts.adds_whole;
          weight_is = parts.weight_is;
          gates_is = parts.gates_is;
          root_light = root_light;
          cut_light = cut_light;
        }

    pub effect-size : point_count c (effect_of s J) ≤ size s J
    unfolding point_count size
    effect-size =
        let n = sum-nodes s c root component formed fits (λ j. χ (c.cuttable j) (sum (s.len j) (λ t. χ (J j t) 1))) in
        let a =
        sum-≤ s.nodes
        {f = λ j. χ (c.cuttable j) (sum (s.len j) (λ t. χ (J j t) 1))}
        {g = λ j. sum (s.len j) (λ t. χ (J j t) 1)}
        (λ j p. χ-≤ (c.cuttable j) (sum (s.len j) (λ t. χ (J j t) 1))) in
        omega arith

    pub good_of_legal : (e : Effect) × ((p : Parts) × (Good c limit e p × (point_count c e ≤ size s J)))
    good_of_legal = (effect_of s J, (parts_of c (effect_of s J), (good-effect, effect-size)))
