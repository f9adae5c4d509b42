-- What both passes of repair give, for the net at a stage: the chosen points are a legal set, no legal set has fewer, and a hopeless cluster leaves no legal set.
-- Assumes nothing.
use Rattle.std.specs.Prelude.{ℕ, suc, ◌+◌, ◌*◌, ◌≤◌, ◌<◌, ◌≡◌, refl, Bool, true, false, not, ◌&&◌, ◌||◌, cond, List, eqb, length}
use Rattle.std.proofs.Common.{sym, ◌∙◌, arith}
use Rattle.std.proofs.Math.Path.{ap, fun_ext}
use borrow.Author.Tests.{eq-eqb, ne_eqb, eqb-true, not-true}
use Rattle.laws.specs.Sum.{χ}
use Rattle.laws.specs.Sums.{by, no_both, not_true_false, and_left, and_right, χ-no, sum-zero, up}
use Rattle.net.specs.Layout.{entry_bytes}
use Rattle.net.specs.Stage.{Stage}
use Rattle.net.specs.Formed.{Formed}
use Rattle.pieces.specs.Piece.{Points}
use Rattle.pieces.specs.Legal.{Legal, NoneLegal, Smallest, size, listed}
use Rattle.pieces.specs.Rises.{Rises, rises-after}
use Rattle.cuts.specs.Cluster.{Clusters, Sound, Parts, Good}
use Rattle.cuts.specs.Passes.{Down, Up, Run, stops, chosen_effect, total_fewest}
use Rattle.cuts.specs.Fits.{Fits, sourced, live_gate, points_of}
use Rattle.cuts.specs.ChosenModes.{near-below}
use Rattle.cuts.specs.ChosenGood.{chosen-good}
use Rattle.cuts.specs.ChosenCount.{chosen-count}
use Rattle.cuts.specs.ChosenSources.{gateless_uncut}
use Rattle.cuts.specs.LowerCount.{fewest-points}
use Rattle.cuts.specs.LowerParts.{hopeless}
use Rattle.cuts.specs.BridgeFits.{to_stage, parent-inside, cuttable-present, sound_of_fits}
use Rattle.cuts.specs.BridgeGood.{good_of_legal}
use Rattle.cuts.specs.BridgeLegal.{Exact, SourcesUncut, points-legal, points-size}

-- the same points are legal
pub legal-same : (s : Stage) (limit : ℕ) (J K : Points) → ((i t : ℕ) → J i t ≡ K i t) → Legal s limit K → Legal s limit J
legal-same s limit J K same legal =
    let e : J ≡ K = fun_ext (λ i. fun_ext (λ t. same i t)) in rw e legal

-- the chosen points: one, or two that differ
pub chosen_exact : (c : Clusters) (limit : ℕ) (d : Down) (u : Up) → Sound c → Run c limit d u → Exact c (chosen_effect c d u)
chosen_exact c limit d u sound run j p k =
    go (stops d j) (u.cut_high j) (λ q. near-below c limit d sound j p k (run.counted.climbed j (omega arith) p k) q)
  where
    go :
        (a b : Bool) → (a ≡ true → d.near j < c.hi j) → χ a 1 + χ b 1 ≡ χ (a || b) (cond (eqb (cond a (d.near j) (c.hi j)) (cond b (c.hi j) (d.near j))) 1 2)
    go true true below =
        let l = below refl in
        rw (ne_eqb (d.near j) (c.hi j) (λ w. native.Mathlib.Nat.lt_irrefl 0 (omega arith))) refl
    go true false below = rw (eq-eqb (d.near j) (d.near j) refl) refl
    go false true below = rw (eq-eqb (c.hi j) (c.hi j) refl) refl
    go false false below = refl

module _ (s : Stage) (c : Clusters) (root component : ℕ → ℕ) (formed : Formed s) (fits : Fits s c root component) where
  -- ---- a cluster lies in one component
  root_component : (i : ℕ) → i < s.nodes → component i ≡ component (root i)
  root_component =
      up s.nodes
      (λ i. component i ≡ component (root i))
      (λ i p same.
      by (s.present i && not (c.cuttable i))
      (λ a.
      let present = and_left (s.present i) (not (c.cuttable i)) a in
      let k = not-true (c.cuttable i) (and_right (s.present i) (not (c.cuttable i)) a) in
      fits.component_up i p present
      ∙ (same (s.parent i) (formed.below i present) ∙ ap component (sym (fits.root_up i p present k))))
      (λ a. ap component (sym (fits.root_own i p a))))

  pub host_component : (j : ℕ) → j < s.nodes → c.cuttable j ≡ true → component (c.host j) ≡ component j
  host_component j p k =
      let present = cuttable-present s c root component formed fits j p k in
      ap component (fits.host_is j p k)
      ∙ (sym (root_component (s.parent j) (parent-inside s c root component formed fits j p present))
      ∙ sym (fits.component_up j p present))

  -- a component with a source has no live gate
  pub sourced_gateless : (r : ℕ) → r < s.nodes → sourced s component (component r) ≡ true → c.gates r ≡ 0
  unfolding live_gate
  sourced_gateless r p src =
      fits.gates_is r p
      ∙ sum-zero s.nodes
      (λ i q.
      χ-no 1
      (not_true_false (eqb (root i) r && live_gate s component i)
      (λ y.
      let w = eqb-true (root i) r (and_left (eqb (root i) r) (live_gate s component i) y) in
      let live = and_right (eqb (root i) r) (live_gate s component i) y in
      no_both
      (ap (λ (x : ℕ). sourced s component x) (root_component i q ∙ ap component w) ∙ src)
      (not-true (sourced s component (component i)) (and_right (s.gate i) (not (sourced s component (component i))) live)))))

  -- a cluster with a gate whose fixed weight is above the limit
  pub hopeless-none : (limit r : ℕ) → r < c.nodes → 0 < c.gates r → limit < c.fixed r → NoneLegal s limit
  hopeless-none limit r p gated over J legal =
      let g = good_of_legal s c root component formed fits limit J legal in
      hopeless c limit g.0 g.1.0 (sound_of_fits s c root component formed fits) g.1.1.0 r p gated over

  module _ (limit : ℕ) (d : Down) (u : Up) (run : Run c limit d u) where
    sound : Sound c
    sound = sound_of_fits s c root component formed fits

    good : (p : Parts) × Good c limit (chosen_effect c d u) p
    good = chosen-good c limit d u sound run

    sources-uncut : SourcesUncut s c component (chosen_effect c d u)
    sources-uncut j p k src =
        gateless_uncut c limit d u sound run (λ r. sourced s component (component r))
        (λ i q ki. ap (λ (x : ℕ). sourced s component x) (host_component i (to_stage s c root component formed fits i q) ki))
        (λ r q. sourced_gateless r (to_stage s c root component formed fits r q))
        j p src

    pub chosen-legal : Legal s limit (points_of c (chosen_effect c d u))
    chosen-legal =
        points-legal s c root component formed fits limit (chosen_effect c d u) good.0 good.1 sources-uncut

    pub chosen-size : size s (points_of c (chosen_effect c d u)) ≡ total_fewest c d
    chosen-size =
        points-size s c root component formed fits limit (chosen_effect c d u) good.0 good.1 (chosen_exact c limit d u sound run)
        ∙ chosen-count c limit d u sound run

    pub chosen-fewest : (J : Points) → Legal s limit J → total_fewest c d ≤ size s J
    chosen-fewest J legal =
        let g = good_of_legal s c root component formed fits limit J legal in
        let a = fewest-points c limit d g.0 g.1.0 sound run.counted g.1.1.0 in
        let b = g.1.1.1 in
        omega arith

    -- a rising list of the chosen points
    pub smallest_of_run :
        (list : List ℕ) (n : ℕ) →
        length list ≡ entry_bytes * n →
        ((e : ℕ) → suc e < n → Rises list e (suc e)) →
        ((i t : ℕ) → listed list n i t ≡ points_of c (chosen_effect c d u) i t) →
        n ≡ total_fewest c d →
        Smallest s limit list n
    smallest_of_run list n whole rising same count =
        record {
          whole = whole;
          rising = λ e p. rises-after (rising e p);
          legal = legal-same s limit (listed list n) (points_of c (chosen_effect c d u)) same chosen-legal;
          fewest = λ J legal. let a = chosen-fewest J legal in omega arith;
        }
