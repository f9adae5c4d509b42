-- Where no cluster is hopeless, a legal set exists: every cuttable wire of a component without a source, cut at its lowest and at its highest point.
-- With `hopeless-none`: a legal set exists exactly when every cluster with a gate is within the limit.
-- Assumes nothing.
use Rattle.std.specs.Prelude.{ℕ, ◌-◌, ◌*◌, ◌≤◌, ◌<◌, ◌≡◌, Bool, true, false, not, ◌&&◌, cond, eqb, ltb}
use Rattle.std.proofs.Common.{sym, ◌∙◌, ap, arith, lt_irrefl, mul-zero, eqb-true, ltb-true, ltb-false}
use Rattle.std.proofs.lemmas.Bool.{not-true}
use Rattle.laws.specs.Sum.{χ}
use Rattle.laws.specs.Sums.{by, no_both, and_left, and_right, not_true_false, χ-no, χ_ap, χ-zero, sum-zero, down}
use Rattle.net.specs.Stage.{Stage}
use Rattle.net.specs.Formed.{Formed}
use Rattle.pieces.specs.Piece.{Points}
use Rattle.pieces.specs.Legal.{Legal}
use Rattle.cuts.specs.Cluster.{Clusters, Sound, Effect, Good, hangs}
use Rattle.cuts.specs.Fits.{Fits, sourced, points_of}
use Rattle.cuts.specs.BridgeFits.{to_stage, sound_of_fits}
use Rattle.cuts.specs.BridgeWeight.{PartsOf}
use Rattle.cuts.specs.BridgeGood.{parts_of, parts_of_lem}
use Rattle.cuts.specs.BridgeLegal.{points-legal}
use Rattle.cuts.specs.BridgeRun.{host_component, sourced_gateless, hopeless-none}

-- every cluster with a gate is within the limit
abbrev pub NoHopeless : Clusters → ℕ → Type 0
NoHopeless c limit = (r : ℕ) → r < c.nodes → 0 < c.gates r → c.fixed r ≤ limit

module _ (s : Stage) (c : Clusters) (root component : ℕ → ℕ) (formed : Formed s) (fits : Fits s c root component) where
  -- node j's component has a source
  abbrev pub with_source : ℕ → Bool
  with_source j = sourced s component (component j)

  -- every cuttable wire of a component without a source is cut at both ends of what may be cut
  abbrev pub all_cuts : Effect
  all_cuts =
      record {
        cut = λ j. not (with_source j);
        first = λ j. c.lo j;
        last = λ j. c.hi j;
        points = λ j. cond (eqb (c.lo j) (c.hi j)) 1 2;
      }

  sound : Sound c
  sound = sound_of_fits s c root component formed fits

  parts : PartsOf c all_cuts (parts_of c all_cuts)
  parts = parts_of_lem c sound all_cuts

  -- a branch and its host are in one component
  same_source : (r j : ℕ) → j < c.nodes → hangs c r j ≡ true → with_source j ≡ with_source r
  same_source r j p h =
      let k = and_left (c.cuttable j) (eqb (c.host j) r) h in
      let e = eqb-true (c.host j) r (and_right (c.cuttable j) (eqb (c.host j) r) h) in
      ap (λ (x : ℕ). sourced s component x) (sym (host_component s c root component formed fits j (to_stage s c root component formed fits j p) k) ∙ ap component e)

  -- with a source: no gate counts
  source_gateless : (r : ℕ) → r < c.nodes → with_source r ≡ true → (parts_of c all_cuts).gates r ≡ 0
  source_gateless =
      down c.nodes
      (λ r. with_source r ≡ true → (parts_of c all_cuts).gates r ≡ 0)
      (λ r p above src.
      let a = parts.gates_is r p in
      let b = sourced_gateless s c root component formed fits r (to_stage s c root component formed fits r p) src in
      let z =
      sum-zero c.nodes
      {f = λ j. χ (hangs c r j && not (all_cuts.cut j)) ((parts_of c all_cuts).gates j)}
      (λ j q.
      χ_ap (hangs c r j && not (all_cuts.cut j)) {y = 0}
      (λ y.
      let h = and_left (hangs c r j) (not (all_cuts.cut j)) y in
      let lower = sound.host_below j q (and_left (c.cuttable j) (eqb (c.host j) r) h) in
      let at = eqb-true (c.host j) r (and_right (c.cuttable j) (eqb (c.host j) r) h) in
      above j (omega arith) q (same_source r j q h ∙ src))
      ∙ χ-zero (hangs c r j && not (all_cuts.cut j))) in
      omega arith)

  -- without: every branch is cut, so a cluster stands alone
  alone-gates : (r : ℕ) → r < c.nodes → with_source r ≡ false → (parts_of c all_cuts).gates r ≡ c.gates r
  alone-gates r p free =
      let a = parts.gates_is r p in
      let z =
      sum-zero c.nodes
      {f = λ j. χ (hangs c r j && not (all_cuts.cut j)) ((parts_of c all_cuts).gates j)}
      (λ j q.
      χ-no ((parts_of c all_cuts).gates j)
      (not_true_false (hangs c r j && not (all_cuts.cut j))
      (λ y.
      let h = and_left (hangs c r j) (not (all_cuts.cut j)) y in
      let u : not (not (with_source j)) ≡ true = and_right (hangs c r j) (not (all_cuts.cut j)) y in
      no_both u (rw (same_source r j q h ∙ free))))) in
      omega arith

  alone-weight : (r : ℕ) → r < c.nodes → with_source r ≡ false → (parts_of c all_cuts).weight r ≡ c.fixed r
  alone-weight r p free =
      let a = parts.weight_is r p in
      let z =
      sum-zero c.nodes
      {f = λ j. χ (hangs c r j) ((parts_of c all_cuts).adds j)}
      (λ j q.
      χ_ap (hangs c r j) {y = 0}
      (λ h.
      let e : c.hi j - c.hi j ≡ 0 = omega arith in
      parts.adds_cut j q (and_left (c.cuttable j) (eqb (c.host j) r) h) (ap not (same_source r j q h ∙ free))
      ∙ (ap (λ (x : ℕ). c.factor j * x) e ∙ mul-zero (c.factor j)))
      ∙ χ-zero (hangs c r j)) in
      omega arith

  module _ (limit : ℕ) (none : NoHopeless c limit) where
    -- a cluster that stands alone is within the limit
    alone-light : (r : ℕ) → r < c.nodes → 0 < (parts_of c all_cuts).gates r → with_source r ≡ false → (parts_of c all_cuts).weight r ≤ limit
    alone-light r p gated free =
        let g = alone-gates r p free in
        let w = alone-weight r p free in
        let l = none r p (omega arith) in
        omega arith

    good : Good c limit all_cuts (parts_of c all_cuts)
    good =
        record {
          first_free = λ j p k cut. sound.lo_free j p k;
          last_free = λ j p k cut. sound.hi_free j p k;
          in_order = λ j p k cut. sound.lo_least j (c.hi j) p k (sound.hi_free j p k);
          some = λ j p k cut. some (eqb (c.lo j) (c.hi j));
          alone = λ j p k cut e. by (eqb (c.lo j) (c.hi j)) (λ y. eqb-true (c.lo j) (c.hi j) y) (λ z. absurd (two (cond (eqb (c.lo j) (c.hi j)) 1 2) (rw z) e));
          adds_cut = parts.adds_cut;
          adds_whole = parts.adds_whole;
          weight_is = parts.weight_is;
          gates_is = parts.gates_is;
          root_light = λ r p k gated.
              by (with_source r)
              (λ y. absurd (lt_irrefl 0 (omega (arith, gated, source_gateless r p y))))
              (λ z. alone-light r p gated z);
          cut_light = λ j p k cut gated.
              let e : c.lo j - c.lo j ≡ 0 = omega arith in
              let m = mul-zero (c.factor j) in
              let a = ap (λ (x : ℕ). c.factor j * x) e in
              let l = alone-light j p gated (not-true (with_source j) cut) in
              omega arith;
        }
      where
        some : (b : Bool) → 1 ≤ cond b 1 2
        some true = omega arith
        some false = omega arith

        two : (x : ℕ) → x ≡ 2 → x ≡ 1 → ⊥
        two x a b = lt_irrefl 0 (omega arith)

    pub all-legal : Legal s limit (points_of c all_cuts)
    all-legal =
        points-legal s c root component formed fits limit all_cuts (parts_of c all_cuts) good (λ j p k src. rw src)

  -- and where a legal set exists, no cluster is hopeless
  pub legal_no_hopeless : (limit : ℕ) (J : Points) → Legal s limit J → NoHopeless c limit
  legal_no_hopeless limit J legal r p gated =
      by (ltb limit (c.fixed r))
      (λ y. absurd (hopeless-none s c root component formed fits limit r p gated (ltb-true limit (c.fixed r) y) J legal))
      (λ z. ltb-false limit (c.fixed r) z)
