-- Where no cluster has a gate, no branch is cut.
-- Assumes nothing.
use Rattle.std.specs.Prelude.{ℕ, ◌<◌, ◌≡◌, refl, Bool, true, false, not, ◌&&◌, eqb}
use Rattle.std.proofs.Common.{sym, ◌∙◌, ap, ⊎_elim, arith, lt_irrefl, eqb-true, eq-eqb, le-ltb}
use Rattle.laws.specs.Sum.{χ}
use Rattle.laws.specs.Sums.{by, no_both, not_true_false, and_left, and_right, and_intro, χ-yes, χ_ap, χ-zero, χ-and, sum-zero, term-≤, down}
use Rattle.cuts.specs.Cluster.{Clusters, Sound, hangs}
use Rattle.cuts.specs.Passes.{Down, Up, Run, Closed, Climbed, stops, chosen_effect, any_cuts, ungated_cuts, only-any, both, only-ungated, without-gate, within_limit, with-jumper}
use Rattle.cuts.specs.ChosenModes.{any_ok_lem, high-any, high-ungated, no-jumper}

-- q holds on whole trees, of clusters without a gate
module _
    (c : Clusters)
    (limit : ℕ)
    (d : Down)
    (u : Up)
    (s : Sound c)
    (run : Run c limit d u)
    (q : ℕ → Bool)
    (along : (j : ℕ) → j < c.nodes → c.cuttable j ≡ true → q (c.host j) ≡ q j)
    (gateless : (r : ℕ) → r < c.nodes → q r ≡ true → c.gates r ≡ 0) where
  -- every branch of the tree has an ungated option, and no jumper of its own
  free-branch : (j : ℕ) → j < c.nodes → c.cuttable j ≡ true → d.ungated_ok j ≡ true → (d.has_ungated j ≡ true) × (stops d j ≡ false)
  free-branch j p cj y = go (run.counted.climbed j (omega arith) p cj)
    where
      go : Climbed c limit d j → (d.has_ungated j ≡ true) × (stops d j ≡ false)
      go (without-gate g k e h v l) = (h, no-jumper c limit d s j p cj e)
      go (within_limit g w k e h l) = absurd (no_both y g)
      go (with-jumper g w k f b t h v l) = absurd (no_both y g)

  no-cuts :
      (r : ℕ) →
      r < c.nodes →
      q r ≡ true →
      ((j : ℕ) → r < j → j < c.nodes → q j ≡ true → d.ungated_ok j ≡ true) →
      ungated_cuts c d r ≡ 0
  no-cuts r p y below =
      sum-zero c.nodes
      (λ j lt.
      χ-and (hangs c r j) (not (d.has_ungated j)) 1
      ∙ (χ_ap (hangs c r j)
      (λ h.
      let cj = and_left (c.cuttable j) (eqb (c.host j) r) h in
      let e = eqb-true (c.host j) r (and_right (c.cuttable j) (eqb (c.host j) r) h) in
      let b = s.host_below j lt cj in
      let ok = below j (omega arith) lt (sym (along j lt cj) ∙ (ap q e ∙ y)) in
      ap (λ t. χ (not t) 1) (free-branch j lt cj ok).0)
      ∙ χ-zero (hangs c r j)))

  gateless_closed : (r : ℕ) → r < c.nodes → q r ≡ true → ungated_cuts c d r ≡ 0 → Closed c limit d r → (d.ungated_ok r ≡ true) × (d.any_ok r ≡ true → any_cuts c d r ≡ 0)
  gateless_closed r p y z (only-any θ l g f a v w) =
      absurd (⊎_elim (λ g'. let e = gateless r p y in lt_irrefl 0 (omega arith)) (λ fewer. lt_irrefl 0 (omega arith)) g)
  gateless_closed r p y z (both θ l g e f a v w x) = (v, λ h. e ∙ z)
  gateless_closed r p y z (only-ungated g o f a v w x) = (v, λ h. absurd (no_both h a))

  gateless_ok : (r : ℕ) → r < c.nodes → q r ≡ true → d.ungated_ok r ≡ true
  gateless_ok =
      down c.nodes (λ r. q r ≡ true → d.ungated_ok r ≡ true)
      (λ r p below y. (gateless_closed r p y (no-cuts r p y (λ j lt lt' y'. below j lt lt' y')) (run.counted.closed r (omega arith) p)).0)

  -- the host's any-option cuts no branch of the tree either
  not_cut_any : (j : ℕ) → j < c.nodes → c.cuttable j ≡ true → q j ≡ true → u.any_mode (c.host j) ≡ true → d.cut_any j ≡ false
  not_cut_any j p cj y m =
      not_true_false (d.cut_any j)
      (λ t.
      let b = s.host_below j p cj in
      let lt : c.host j < c.nodes = omega arith in
      let yh = along j p cj ∙ y in
      let ungated = no-cuts (c.host j) lt yh (λ i above lt' y'. gateless_ok i lt' y') in
      let all =
      (gateless_closed (c.host j) lt yh ungated (run.counted.closed (c.host j) (omega arith) lt)).1 (any_ok_lem c limit d u s run (c.host j) lt m) in
      let one = term-≤ c.nodes j (λ i. χ (hangs c (c.host j) i && d.cut_any i) 1) p in
      let is = χ-yes 1 (and_intro (and_intro cj (eq-eqb (c.host j) (c.host j) refl)) t) in
      lt_irrefl 0 (omega arith))

  pub gateless_uncut : (j : ℕ) → j < c.nodes → q j ≡ true → (chosen_effect c d u).cut j ≡ false
  gateless_uncut j p y =
      by (c.cuttable j)
      (λ cj. let whole = free-branch j p cj (gateless_ok j p y) in rw whole.1 (high cj whole.0))
      (λ nc. rw (le-ltb 0 (d.near j) (omega (arith, run.counted.no_near j (omega arith) p nc))) ((run.chosen j p).root_high nc))
    where
      high : c.cuttable j ≡ true → d.has_ungated j ≡ true → u.cut_high j ≡ false
      high cj h =
          by (u.any_mode (c.host j))
          (λ m. high-any c limit d u s run j p cj m ∙ not_cut_any j p cj y m)
          (λ m. high-ungated c limit d u s run j p cj m ∙ ap not h)
