-- No good set has fewer points than the pass down finds: from high numbers to low, no set's points do better than a closing.
-- Assumes nothing.
use Rattle.std.specs.Prelude.{ℕ, ◌+◌, ◌≤◌, ◌<◌, ◌≡◌, refl, Bool, true, false, not, ◌&&◌, ltb, eqb}
use Rattle.std.proofs.lemmas.Bool.{false≢true}
use Rattle.std.proofs.Common.{arith, lt_irrefl, ltb-true, ltb-false}
use Rattle.laws.specs.Sum.{χ, sum}
use Rattle.laws.specs.Sums.{by, and_left, χ-yes, χ_mono, χ-and, sum-≤, sum-+, sum_tight, term-≤, down}
use Rattle.laws.specs.Tree.{IsTree, joined_to, tree, tree_is, joined-rising, roots_flat}
use Rattle.cuts.specs.Cluster.{Clusters, Sound, Effect, Parts, Good, hangs, point_count}
use Rattle.cuts.specs.Passes.{Down, below_count, Counted, total_fewest}
use Rattle.cuts.specs.LowerLargest.{set_cuts, set_left}
use Rattle.cuts.specs.LowerLightest.{hangs-above, lightest-≤}
use Rattle.cuts.specs.LowerParts.{part-light}
use Rattle.cuts.specs.LowerClosing.{closing_any, closing_ungated}
use Rattle.cuts.specs.LowerWire.{added_gates, ClosesNoBetter, ClimbsNoBetter, more, as_few, climb}

-- ---- what a branch says
module _ (d : Down) (e : Effect) (p : Parts) (n j : ℕ) where
  count-≤ : ClimbsNoBetter d e p n j → d.count j ≤ n
  count-≤ (more above) = omega arith
  count-≤ (as_few count gated none) = count

  few-ungated :
      ClimbsNoBetter d e p n j →
      n ≤ d.count j →
      added_gates e p j ≡ 0 →
      (d.has_ungated j ≡ true) × (d.ungated j ≤ p.adds j)
  few-ungated (more above) few zero' = absurd (lt_irrefl 0 (omega arith))
  few-ungated (as_few count gated none) few zero' = none zero'

  few-gated : ClimbsNoBetter d e p n j → n ≤ d.count j → 0 < added_gates e p j → d.lightest j ≤ p.adds j
  few-gated (more above) few some' = absurd (lt_irrefl 0 (omega arith))
  few-gated (as_few count gated none) few some' = gated some'

  few-lightest :
      (d.has_ungated j ≡ true → d.lightest j ≤ d.ungated j) →
      ClimbsNoBetter d e p n j →
      n ≤ d.count j →
      d.lightest j ≤ p.adds j
  few-lightest least b few =
      by (ltb 0 (added_gates e p j))
      (λ t. few-gated b few (ltb-true 0 (added_gates e p j) t))
      (λ f.
      let a = few-ungated b few (let z = ltb-false 0 (added_gates e p j) f in omega arith) in
      omega (arith, least a.0, a.1))

-- ---- one term of each sum: h, the branch hangs on the cluster; q, it has more points than the fewest; u, it can be had without a gate
count-term : (h q : Bool) {a n : ℕ} → (h ≡ true → a ≤ n) → (q ≡ true → a < n) → χ h a + χ (h && q) 1 ≤ χ h n
count-term false q le lt = omega arith
count-term true true le lt = let a = lt refl in omega arith
count-term true false le lt = let a = le refl in omega arith

lightest-term : (h q : Bool) {a x : ℕ} → (h ≡ true → q ≡ false → a ≤ x) → χ (h && not q) a ≤ χ h x
lightest-term false q le = omega arith
lightest-term true true le = omega arith
lightest-term true false le = le refl refl

cuts-term : (h u q : Bool) → (h ≡ true → q ≡ false → u ≡ true) → χ (h && not u) 1 ≤ χ (h && q) 1
cuts-term false u q has = omega arith
cuts-term true true q has = omega arith
cuts-term true false true has = omega arith
cuts-term true false false has = absurd (false≢true (has refl refl))

ungated-term : (h u q : Bool) {a x : ℕ} → χ (h && not u) 1 ≡ χ (h && q) 1 → (h ≡ true → q ≡ false → a ≤ x) → χ (h && u) a ≤ χ h x
ungated-term false u q same le = omega arith
ungated-term true true true same le = omega arith
ungated-term true true false same le = le refl refl
ungated-term true false q same le = omega arith

module _ (c : Clusters) (limit : ℕ) (d : Down) (e : Effect) (p : Parts) (s : Sound c) (k : Counted c limit d 0) (g : Good c limit e p) (T : ℕ → ℕ) where
  -- T j: the points on and below branch j's wire
  abbrev below_points : ℕ → ℕ
  below_points r = sum c.nodes (λ j. χ (hangs c r j) (T j))

  -- branch j has more points than the fewest
  abbrev above : ℕ → Bool
  above j = ltb (d.count j) (T j)

  abbrev Branches : ℕ → Type 0
  Branches r = (j : ℕ) → j < c.nodes → hangs c r j ≡ true → ClimbsNoBetter d e p (T j) j

  points-≤ : (r : ℕ) → Branches r → below_count c d r + set_cuts c r above ≤ below_points r
  points-≤ r b =
      omega (
        arith,
        sum-≤ c.nodes {f = λ j. χ (hangs c r j) (d.count j) + χ (hangs c r j && above j) 1} {g = λ j. χ (hangs c r j) (T j)} (λ j lt.
            count-term (hangs c r j) (above j) (λ h. count-≤ d e p (T j) j (b j lt h)) (ltb-true (d.count j) (T j))),
        sum-+ c.nodes (λ j. χ (hangs c r j) (d.count j)) (λ j. χ (hangs c r j && above j) 1),
      )

  set_left-≤ : (r : ℕ) → r < c.nodes → Branches r → set_left c d r above ≤ p.weight r
  set_left-≤ r lt' b =
      omega (
        arith,
        g.weight_is r lt',
        sum-≤ c.nodes {f = λ j. χ (hangs c r j && not (above j)) (d.lightest j)} {g = λ j. χ (hangs c r j) (p.adds j)} (λ j lt.
            lightest-term (hangs c r j) (above j)
            (λ h f.
            few-lightest d e p (T j) j (lightest-≤ c limit d s k j lt (and_left (c.cuttable j) (eqb (c.host j) r) h)) (b j lt h) (ltb-false (d.count j) (T j) f))),
      )

  -- where the part has no gate, no branch adds one
  no-gates : (r : ℕ) → r < c.nodes → p.gates r ≡ 0 → (j : ℕ) → j < c.nodes → hangs c r j ≡ true → added_gates e p j ≡ 0
  no-gates r lt' none j lt h =
      omega
      (arith, g.gates_is r lt', term-≤ c.nodes j (λ i. χ (hangs c r i && not (e.cut i)) (p.gates i)) lt, χ-and (hangs c r j) (not (e.cut j)) (p.gates j), χ-yes (added_gates e p j) h)

  close-gated : (r : ℕ) → r < c.nodes → Branches r → 0 < p.gates r → ClosesNoBetter d p (below_points r) r
  close-gated r lt b gated =
      let points = points-≤ r b in
      let left = set_left-≤ r lt b in
      let light = part-light c limit e p s g r lt gated in
      let a = closing_any c limit d r (k.closed r (omega arith) lt) above (omega arith) in
      record {
        fewest_least = omega (arith, a.0);
        any_least = λ few gated'. omega (arith, a.1 (omega arith));
        ungated_least = λ few none. absurd (lt_irrefl 0 (omega arith));
      }

  close-ungated : (r : ℕ) → r < c.nodes → Branches r → p.gates r ≡ 0 → ClosesNoBetter d p (below_points r) r
  close-ungated r lt b none =
      let n = c.nodes in
      let points = points-≤ r b in
      let own : c.gates r ≡ 0 = omega (arith, g.gates_is r lt) in
      let branch : (j : ℕ) → j < n → hangs c r j ≡ true → above j ≡ false → (d.has_ungated j ≡ true) × (d.ungated j ≤ p.adds j) =
      λ j l h f. few-ungated d e p (T j) j (b j l h) (ltb-false (d.count j) (T j) f) (no-gates r lt none j l h) in
      let cuts : (j : ℕ) → j < n → χ (hangs c r j && not (d.has_ungated j)) 1 ≤ χ (hangs c r j && above j) 1 =
      λ j l. cuts-term (hangs c r j) (d.has_ungated j) (above j) (λ h f. (branch j l h f).0) in
      let a =
      closing_ungated c limit d r (k.closed r (omega arith) lt) own (set_cuts c r above)
      (sum-≤ n {f = λ j. χ (hangs c r j && not (d.has_ungated j)) 1} {g = λ j. χ (hangs c r j && above j) 1} cuts) in
      record {
        fewest_least = omega (arith, a.0);
        any_least = λ few gated. absurd (lt_irrefl 0 (omega arith));
        ungated_least = λ few none'.
            let t = a.1 (omega arith) in
            let same = sum_tight n {f = λ j. χ (hangs c r j && not (d.has_ungated j)) 1} {g = λ j. χ (hangs c r j && above j) 1} cuts t.2 in (
              t.0,
              omega (
                arith,
                t.1,
                g.weight_is r lt,
                sum-≤ n {f = λ j. χ (hangs c r j && d.has_ungated j) (d.ungated j)} {g = λ j. χ (hangs c r j) (p.adds j)} (λ j l.
                    ungated-term (hangs c r j) (d.has_ungated j) (above j) (same j l) (λ h f. (branch j l h f).1)),
              ),
            );
      }

  close : (r : ℕ) → r < c.nodes → Branches r → ClosesNoBetter d p (below_points r) r
  close r lt b =
      by (ltb 0 (p.gates r))
      (λ t. close-gated r lt b (ltb-true 0 (p.gates r) t))
      (λ f. close-ungated r lt b (let z = ltb-false 0 (p.gates r) f in omega arith))

  closes :
      IsTree c.nodes (joined_to c.cuttable c.host) (λ j. χ (c.cuttable j) (e.points j)) T →
      (r : ℕ) →
      r < c.nodes →
      ClosesNoBetter d p (below_points r) r
  closes local =
      down c.nodes (λ r. ClosesNoBetter d p (below_points r) r)
      (λ r lt higher.
      close r lt
      (λ j l h.
      let cuttable = and_left (c.cuttable j) (eqb (c.host j) r) h in
      climb c limit d e p s g j (below_points j) l cuttable (higher j (hangs-above s r j l h) l) (k.climbed j (omega arith) l cuttable) (T j)
      (omega (arith, local j l, χ-yes (e.points j) cuttable))))

pub fewest-points :
    (c : Clusters) (limit : ℕ) (d : Down) (e : Effect) (p : Parts) →
    Sound c →
    Counted c limit d 0 →
    Good c limit e p →
    total_fewest c d ≤ point_count c e
unfolding total_fewest point_count
fewest-points c limit d e p s k g =
    let n = c.nodes in
    let y : ℕ → ℕ = λ j. χ (c.cuttable j) (e.points j) in
    let T : ℕ → ℕ = tree n (joined_to c.cuttable c.host) y in
    let local = tree_is n (joined_to c.cuttable c.host) y (joined-rising n c.cuttable c.host s.host_below) in
    omega (
      arith,
      roots_flat n c.cuttable c.host y T s.host_below local,
      sum-≤ n {f = λ r. χ (not (c.cuttable r)) (d.fewest r)} {g = λ r. χ (not (c.cuttable r)) (T r)} (λ r lt.
          χ_mono (not (c.cuttable r)) (λ root. omega (arith, local r lt, (closes c limit d e p s k g T local r lt).fewest_least))),
    )
