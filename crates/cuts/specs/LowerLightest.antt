-- To ask for no gate is never lighter: where a branch or a cluster has both a lightest weight and one without a gate, the first is at most the second.
-- Assumes nothing.
use Rattle.std.specs.Prelude.{ℕ, ◌+◌, ◌≤◌, ◌<◌, ◌≡◌, refl, Bool, true, false, not, ◌&&◌, cond, leb, eqb}
use Rattle.std.proofs.Common.{arith, eqb-true}
use Rattle.laws.specs.Sum.{χ}
use Rattle.laws.specs.Sums.{no_both, and_left, and_right, sum-≤, down}
use Rattle.cuts.specs.Cluster.{Clusters, Sound, hangs, span}
use Rattle.cuts.specs.Passes.{Down, ungated_left, Closed, only-any, both, only-ungated, Climbed, without-gate, within_limit, with-jumper, Counted}
use Rattle.cuts.specs.LowerLargest.{set_left, largest-least}

-- a branch of a cluster has a higher number
pub hangs-above : {c : Clusters} → Sound c → (r j : ℕ) → j < c.nodes → hangs c r j ≡ true → r < j
hangs-above {c} s r j p h =
    let below = s.host_below j p (and_left (c.cuttable j) (eqb (c.host j) r) h) in
    let same = eqb-true (c.host j) r (and_right (c.cuttable j) (eqb (c.host j) r) h) in
    omega arith

term-≤-ungated : (h u : Bool) {a b : ℕ} → (h ≡ true → u ≡ true → a ≤ b) → χ (h && not (not u)) a ≤ χ (h && u) b
term-≤-ungated false u f = omega arith
term-≤-ungated true true f = f refl refl
term-≤-ungated true false f = omega arith

-- to cut the branches that have a gate, and to let each other be as light as it can be, leaves no more than the ungated option
pub lightest-≤-ungated_left :
    (c : Clusters) (d : Down) (r : ℕ) →
    ((j : ℕ) → j < c.nodes → hangs c r j ≡ true → d.has_ungated j ≡ true → d.lightest j ≤ d.ungated j) →
    set_left c d r (λ j. not (d.has_ungated j)) ≤ ungated_left c d r
lightest-≤-ungated_left c d r h =
    omega (
      arith,
      sum-≤ c.nodes {f = λ j. χ (hangs c r j && not (not (d.has_ungated j))) (d.lightest j)} {g = λ j. χ (hangs c r j && d.has_ungated j) (d.ungated j)} (λ j p.
          term-≤-ungated (hangs c r j) (d.has_ungated j) (h j p)),
    )

any_weight-step :
    (c : Clusters) (limit : ℕ) (d : Down) (r : ℕ) →
    ((j : ℕ) → j < c.nodes → hangs c r j ≡ true → d.has_ungated j ≡ true → d.lightest j ≤ d.ungated j) →
    Closed c limit d r →
    d.ungated_ok r ≡ true →
    d.any_weight r ≤ d.ungated_weight r
any_weight-step c limit d r h (only-any θ g own fewest any ungated weight) ok = absurd (no_both ok ungated)
any_weight-step c limit d r h (both θ g own same fewest any ungated weight light) ok =
    omega
    (arith, weight, light, largest-least c limit d r θ g (λ j. not (d.has_ungated j)) (omega arith), lightest-≤-ungated_left c d r h)
any_weight-step c limit d r h (only-ungated own more fewest any ungated light weight) ok = omega arith

cond-≤ : (t : Bool) {a b : ℕ} → a ≤ b → cond t a b ≤ b
cond-≤ true p = p
cond-≤ false p = omega arith

lightest-step :
    (c : Clusters) (limit : ℕ) (d : Down) (j : ℕ) →
    (d.ungated_ok j ≡ true → d.any_weight j ≤ d.ungated_weight j) →
    Climbed c limit d j →
    d.has_ungated j ≡ true →
    d.lightest j ≤ d.ungated j
lightest-step c limit d j h (without-gate ok count near has ungated lightest) asked =
    let w = h ok in
    omega (arith, lightest, cond-≤ (leb (d.any_weight j + span c j) limit) {a = d.any_weight j + span c j} {b = d.ungated j} (omega arith))
lightest-step c limit d j h (within_limit ok fits count near has lightest) asked = absurd (no_both asked has)
lightest-step c limit d j h (with-jumper ok over count free fits most has ungated lightest) asked = omega arith

pub any_weight-≤ :
    (c : Clusters) (limit : ℕ) (d : Down) →
    Sound c →
    Counted c limit d 0 →
    (r : ℕ) →
    r < c.nodes →
    d.ungated_ok r ≡ true →
    d.any_weight r ≤ d.ungated_weight r
any_weight-≤ c limit d s k =
    down c.nodes (λ r. d.ungated_ok r ≡ true → d.any_weight r ≤ d.ungated_weight r)
    (λ r p above.
    any_weight-step c limit d r
    (λ j q h asked.
    lightest-step c limit d j (above j (hangs-above s r j q h) q) (k.climbed j (omega arith) q (and_left (c.cuttable j) (eqb (c.host j) r) h)) asked)
    (k.closed r (omega arith) p))

pub lightest-≤ :
    (c : Clusters) (limit : ℕ) (d : Down) →
    Sound c →
    Counted c limit d 0 →
    (j : ℕ) →
    j < c.nodes →
    c.cuttable j ≡ true →
    d.has_ungated j ≡ true →
    d.lightest j ≤ d.ungated j
lightest-≤ c limit d s k j p cut = lightest-step c limit d j (any_weight-≤ c limit d s k j p) (k.climbed j (omega arith) p cut)
