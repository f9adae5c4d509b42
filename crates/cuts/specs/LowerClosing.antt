-- Whatever set of branches is cut at a cluster, the closing's count and weights are no worse.
-- Assumes nothing.
use Rattle.std.specs.Prelude.{ℕ, ◌+◌, ◌≤◌, ◌<◌, ◌≡◌, Bool, true, ltb}
use Rattle.std.proofs.Common.{⊎_elim, arith, lt_irrefl, ltb-true, ltb-false}
use Rattle.laws.specs.Sums.{by}
use Rattle.cuts.specs.Cluster.{Clusters}
use Rattle.cuts.specs.Passes.{Down, below_count, any_cuts, ungated_cuts, ungated_left, Largest, Closed, only-any, both, only-ungated}
use Rattle.cuts.specs.LowerLargest.{set_cuts, set_left, largest-least, largest-fewest}

-- what fits takes at least as many cuts as the any-option
enough :
    (c : Clusters) (limit : ℕ) (d : Down) (r θ : ℕ) →
    Largest c limit d r θ →
    (q : ℕ → Bool) →
    set_left c d r q ≤ limit →
    any_cuts c d r ≤ set_cuts c r q
enough c limit d r θ g q fits =
    by (ltb (set_cuts c r q) (any_cuts c d r))
    (λ t.
    absurd (lt_irrefl 0 (omega (arith, largest-fewest c limit d r θ g q (ltb-true (set_cuts c r q) (any_cuts c d r) t)))))
    (λ f. ltb-false (set_cuts c r q) (any_cuts c d r) f)

-- cuts that leave at most the limit
pub closing_any :
    (c : Clusters) (limit : ℕ) (d : Down) (r : ℕ) →
    Closed c limit d r →
    (q : ℕ → Bool) →
    set_left c d r q ≤ limit →
    (d.fewest r ≤ below_count c d r + set_cuts c r q) × (below_count c d r + set_cuts c r q ≤ d.fewest r → d.any_weight r ≤ set_left c d r q)
closing_any c limit d r (only-any θ g own fewest any ungated weight) q fits =
    let a = enough c limit d r θ g q fits in
    (omega arith, λ few. omega (arith, weight, largest-least c limit d r θ g q (omega arith)))
closing_any c limit d r (both θ g own same fewest any ungated weight light) q fits =
    let a = enough c limit d r θ g q fits in
    (omega arith, λ few. omega (arith, weight, largest-least c limit d r θ g q (omega arith)))
closing_any c limit d r (only-ungated own more fewest any ungated light weight) q fits =
    let fewer : ungated_cuts c d r < set_cuts c r q =
    ⊎_elim
    (λ over. absurd (lt_irrefl 0 (omega arith)))
    (λ t. let a = enough c limit d r t.0 t.1 q fits in let b = t.2 in omega arith)
    more in
    (omega arith, λ few. absurd (lt_irrefl 0 (omega arith)))

-- cuts of at least the branches that have a gate, where the cluster has none
pub closing_ungated :
    (c : Clusters) (limit : ℕ) (d : Down) (r : ℕ) →
    Closed c limit d r →
    c.gates r ≡ 0 →
    (m : ℕ) →
    ungated_cuts c d r ≤ m →
    (d.fewest r ≤ below_count c d r + m) × (below_count c d r + m ≤ d.fewest r → (d.ungated_ok r ≡ true) × (d.ungated_weight r ≡ ungated_left c d r) × (m ≤ ungated_cuts c d r))
closing_ungated c limit d r (only-any θ g own fewest any ungated weight) none m enough' =
    let fewer : any_cuts c d r < m = ⊎_elim (λ some. absurd (lt_irrefl 0 (omega arith))) (λ t. omega arith) own in
    (omega arith, λ few. absurd (lt_irrefl 0 (omega arith)))
closing_ungated c limit d r (both θ g own same fewest any ungated weight light) none m enough' =
    (omega arith, λ few. (ungated, light, omega arith))
closing_ungated c limit d r (only-ungated own more fewest any ungated light weight) none m enough' =
    (omega arith, λ few. (ungated, light, omega arith))
