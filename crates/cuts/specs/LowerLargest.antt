-- The any-option cuts the heaviest branches: no other set of at most as many branches leaves less weight, and no set of fewer branches fits.
-- Assumes nothing.
use Rattle.std.specs.Prelude.{ℕ, suc, ◌+◌, ◌*◌, ◌≤◌, ◌<◌, ◌≡◌, refl, Bool, true, false, not, ◌&&◌}
use Rattle.std.proofs.Common.{arith, mul-le-mul_left, mul-suc}
use Rattle.laws.specs.Sum.{χ, sum}
use Rattle.laws.specs.Sums.{sum-≤, sum-+, sum-mul}
use Rattle.cuts.specs.Cluster.{Clusters, hangs}
use Rattle.cuts.specs.Passes.{Down, any_cuts, any_left, Largest}

-- a set q of cluster r's branches: how many they are, and the weight that the others leave
abbrev pub set_cuts : Clusters → ℕ → (ℕ → Bool) → ℕ
set_cuts c r q = sum c.nodes (λ j. χ (hangs c r j && q j) 1)

abbrev pub set_left : Clusters → Down → ℕ → (ℕ → Bool) → ℕ
set_left c d r q = c.fixed r + sum c.nodes (λ j. χ (hangs c r j && not (q j)) (d.lightest j))

-- one branch: at least as heavy as θ if the any-option cuts it, at most θ if not
exchange-term :
    (h b q : Bool) (θ a : ℕ) →
    (h ≡ true → b ≡ true → θ ≤ a) →
    (h ≡ true → b ≡ false → a ≤ θ) →
    χ (h && not b) a + θ * χ (h && b) 1 ≤ χ (h && not q) a + θ * χ (h && q) 1
exchange-term false b q θ a heavy light = omega arith
exchange-term true true true θ a heavy light = omega arith
exchange-term true true false θ a heavy light = let p = heavy refl refl in omega arith
exchange-term true false true θ a heavy light = let p = light refl refl in omega arith
exchange-term true false false θ a heavy light = omega arith

-- each cut at the price θ, the any-option is the cheapest
exchange :
    (c : Clusters) (limit : ℕ) (d : Down) (r θ : ℕ) →
    Largest c limit d r θ →
    (q : ℕ → Bool) →
    any_left c d r + θ * any_cuts c d r ≤ set_left c d r q + θ * set_cuts c r q
exchange c limit d r θ g q =
    let n = c.nodes in
    let terms =
    sum-≤ n {f = λ j. χ (hangs c r j && not (d.cut_any j)) (d.lightest j) + θ * χ (hangs c r j && d.cut_any j) 1}
    {g = λ j. χ (hangs c r j && not (q j)) (d.lightest j) + θ * χ (hangs c r j && q j) 1}
    (λ j p.
    exchange-term (hangs c r j) (d.cut_any j) (q j) θ (d.lightest j) (g.cut_heavy j p) (g.kept_light j p)) in
    let left = sum-+ n (λ j. χ (hangs c r j && not (d.cut_any j)) (d.lightest j)) (λ j. θ * χ (hangs c r j && d.cut_any j) 1) in
    let right = sum-+ n (λ j. χ (hangs c r j && not (q j)) (d.lightest j)) (λ j. θ * χ (hangs c r j && q j) 1) in
    let left_Cuts = sum-mul n θ (λ j. χ (hangs c r j && d.cut_any j) 1) in
    let right-cuts = sum-mul n θ (λ j. χ (hangs c r j && q j) 1) in
    omega arith

-- at most as many cuts leave no less
pub largest-least :
    (c : Clusters) (limit : ℕ) (d : Down) (r θ : ℕ) →
    Largest c limit d r θ →
    (q : ℕ → Bool) →
    set_cuts c r q ≤ any_cuts c d r →
    any_left c d r ≤ set_left c d r q
largest-least c limit d r θ g q few =
    omega (arith, exchange c limit d r θ g q, mul-le-mul_left {m = set_cuts c r q} {n = any_cuts c d r} θ few)

-- fewer cuts do not fit
pub largest-fewest :
    (c : Clusters) (limit : ℕ) (d : Down) (r θ : ℕ) →
    Largest c limit d r θ →
    (q : ℕ → Bool) →
    set_cuts c r q < any_cuts c d r →
    limit < set_left c d r q
largest-fewest c limit d r θ g q fewer =
    omega
    (arith, exchange c limit d r θ g q, mul-le-mul_left {m = suc (set_cuts c r q)} {n = any_cuts c d r} θ fewer, mul-suc θ (set_cuts c r q), g.no_fewer (omega arith))
