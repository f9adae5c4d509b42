-- What the test for hopeless clusters says of each cluster.
-- Assumes nothing.
use Rattle.std.specs.Prelude.{ℕ, ◌≤◌, ◌<◌, ◌≡◌, true, false, List, get_or, ltb}
use Rattle.std.proofs.Common.{ltb-true, ltb-false, lt-ltb}
use Rattle.laws.specs.Sums.{by, no_both, and_left, and_right, and_intro, any_some, any-no}
use Rattle.clusters.specs.Hopeless.{hopeless_at, any_hopeless}

-- a cluster with a gate that a piece may harm has more fixed weight than the limit
pub record Hopeless (n : ℕ) (fixed gates : List ℕ) (limit : ℕ) : Type 0 where
  pub at : ℕ
  pub inside : at < n
  pub gated : 0 < get_or gates at 0
  pub heavy : limit < get_or fixed at 0

module _ (n : ℕ) (fixed gates : List ℕ) (limit : ℕ) where
  pub some-hopeless : any_hopeless n fixed gates limit ≡ true → Hopeless n fixed gates limit
  some-hopeless h =
      let w = any_some n (λ r. hopeless_at fixed gates limit r) h in
      record {
        at = w.0;
        inside = w.1;
        gated = ltb-true 0 (get_or gates w.0 0) (and_left (ltb 0 (get_or gates w.0 0)) (ltb limit (get_or fixed w.0 0)) w.2);
        heavy = ltb-true limit (get_or fixed w.0 0) (and_right (ltb 0 (get_or gates w.0 0)) (ltb limit (get_or fixed w.0 0)) w.2);
      }

  -- what the counting pass requires
  pub none-hopeless : any_hopeless n fixed gates limit ≡ false → (r : ℕ) → r < n → 0 < get_or gates r 0 → get_or fixed r 0 ≤ limit
  none-hopeless h r p g =
      by (ltb limit (get_or fixed r 0))
      (λ y. absurd (no_both (and_intro {a = ltb 0 (get_or gates r 0)} {b = ltb limit (get_or fixed r 0)} (lt-ltb 0 (get_or gates r 0) g) y) (any-no n r (λ j. hopeless_at fixed gates limit j) h p)))
      (λ z. ltb-false limit (get_or fixed r 0) z)
