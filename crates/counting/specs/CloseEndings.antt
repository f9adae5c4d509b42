-- The endings of a cluster's closing, from the numbers that its loops found.
-- Assumes nothing.
use Rattle.std.specs.Prelude.{ℕ, ◌+◌, ◌≤◌, ◌<◌, ◌≡◌, ◌⊎◌, Bool, true, false, ◌||◌, List, ltb}
use Rattle.std.proofs.Math.Path.{refl}
use Rattle.std.proofs.Common.{inl, inr, true≢false, arith, ltb-true, ltb-false}
use Rattle.std.proofs.Math.Logic.{⊎_map}
use Rattle.laws.specs.Sums.{by}
use Rattle.cuts.specs.Passes.{Largest, Closed, only-any, both, only-ungated}
use Rattle.counting.specs.declared.close.Closing.{Closing}
use Rattle.counting.specs.Close.{Cluster, branch_sum, flagged_count, flagged_sum, clear_count, clear_sum, Cutting, Compared, any-alone, ungated-alone, equal, only_any, only_ungated, both_options, branches_of, closing_of}

-- a cluster that is not hopeless and whose fixed weight is over the limit has no gate
pub no-gate : (gates fixed limit : ℕ) → (0 < gates → fixed ≤ limit) → limit < fixed → gates ≡ 0
no-gate gates fixed limit h l =
    by (ltb 0 gates)
    (λ y. let a = h (ltb-true 0 gates y) in absurd (native.Mathlib.Nat.lt_irrefl 0 (omega arith)))
    (λ z. let a = ltb-false 0 gates z in omega arith)

-- ---- the test between the options
pub any_preferred : (gates cuts gated : ℕ) → (ltb 0 gates || ltb cuts gated) ≡ true → (0 < gates) ⊎ (cuts < gated)
any_preferred gates cuts gated h =
    by (ltb 0 gates)
    (λ y. inl (ltb-true 0 gates y))
    (λ z. inr (ltb-true cuts gated (rw z at h)))

pub any_not_preferred : (gates cuts gated : ℕ) → (ltb 0 gates || ltb cuts gated) ≡ false → (gates ≡ 0) × (gated ≤ cuts)
any_not_preferred gates cuts gated h =
    by (ltb 0 gates)
    (λ y. absurd (true≢false (rw y at h)))
    (λ z. let a = ltb-false 0 gates z in (omega arith, ltb-false cuts gated (rw z at h)))

module _ (n : ℕ) (lo host count lightest : List ℕ) (has_ungated : List Bool) (ungated : List ℕ) (before cut_any : List Bool) (k : Cluster) (limit : ℕ) where
  largest :
      (x : Closing) (cuts left : ℕ) (o : Cutting n lo host lightest before cut_any k.lowest k.fixed limit cuts left) →
      left ≤ limit →
      Largest (branches_of n lo host k) limit (closing_of cut_any count lightest has_ungated ungated x) k.lowest o.θ
  unfolding flagged_count clear_sum
  largest x cuts left o f =
      record {
        cut_heavy = o.cut_heavy;
        kept_light = o.kept_light;
        fits = let e = o.left_is in omega arith;
        no_fewer = λ z. let e = o.left_is in let d = o.cuts_is in let w = o.no_fewer (omega arith) in omega arith;
      }

  module _ (below gated weight : ℕ) (below-is : below ≡ branch_sum n lo host k.lowest count) (gated-is : gated ≡ clear_count n lo host k.lowest has_ungated)
      (weight_is : weight ≡ k.fixed + flagged_sum n lo host k.lowest has_ungated ungated) where
    -- the any-option is not there
    pub ends-ungated :
        k.gates ≡ 0 →
        (limit < k.fixed)
        ⊎ ((cuts : ℕ) × (left : ℕ) × Cutting n lo host lightest before cut_any k.lowest k.fixed limit cuts left × (left ≤ limit) × (gated < cuts)) →
        (x : Closing) →
        x ≡ only_ungated (below + gated) weight →
        Closed (branches_of n lo host k) limit (closing_of cut_any count lightest has_ungated ungated x) k.lowest
    unfolding flagged_count flagged_sum clear_count clear_sum branch_sum
    ends-ungated g why x e =
        rw e
        (only-ungated g
        (⊎_map
        (λ z. z)
        (λ z. (z.2.θ, largest (only_ungated (below + gated) weight) z.0 z.1 z.2 z.3, let d = z.2.cuts_is in omega (arith, z.4)))
        why)
        (omega arith)
        refl
        refl
        weight_is
        refl)

    -- it is there, and the options are compared
    pub ends_compared :
        {cuts left : ℕ} (x : Closing) →
        Cutting n lo host lightest before cut_any k.lowest k.fixed limit cuts left →
        left ≤ limit →
        Compared below cuts left gated weight k.gates x →
        Closed (branches_of n lo host k) limit (closing_of cut_any count lightest has_ungated ungated x) k.lowest
    unfolding flagged_count flagged_sum clear_count clear_sum branch_sum
    ends_compared {cuts} {left} x o f (any-alone g e) =
        rw e
        (only-any o.θ (largest (only_any (below + cuts) left) cuts left o f)
        (⊎_map (λ z. z) (λ z. let d = o.cuts_is in omega arith) g)
        (let d = o.cuts_is in omega arith)
        refl
        refl
        o.left_is)
    ends_compared {cuts} {left} x o f (ungated-alone g l e) = ends-ungated g (inr (cuts, left, o, f, l)) x e
    ends_compared {cuts} {left} x o f (equal g l e) =
        rw e
        (both o.θ (largest (both_options (below + cuts) left weight) cuts left o f)
        g
        (let d = o.cuts_is in omega arith)
        (let d = o.cuts_is in omega arith)
        refl
        refl
        o.left_is
        weight_is)
