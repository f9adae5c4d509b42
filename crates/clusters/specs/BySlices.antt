-- The work arrays of the first passes as slices of any length.
-- Assumes nothing.
use Rattle.std.specs.Prelude.{ℕ, ◌+◌, ◌^◌, ◌<◌, ◌≡◌, cond, List, length, get_or, set, eqb}
use Rattle.std.proofs.Common.{arith, get_or-set_same, get_or-set_other, eqb-true, lt-ltb}
use Rattle.std.proofs.lemmas.Bool.{eqb-false}
use Rattle.laws.specs.Sums.{by, sum_ap}
use Rattle.laws.specs.Numbers.{Bytes}
use Rattle.net.specs.Net.{node_count}
use Rattle.clusters.specs.declared.work.Clusters.{Clusters}
use Rattle.clusters.specs.Positions.{los, his}
use Rattle.clusters.specs.FirstPasses.{Wired, EndsInside, cuttable, gathered, lower_weight, upper_weight}
use Rattle.clusters.specs.Weights.{length-≤}

-- the positions of wires that may be cut have 32 bits
abbrev pub Narrow : ℕ → List ℕ → List ℕ → Type 0
Narrow n lo hi = (i : ℕ) → i < n → 0 < get_or lo i 0 → (get_or lo i 0 < 2 ^ 32) × (get_or hi i 0 < 2 ^ 32)

-- the first n clusters of c, by their positions and hosts
pub record SameClusters (n : ℕ) (lo hi host : List ℕ) {N : ℕ} (c : Clusters N) : Type 0 where
  pub n_is : c.n ≡ n
  pub low : (i : ℕ) → i < n → get_or (los c.cuttable) i 0 ≡ get_or lo i 0
  pub high : (i : ℕ) → i < n → get_or (his c.cuttable) i 0 ≡ cond (cuttable lo i) (get_or hi i 0) 0
  pub hosts : (i : ℕ) → i < n → get_or c.host i 0 ≡ get_or host i 0

-- one entry more of which something holds
pub entry_more :
    {A : Type 0} (P : ℕ → A → Type 0) (l : List A) (i : ℕ) (v d : A) → i < length l → P i v → ((j : ℕ) → j < i → P j (get_or l j d)) →
    (j : ℕ) → j < i + 1 → P j (get_or (set l i v) j d)
entry_more P l i v d p h before j q =
    by (eqb j i)
    (λ y. rw (eqb-true j i y, get_or-set_same l i v d p) h)
    (λ z. let ne = eqb-false j i z in rw (get_or-set_other l i j v d ne) (before j (omega arith)))

-- equal numbers add up to equal sums
gathered_ap : (n : ℕ) (a : List ℕ) (r : ℕ) {x y : ℕ → ℕ} → ((i : ℕ) → i < n → x i ≡ y i) → gathered n a x r ≡ gathered n a y r
gathered_ap n a r h = sum_ap n (λ i p. rw (h i p))

module _ {ns ws lo hi : List ℕ} (w : Wired ns ws) (nodes : Bytes ns) (inside : EndsInside ns ws lo hi) where
  pub narrow_inside : Narrow (node_count ns) lo hi
  narrow_inside i p l =
      let long = length-≤ w nodes i (inside.wire i p l) p in
      (omega (arith, inside.low i p l, long), omega (arith, inside.high i p l, long))

module _ (ns ws : List ℕ) {lo hi host : List ℕ} {N : ℕ} {c : Clusters N} (s : SameClusters (node_count ns) lo hi host c) where
  pub inside_same : EndsInside ns ws lo hi → EndsInside ns ws (los c.cuttable) (his c.cuttable)
  inside_same inside =
      record {
        wire = λ i p l. inside.wire i p (rw (s.low i p) at l);
        low = λ i p l. rw (s.low i p) (inside.low i p (rw (s.low i p) at l));
        high = λ i p l. let l' = rw (s.low i p) at l in rw (s.high i p, lt-ltb 0 (get_or lo i 0) l') (inside.high i p l');
      }

  lower_same : (k i : ℕ) → i < node_count ns → lower_weight ns ws k (los c.cuttable) i ≡ lower_weight ns ws k lo i
  lower_same k i p = rw (s.low i p)

  upper_same : (i : ℕ) → i < node_count ns → upper_weight ns ws (los c.cuttable) (his c.cuttable) i ≡ upper_weight ns ws lo hi i
  upper_same i p = rw (s.low i p, s.high i p) (by (cuttable lo i) (λ y. rw y) (λ n. rw n))

  -- the weights that they give to a cluster
  pub gathered_same :
      (k : ℕ) (root : List ℕ) (r : ℕ) →
      gathered (node_count ns) root (lower_weight ns ws k (los c.cuttable)) r + gathered (node_count ns) host (upper_weight ns ws (los c.cuttable) (his c.cuttable)) r
      ≡ gathered (node_count ns) root (lower_weight ns ws k lo) r + gathered (node_count ns) host (upper_weight ns ws lo hi) r
  gathered_same k root r =
      let a = gathered_ap (node_count ns) root r (lower_same k) in
      let b = gathered_ap (node_count ns) host r upper_same in
      omega (arith, a, b)
