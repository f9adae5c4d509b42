-- How large the numbers of the pass down get, for the code that must not overflow: no weight exceeds all the weight there is,
-- and no count twice the number of nodes.
-- Assumes nothing.
use Prim.Native.Nat.{ℕ, suc, ◌+◌, ◌-◌, ◌*◌, ◌≤◌, ◌<◌}
use Rattle.std.specs.Prelude.{◌≡◌, refl, Bool, true, false, ◌&&◌, leb}
use Rattle.std.proofs.Math.Path.{ap}
use Rattle.std.proofs.Math.Bool.{not}
use native.Mathlib.Omega.{arith}
use Rattle.std.proofs.Common.{mul-le-mul_left, add-mul, mul_comm, eqb-true, leb-true, le-leb}
use Rattle.std.proofs.Math.Dec.{eqb}
use Rattle.laws.specs.Sum.{χ, sum}
use Rattle.laws.specs.Sums.{by, no_both, and_left, and_right, and_no_right, χ-≤, χ-yes, χ-no, χ_mono, χ-+, sum_ap, sum-≤, sum-+, sum-zero, sum_swap, sum_pick-≤, sum_const, down}
use Rattle.laws.specs.Tree.{tree, tree_is, joined-rising, roots_flat, tree-≤}
use Rattle.cuts.specs.Cluster.{Clusters, Sound, hangs, span}
use Rattle.net.specs.Stage.{Stage}
use Rattle.net.specs.Formed.{Formed}
use Rattle.cuts.specs.Fits.{Fits, fixed_part}
use Rattle.cuts.specs.BridgeFits.{sum-nodes, hi_point, lo-≤-hi}
use Rattle.cuts.specs.Passes.{Down, Closed, Climbed, Counted, any_left, any_cuts, ungated_left, ungated_cuts, below_count, total_fewest, only-any, both, only-ungated, without-gate, within_limit, with-jumper}

-- the weight of cluster r's own wire between its lowest and its highest cuttable point
abbrev pub own_span : Clusters → ℕ → ℕ
own_span c r = χ (c.cuttable r) (span c r)

-- all the weight there is
unfoldable pub all_weight : Clusters → ℕ
all_weight c = sum c.nodes (λ i. c.fixed i + own_span c i)

-- the branches of cluster r
abbrev pub branch_count : Clusters → ℕ → ℕ
branch_count c r = sum c.nodes (λ j. χ (hangs c r j) 1)

-- the weight of cluster i's tree, and twice its number of clusters
weight_tree : Clusters → ℕ → ℕ
weight_tree c = tree c.nodes (hangs c) (λ i. c.fixed i + own_span c i)

count_tree : Clusters → ℕ → ℕ
count_tree c = tree c.nodes (hangs c) (λ i. 2)

-- what branch j adds is within its tree
record BranchWithin (c : Clusters) (d : Down) (j : ℕ) : Type 0 where
  light : d.lightest j ≤ weight_tree c j
  ungated : d.has_ungated j ≡ true → d.ungated j ≤ weight_tree c j
  count : d.count j + 1 ≤ count_tree c j

-- and so are the sums over cluster r's branches, and what it is closed with
record SumsWithin (c : Clusters) (d : Down) (r : ℕ) : Type 0 where
  light : c.fixed r + sum c.nodes (λ j. χ (hangs c r j) (d.lightest j)) + own_span c r ≤ weight_tree c r
  ungated : ungated_left c d r + own_span c r ≤ weight_tree c r
  count : below_count c d r + branch_count c r + 2 ≤ count_tree c r

record ClusterWithin (c : Clusters) (d : Down) (r : ℕ) : Type 0 where
  any : d.any_weight r + own_span c r ≤ weight_tree c r
  ungated : d.ungated_ok r ≡ true → d.ungated_weight r + own_span c r ≤ weight_tree c r
  count : d.fewest r + 2 ≤ count_tree c r

-- the sums over cluster r's branches, before it is closed
pub record SumsBounded (c : Clusters) (d : Down) (r : ℕ) : Type 0 where
  pub light : c.fixed r + sum c.nodes (λ j. χ (hangs c r j) (d.lightest j)) + own_span c r ≤ all_weight c
  pub ungated : ungated_left c d r + own_span c r ≤ all_weight c
  pub count : below_count c d r + branch_count c r + 2 ≤ 2 * c.nodes

-- what cluster r is closed with
pub record ClusterBounded (c : Clusters) (d : Down) (r : ℕ) : Type 0 where
  pub any : d.any_weight r + own_span c r ≤ all_weight c
  pub ungated : d.ungated_ok r ≡ true → d.ungated_weight r + own_span c r ≤ all_weight c
  pub count : d.fewest r + 2 ≤ 2 * c.nodes

-- what branch j adds
pub record BranchBounded (c : Clusters) (d : Down) (j : ℕ) : Type 0 where
  pub light : d.lightest j ≤ all_weight c
  pub ungated : d.has_ungated j ≡ true → d.ungated j ≤ all_weight c
  pub count : d.count j + 1 ≤ 2 * c.nodes

-- a part of a cluster's branches has no more than all of them
part-≤ : (n : ℕ) (h k : ℕ → Bool) {f g : ℕ → ℕ} → ((j : ℕ) → j < n → h j ≡ true → k j ≡ true → f j ≤ g j) → sum n (λ j. χ (h j && k j) (f j)) ≤ sum n (λ j. χ (h j) (g j))
part-≤ n h k {f} {g} less = sum-≤ n (λ j p. go j p (h j) (k j) refl refl)
  where
    go : (j : ℕ) → j < n → (a b : Bool) → h j ≡ a → k j ≡ b → χ (a && b) (f j) ≤ χ a (g j)
    go j p true true x y = less j p x y
    go j p true false x y = omega arith
    go j p false b x y = omega arith

module _ (c : Clusters) (limit : ℕ) (d : Down) (s : Sound c) (m : ℕ) (counted : Counted c limit d m) where
  weight-tree : (r : ℕ) → r < c.nodes → weight_tree c r ≡ (c.fixed r + own_span c r) + sum c.nodes (λ j. χ (hangs c r j) (weight_tree c j))
  unfolding weight_tree
  weight-tree = tree_is c.nodes (hangs c) (λ i. c.fixed i + own_span c i) (joined-rising c.nodes c.cuttable c.host s.host_below)

  count-tree : (r : ℕ) → r < c.nodes → count_tree c r ≡ 2 + sum c.nodes (λ j. χ (hangs c r j) (count_tree c j))
  unfolding count_tree
  count-tree = tree_is c.nodes (hangs c) (λ i. 2) (joined-rising c.nodes c.cuttable c.host s.host_below)

  weight-all : (r : ℕ) → r < c.nodes → weight_tree c r ≤ all_weight c
  unfolding all_weight
  weight-all r p = tree-≤ c.nodes c.cuttable c.host (λ i. c.fixed i + own_span c i) (weight_tree c) s.host_below weight-tree r p

  count-all : (r : ℕ) → r < c.nodes → count_tree c r ≤ 2 * c.nodes
  count-all r p =
      let a = tree-≤ c.nodes c.cuttable c.host (λ i. 2) (count_tree c) s.host_below count-tree r p in
      let b = sum_const c.nodes 2 in
      omega arith

  sums-within : (r : ℕ) → r < c.nodes → ((j : ℕ) → r < j → j < c.nodes → c.cuttable j ≡ true → BranchWithin c d j) → SumsWithin c d r
  sums-within r p below =
      let w = weight-tree r p in
      let k = count-tree r p in
      let light =
      sum-≤ c.nodes
      {f = λ j. χ (hangs c r j) (d.lightest j)}
      {g = λ j. χ (hangs c r j) (weight_tree c j)}
      (λ j q. χ_mono (hangs c r j) (λ h. (inside j q h).light)) in
      let ungated =
      part-≤ c.nodes (hangs c r) d.has_ungated {f = d.ungated} {g = weight_tree c} (λ j q h y. (inside j q h).ungated y) in
      let count =
      sum-≤ c.nodes
      {f = λ j. χ (hangs c r j) (d.count j) + χ (hangs c r j) 1}
      {g = λ j. χ (hangs c r j) (count_tree c j)}
      (λ j q.
      let a = χ_mono (hangs c r j) (λ h. (inside j q h).count) in
      let b = χ-+ (hangs c r j) (d.count j) 1 in
      omega arith) in
      let split = sum-+ c.nodes (λ j. χ (hangs c r j) (d.count j)) (λ j. χ (hangs c r j) 1) in
      record { light = omega arith; ungated = omega arith; count = omega arith }
    where
      inside : (j : ℕ) → j < c.nodes → hangs c r j ≡ true → BranchWithin c d j
      inside j q h =
          let cj = and_left (c.cuttable j) (eqb (c.host j) r) h in
          let e = eqb-true (c.host j) r (and_right (c.cuttable j) (eqb (c.host j) r) h) in
          let b = s.host_below j q cj in
          below j (omega arith) q cj

  cluster_within : (r : ℕ) → SumsWithin c d r → Closed c limit d r → ClusterWithin c d r
  cluster_within r w k = go k
    where
      left : any_left c d r ≤ c.fixed r + sum c.nodes (λ j. χ (hangs c r j) (d.lightest j))
      left =
          let a = part-≤ c.nodes (hangs c r) (λ j. not (d.cut_any j)) {f = d.lightest} {g = d.lightest} (λ j q h y. omega arith) in omega arith

      cuts : any_cuts c d r ≤ branch_count c r
      cuts = part-≤ c.nodes (hangs c r) d.cut_any {f = λ j. 1} {g = λ j. 1} (λ j q h y. omega arith)

      ungated-cuts : ungated_cuts c d r ≤ branch_count c r
      ungated-cuts = part-≤ c.nodes (hangs c r) (λ j. not (d.has_ungated j)) {f = λ j. 1} {g = λ j. 1} (λ j q h y. omega arith)

      go : Closed c limit d r → ClusterWithin c d r
      go (only-any θ l g f a u x) =
          record {
            any = omega (arith, left, w.light);
            ungated = λ y. absurd (no_both y u);
            count = omega (arith, cuts, w.count);
          }
      go (both θ l g e f a u x v) =
          record {
            any = omega (arith, left, w.light);
            ungated = λ y. omega (arith, w.ungated);
            count = omega (arith, cuts, w.count);
          }
      go (only-ungated g o f a u v x) =
          record {
            any = omega (arith, w.ungated);
            ungated = λ y. omega (arith, w.ungated);
            count = omega (arith, ungated-cuts, w.count);
          }

  branch-within : (j : ℕ) → j < c.nodes → c.cuttable j ≡ true → ClusterWithin c d j → Climbed c limit d j → BranchWithin c d j
  branch-within j p cj w (without-gate g k e h v l) =
      let a = w.ungated g in
      let own = χ-yes (span c j) cj in
      record {
        light = by (leb (d.any_weight j + span c j) limit)
            (λ y. let l' : d.lightest j ≡ d.any_weight j + span c j = rw y at l in omega (arith, w.any))
            (λ n. let l' : d.lightest j ≡ d.ungated j = rw n at l in omega arith);
        ungated = λ y. omega arith;
        count = omega (arith, w.count);
      }
  branch-within j p cj w (within_limit g x k e h l) =
      let own = χ-yes (span c j) cj in
      record { light = omega (arith, w.any); ungated = λ y. absurd (no_both y h); count = omega (arith, w.count) }
  branch-within j p cj w (with-jumper g x k f b t h v l) =
      let lo = s.lo_least j (d.near j) p cj f in
      let above : c.hi j - d.near j ≤ c.hi j - c.lo j = omega arith in
      let a = mul-le-mul_left (c.factor j) above in
      let own = χ-yes (span c j) cj in
      let z = w.any in
      record { light = omega arith; ungated = λ y. omega arith; count = omega (arith, w.count) }

  -- every branch and every cluster from number m on
  all_branches : (j : ℕ) → j < c.nodes → m ≤ j → c.cuttable j ≡ true → BranchWithin c d j
  all_branches =
      down c.nodes (λ j. m ≤ j → c.cuttable j ≡ true → BranchWithin c d j)
      (λ j p below from cj.
      let sums = sums-within j p (λ i above q ci. below i above q (omega arith) ci) in
      branch-within j p cj (cluster_within j sums (counted.closed j from p)) (counted.climbed j from p cj))

  sums : (r : ℕ) → m ≤ suc r → r < c.nodes → SumsWithin c d r
  sums r from p = sums-within r p (λ j above q cj. all_branches j q (omega arith) cj)

  clusters : (r : ℕ) → m ≤ r → r < c.nodes → ClusterWithin c d r
  clusters r from p = cluster_within r (sums r (omega arith) p) (counted.closed r from p)

  pub sums_bounded : (r : ℕ) → m ≤ suc r → r < c.nodes → SumsBounded c d r
  sums_bounded r from p =
      let w = sums r from p in
      let a = weight-all r p in
      let b = count-all r p in
      record { light = omega (arith, w.light); ungated = omega (arith, w.ungated); count = omega (arith, w.count) }

  pub cluster_bounded : (r : ℕ) → m ≤ r → r < c.nodes → ClusterBounded c d r
  cluster_bounded r from p =
      let w = clusters r from p in
      let a = weight-all r p in
      let b = count-all r p in
      record { any = omega (arith, w.any); ungated = λ y. omega (arith, w.ungated y); count = omega (arith, w.count) }

  -- the points of the clusters from number m on that hang on none
  pub total_bounded : sum c.nodes (λ r. χ (leb m r && not (c.cuttable r)) (d.fewest r)) ≤ 2 * c.nodes
  total_bounded =
      let a = roots_flat c.nodes c.cuttable c.host (λ i. 2) (count_tree c) s.host_below count-tree in
      let b = sum_const c.nodes 2 in
      let e =
      sum-≤ c.nodes
      {f = λ r. χ (leb m r && not (c.cuttable r)) (d.fewest r)}
      {g = λ r. χ (not (c.cuttable r)) (count_tree c r)}
      (λ r p.
      by (leb m r)
      (λ y. rw y (χ_mono (not (c.cuttable r)) (λ nc. omega (arith, (clusters r (leb-true m r y) p).count))))
      (λ n. rw n (omega arith))) in
      omega arith

-- the points found in all
pub total-≤ : (c : Clusters) (limit : ℕ) (d : Down) → Sound c → Counted c limit d 0 → total_fewest c d ≤ 2 * c.nodes
unfolding total_fewest
total-≤ c limit d s counted =
    let a = total_bounded c limit d s 0 counted in
    let b =
    sum-≤ c.nodes
    {f = λ r. χ (not (c.cuttable r)) (d.fewest r)}
    {g = λ r. χ (leb 0 r && not (c.cuttable r)) (d.fewest r)}
    (λ r p. rw (le-leb 0 r (omega arith)) (omega arith)) in
    omega arith

-- ---- all the weight there is, in a net at a stage
-- one place picked, under tests that do not depend on it
pick_if-≤ : (n k x : ℕ) (t : Bool) → sum n (λ r. χ (t && eqb k r) x) ≤ χ t x
pick_if-≤ n k x true = sum_pick-≤ n k x
pick_if-≤ n k x false = let a = sum-zero n {f = λ r. 0} (λ r p. refl) in omega arith

pick_both-≤ : (n k x : ℕ) (t u : Bool) → sum n (λ r. χ (t && (u && eqb k r)) x) ≤ χ (t && u) x
pick_both-≤ n k x true u = pick_if-≤ n k x u
pick_both-≤ n k x false u = let a = sum-zero n {f = λ r. 0} (λ r p. refl) in omega arith

-- a wire in three parts
three_parts : (lo hi len k : ℕ) → lo ≤ hi → hi ≤ len → lo * k + (len - hi) * k + k * (hi - lo) ≡ len * k
three_parts lo hi len k p q =
    let a = add-mul (lo + (len - hi)) (hi - lo) k in
    let b = add-mul lo (len - hi) k in
    let e = mul_comm k (hi - lo) in
    let l : lo + (len - hi) + (hi - lo) ≡ len = omega arith in
    let f = ap (λ (x : ℕ). x * k) l in
    omega arith

module _ (s : Stage) (c : Clusters) (root component : ℕ → ℕ) (formed : Formed s) (fits : Fits s c root component) where
  -- what wire i gives to all clusters, with its span
  given : (i : ℕ) → i < s.nodes → sum s.nodes (λ r. fixed_part s c root r i) + own_span c i ≤ s.len i * s.factor i
  unfolding fixed_part
  given i p =
      let n = s.nodes in
      let f : ℕ → ℕ = λ r. χ (s.present i && (not (c.cuttable i) && eqb (root i) r)) (s.len i * s.factor i) in
      let g : ℕ → ℕ = λ r. χ (c.cuttable i && eqb i r) (c.lo i * s.factor i) in
      let h : ℕ → ℕ = λ r. χ (c.cuttable i && eqb (c.host i) r) ((s.len i - c.hi i) * s.factor i) in
      let a = sum-+ n f (λ r. g r + h r) in
      let b = sum-+ n g h in
      let inner = pick_both-≤ n (root i) (s.len i * s.factor i) (s.present i) (not (c.cuttable i)) in
      let low = pick_if-≤ n i (c.lo i * s.factor i) (c.cuttable i) in
      let high = pick_if-≤ n (c.host i) ((s.len i - c.hi i) * s.factor i) (c.cuttable i) in
      let e = fits.factor_is i p in
      by (c.cuttable i)
      (λ y.
      let x = χ-no (s.len i * s.factor i) (and_no_right (s.present i) (ap not y)) in
      let u = χ-yes (c.lo i * s.factor i) y in
      let v = χ-yes ((s.len i - c.hi i) * s.factor i) y in
      let w = χ-yes (span c i) y in
      let k = ap (λ (k : ℕ). k * (c.hi i - c.lo i)) e in
      let top = (hi_point s c root component formed fits i p y).high in
      let t = three_parts (c.lo i) (c.hi i) (s.len i) (s.factor i) (lo-≤-hi s c root component formed fits i p y) (omega arith) in
      omega arith)
      (λ z.
      let x = χ-≤ (s.present i && not (c.cuttable i)) (s.len i * s.factor i) in
      let u = χ-no (c.lo i * s.factor i) z in
      let v = χ-no ((s.len i - c.hi i) * s.factor i) z in
      let w = χ-no (span c i) z in
      omega arith)

  pub all_weight-≤ : all_weight c ≤ sum s.nodes (λ i. s.len i * s.factor i)
  unfolding all_weight
  all_weight-≤ =
      let a = sum-nodes s c root component formed fits (λ i. c.fixed i + own_span c i) in
      let b = sum-+ s.nodes c.fixed (own_span c) in
      let e = sum_ap s.nodes {f = c.fixed} {g = λ r. sum s.nodes (λ i. fixed_part s c root r i)} (λ r p. fits.fixed_is r p) in
      let f = sum_swap s.nodes s.nodes (λ r i. fixed_part s c root r i) in
      let g = sum-+ s.nodes (λ i. sum s.nodes (λ r. fixed_part s c root r i)) (own_span c) in
      let h =
      sum-≤ s.nodes
      {f = λ i. sum s.nodes (λ r. fixed_part s c root r i) + own_span c i}
      {g = λ i. s.len i * s.factor i}
      given in
      omega arith
