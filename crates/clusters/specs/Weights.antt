-- The weights that wires give to clusters: how large they are, and one turn of the pass that adds them up.
-- Assumes nothing.
use Rattle.std.specs.Prelude.{ℕ, ◌+◌, ◌-◌, ◌*◌, ◌^◌, ◌≤◌, ◌<◌, ◌≡◌, List, length, get_or, set}
use Rattle.std.proofs.Common.{arith, mul-le-mul, length-set, ltb-true}
use Rattle.laws.specs.Lists.{set-add}
use Rattle.laws.specs.Numbers.{Bytes}
use Rattle.laws.specs.Sums.{by}
use Rattle.net.specs.Layout.{wire_bytes}
use Rattle.net.specs.Limits.{length_bound, factor_bound, wire_weight_bound}
use Rattle.net.specs.Net.{node_count, wire_length, wire_factor}
use Rattle.points.specs.Geometry.{length-small}
use Rattle.clusters.specs.FirstPasses.{Wired, EndsInside, is_present, cuttable, Falling, gathered, lower_weight, upper_weight}
use Rattle.clusters.specs.Turns.{is_present-positive, gathered-more, gathered_none, gathered-bound, cleared}
use Rattle.clusters.specs.EndsLaws.{checked}

-- the most that a wire weighs
pub product_small : {a b : ℕ} → a ≤ length_bound → b ≤ factor_bound → a * b ≤ wire_weight_bound
product_small p q = mul-le-mul p q

pub length-≤ : {ns ws : List ℕ} → Wired ns ws → Bytes ns → (i : ℕ) → 0 < i → i < node_count ns → wire_length ns ws i ≤ length_bound
length-≤ {ns} {ws} w bytes i p q = omega (arith, length-small ns ws i bytes (checked w i p q))

pub factor-≤ : (ws : List ℕ) → Bytes ws → (i : ℕ) → wire_factor ws i ≤ factor_bound
factor-≤ ws bytes i = omega (arith, bytes (wire_bytes * (i - 1) + 2))

module _ (ns ws lo hi : List ℕ) (k : ℕ) (w : Wired ns ws) (nodes : Bytes ns) (wires : Bytes ws) (inside : EndsInside ns ws lo hi) (i : ℕ) (p : i < node_count ns) where
  pub lower-small : lower_weight ns ws k lo i ≤ wire_weight_bound
  lower-small =
      by (is_present ws k i)
      (λ m.
      let l = length-≤ w nodes i (is_present-positive ws k i m) p in
      by (cuttable lo i)
      (λ y. rw (m, y) (product_small (omega (arith, inside.low i p (ltb-true 0 (get_or lo i 0) y))) (factor-≤ ws wires i)))
      (λ n. rw (m, n) (product_small l (factor-≤ ws wires i))))
      (λ m. rw m (omega arith))

  pub upper-small : upper_weight ns ws lo hi i ≤ wire_weight_bound
  upper-small =
      by (cuttable lo i)
      (λ y.
      let l = length-≤ w nodes i (inside.wire i p (ltb-true 0 (get_or lo i 0) y)) p in
      rw y (product_small (omega arith) (factor-≤ ws wires i)))
      (λ n. rw n (omega arith))

-- a turn that adds at two places
module _ (i : ℕ) (a b : List ℕ) (x y : ℕ → ℕ) (l : List ℕ) (p : i < length l) (fa : Falling (i + 1) a) (fb : Falling (i + 1) b) (h : (r : ℕ) → r < i → get_or l r 0 ≡ gathered i a x r + gathered i b y r) where
  cleared-two : (r : ℕ) → r < i + 1 → get_or (set l i 0) r 0 ≡ gathered i a x r + gathered i b y r
  cleared-two =
      let u = gathered_none i i a x (λ j t. fa j (omega arith)) (omega arith) in
      let v = gathered_none i i b y (λ j t. fb j (omega arith)) (omega arith) in
      cleared i (λ r. gathered i a x r + gathered i b y r) l p (omega arith) h

  first-inside : get_or a i 0 < length (set l i 0)
  first-inside = rw length-set (omega (arith, fa i (omega arith)))

  pub after_first : (r : ℕ) → r < i + 1 → get_or (set (set l i 0) (get_or a i 0) (get_or (set l i 0) (get_or a i 0) 0 + x i)) r 0 ≡ gathered (i + 1) a x r + gathered i b y r
  after_first r q =
      let u = set-add (set l i 0) (get_or a i 0) (x i) first-inside r in
      let v = cleared-two r q in
      let w = gathered-more i a x r in
      omega arith

  pub after-second :
      (r : ℕ) → r < i + 1 →
      get_or (set (set (set l i 0) (get_or a i 0) (get_or (set l i 0) (get_or a i 0) 0 + x i)) (get_or b i 0) (get_or (set (set l i 0) (get_or a i 0) (get_or (set l i 0) (get_or a i 0) 0 + x i)) (get_or b i 0) 0 + y i)) r 0
      ≡ gathered (i + 1) a x r + gathered (i + 1) b y r
  after-second r q =
      let m = set (set l i 0) (get_or a i 0) (get_or (set l i 0) (get_or a i 0) 0 + x i) in
      let n : get_or b i 0 < length m = rw (length-set, length-set) (omega (arith, fb i (omega arith))) in
      let u = set-add m (get_or b i 0) (y i) n r in
      let v = after_first r q in
      let w = gathered-more i b y r in
      omega arith

  -- what is there before each addition is small
  module _ (m : ℕ) (sx : (j : ℕ) → j < i + 1 → x j ≤ m) (sy : (j : ℕ) → j < i + 1 → y j ≤ m) where
    pub before-first : get_or (set l i 0) (get_or a i 0) 0 ≤ i * m + i * m
    before-first =
        let u = cleared-two (get_or a i 0) (omega (arith, fa i (omega arith))) in
        let v = gathered-bound i m a x (λ j t. sx j (omega arith)) (get_or a i 0) in
        let w = gathered-bound i m b y (λ j t. sy j (omega arith)) (get_or a i 0) in
        omega arith

    pub before-second : get_or (set (set l i 0) (get_or a i 0) (get_or (set l i 0) (get_or a i 0) 0 + x i)) (get_or b i 0) 0 ≤ (i + 1) * m + i * m
    before-second =
        let u = after_first (get_or b i 0) (omega (arith, fb i (omega arith))) in
        let v = gathered-bound (i + 1) m a x sx (get_or b i 0) in
        let w = gathered-bound i m b y (λ j t. sy j (omega arith)) (get_or b i 0) in
        omega arith

-- one turn of weighing the wires of a net: each addition fits
module _
    (ns ws lo hi root host : List ℕ) (k : ℕ) (w : Wired ns ws) (nodes : Bytes ns) (wires : Bytes ws) (inside : EndsInside ns ws lo hi) (fr : Falling (node_count ns) root) (fh : Falling (node_count ns) host)
    (i : ℕ) (p : i < node_count ns) (l : List ℕ) (stored : i < length l) (h : (r : ℕ) → r < i → get_or l r 0 ≡ gathered i root (lower_weight ns ws k lo) r + gathered i host (upper_weight ns ws lo hi) r) where
  abbrev x : ℕ → ℕ
  x = lower_weight ns ws k lo

  abbrev y : ℕ → ℕ
  y = upper_weight ns ws lo hi

  small_x : (j : ℕ) → j < i + 1 → x j ≤ wire_weight_bound
  small_x j q = lower-small ns ws lo hi k w nodes wires inside j (omega arith)

  small_y : (j : ℕ) → j < i + 1 → y j ≤ wire_weight_bound
  small_y j q = upper-small ns ws lo hi k w nodes wires inside j (omega arith)

  pub lower-fits : get_or (set l i 0) (get_or root i 0) 0 + x i < 2 ^ 64
  lower-fits =
      let b = before-first i root host x y l stored (λ j q. fr j (omega arith)) (λ j q. fh j (omega arith)) h wire_weight_bound small_x small_y in
      omega (arith, w.few, small_x i (omega arith))

  pub upper-fits : get_or (set (set l i 0) (get_or root i 0) (get_or (set l i 0) (get_or root i 0) 0 + x i)) (get_or host i 0) 0 + y i < 2 ^ 64
  upper-fits =
      let b = before-second i root host x y l stored (λ j q. fr j (omega arith)) (λ j q. fh j (omega arith)) h wire_weight_bound small_x small_y in
      omega (arith, w.few, small_y i (omega arith))
