-- Tree sums: a number at each node, added up from the children. A child has a higher number than its parent.
-- Assumes nothing.
use Rattle.std.specs.Prelude.{ℕ, zero, suc, ◌+◌, ◌≤◌, ◌<◌, ◌≡◌, refl, Bool, true, false, not, ◌&&◌, eqb}
use Rattle.std.proofs.Common.{sym, ◌∙◌, ap, arith, eq-eqb, eqb-true}
use Rattle.laws.specs.Sum.{χ, sum}
use Rattle.laws.specs.Sums.{by, and_left, and_right, and_intro, χ-yes, χ_ap, χ-+, χ-split, sum_ap, sum-+, sum_pick', sum_regroup, term-≤, up}

-- y at node i and at all below it, at most k levels deep; child i j: node j is a child of node i
unfoldable pub tree_sum : ℕ → ℕ → (ℕ → ℕ → Bool) → (ℕ → ℕ) → ℕ → ℕ
tree_sum zero n child y i = 0
tree_sum (suc k) n child y i = y i + sum n (λ j. χ (child i j) (tree_sum k n child y j))

unfoldable pub tree : ℕ → (ℕ → ℕ → Bool) → (ℕ → ℕ) → ℕ → ℕ
tree n child y i = tree_sum n n child y i

-- T is the tree sum of y
abbrev pub IsTree : ℕ → (ℕ → ℕ → Bool) → (ℕ → ℕ) → (ℕ → ℕ) → Type 0
IsTree n child y T = (i : ℕ) → i < n → T i ≡ y i + sum n (λ j. χ (child i j) (T j))

-- a child has a higher number
abbrev pub Rising : ℕ → (ℕ → ℕ → Bool) → Type 0
Rising n child = (i j : ℕ) → i < n → j < n → child i j ≡ true → i < j

-- node j is joined to its parent i
abbrev pub joined_to : (ℕ → Bool) → (ℕ → ℕ) → ℕ → ℕ → Bool
joined_to joined par i j = joined j && eqb (par j) i

-- the levels suffice
tree_sum-more : (n : ℕ) (child : ℕ → ℕ → Bool) (y : ℕ → ℕ) → Rising n child → (k i : ℕ) → i < n → n ≤ i + k → tree_sum k n child y i ≡ tree_sum (suc k) n child y i
unfolding tree_sum
tree_sum-more n child y rising zero i p q = absurd (native.Mathlib.Nat.lt_irrefl 0 (omega arith))
tree_sum-more n child y rising (suc k) i p q =
    ap
    (λ (x : ℕ). y i + x)
    (sum_ap n (λ j lt. χ_ap (child i j) (λ yes. let r = rising i j p lt yes in tree_sum-more n child y rising k j lt (omega arith))))

pub tree_is : (n : ℕ) (child : ℕ → ℕ → Bool) (y : ℕ → ℕ) → Rising n child → IsTree n child y (tree n child y)
unfolding tree tree_sum
tree_is n child y rising i p = tree_sum-more n child y rising n i p (omega arith)

pub joined-rising : (n : ℕ) (joined : ℕ → Bool) (par : ℕ → ℕ) → ((j : ℕ) → j < n → joined j ≡ true → par j < j) → Rising n (joined_to joined par)
joined-rising n joined par lower i j p q is =
    let a = lower j q (and_left (joined j) (eqb (par j) i) is) in
    let e = eqb-true (par j) i (and_right (joined j) (eqb (par j) i) is) in
    omega arith

-- ---- a tree sum by parents is a sum over all nodes
module _ (n : ℕ) (joined : ℕ → Bool) (par y T : ℕ → ℕ) (lower : (j : ℕ) → j < n → joined j ≡ true → par j < j) (local : IsTree n (joined_to joined par) y T) where
  -- what the children of all nodes with a test add up to
  children : (q : ℕ → Bool) → ((j : ℕ) → j < n → joined j ≡ true → q j ≡ q (par j)) → sum n (λ r. χ (q r) (sum n (λ j. χ (joined_to joined par r j) (T j)))) ≡ sum n (λ j. χ (joined j) (χ (q j) (T j)))
  children q along =
      sum_regroup n q joined par T (λ j p yes. let a = lower j p yes in omega arith)
      ∙ sum_ap n (λ j p. χ_ap (joined j) (λ yes. ap (λ t. χ t (T j)) (sym (along j p yes))))

  -- over the nodes that are not joined to a parent
  pub flat_by : (q : ℕ → Bool) → ((j : ℕ) → j < n → joined j ≡ true → q j ≡ q (par j)) → sum n (λ j. χ (not (joined j)) (χ (q j) (T j))) ≡ sum n (λ r. χ (q r) (y r))
  flat_by q along =
      let a = sum_ap n {f = λ r. χ (q r) (T r)} {g = λ r. χ (q r) (y r) + χ (q r) (sum n (λ j. χ (joined_to joined par r j) (T j)))} (λ r p. ap (λ (x : ℕ). χ (q r) x) (local r p) ∙ χ-+ (q r) (y r) (sum n (λ j. χ (joined_to joined par r j) (T j)))) in
      let b = sum-+ n (λ r. χ (q r) (y r)) (λ r. χ (q r) (sum n (λ j. χ (joined_to joined par r j) (T j)))) in
      let c = children q along in
      let d = sum_ap n {f = λ r. χ (joined r) (χ (q r) (T r)) + χ (not (joined r)) (χ (q r) (T r))} {g = λ r. χ (q r) (T r)} (λ r p. χ-split (joined r) (χ (q r) (T r))) in
      let e = sum-+ n (λ r. χ (joined r) (χ (q r) (T r))) (λ r. χ (not (joined r)) (χ (q r) (T r))) in
      omega arith

  -- the tree of h: q tells the nodes that lead to h
  pub tree_flat :
      (h : ℕ) → h < n → joined h ≡ false →
      (q : ℕ → Bool) →
      ((j : ℕ) → j < n → joined j ≡ true → q j ≡ q (par j)) →
      ((j : ℕ) → j < n → joined j ≡ false → q j ≡ eqb h j) →
      T h ≡ sum n (λ r. χ (q r) (y r))
  tree_flat h p free q along at =
      sym (sum_ap n (λ j lt. change j lt) ∙ (sum_pick' n h (λ j. χ (not (joined j)) (T j)) p ∙ χ-yes (T h) (ap not free))) ∙ flat_by q along
    where
      move : (a b : Bool) (x : ℕ) → χ a (χ b x) ≡ χ b (χ a x)
      move true b x = refl
      move false true x = refl
      move false false x = refl

      go : (j : ℕ) → j < n → (t : Bool) → joined j ≡ t → χ (not t) (χ (q j) (T j)) ≡ χ (eqb h j) (χ (not t) (T j))
      go j lt true e = move false (eqb h j) (T j)
      go j lt false e = ap (λ t. χ t (T j)) (at j lt e)

      change : (j : ℕ) → j < n → χ (not (joined j)) (χ (q j) (T j)) ≡ χ (eqb h j) (χ (not (joined j)) (T j))
      change j lt = go j lt (joined j) refl

  -- all trees together
  pub roots_flat : sum n (λ h. χ (not (joined h)) (T h)) ≡ sum n y
  roots_flat = flat_by (λ j. true) (λ j p yes. refl)

  -- a child's tree is no heavier
  pub child-≤ : (j : ℕ) → j < n → joined j ≡ true → T j ≤ T (par j)
  child-≤ j p is =
      let a = lower j p is in
      let b = local (par j) (omega arith) in
      let c = term-≤ n j (λ i. χ (joined_to joined par (par j) i) (T i)) p in
      let d = χ-yes (T j) (and_intro is (eq-eqb (par j) (par j) refl)) in
      omega arith

  pub tree-≤ : (i : ℕ) → i < n → T i ≤ sum n y
  tree-≤ =
      up n
      (λ i. T i ≤ sum n y)
      (λ i p less.
      by (joined i)
      (λ yes. let a = lower i p yes in let b = child-≤ i p yes in let c = less (par i) a in omega arith)
      (λ no'.
      let a = term-≤ n i (λ h. χ (not (joined h)) (T h)) p in
      let b = χ-yes (T i) (ap not no') in
      let c = roots_flat in
      omega arith))
