-- One turn of each of the first passes, and what follows of the arrays that they fill.
-- Assumes nothing.
use Rattle.std.specs.Prelude.{ℕ, ◌+◌, ◌*◌, ◌≤◌, ◌<◌, ◌≡◌, refl, Bool, true, false, not, ◌&&◌, ◌||◌, cond, List, length, get_or, set, leb, ltb, eqb}
use Rattle.std.proofs.Common.{sym, ◌∙◌, ap, arith, add-one, length-set, get_or-set_same, get_or-set_other, ltb-true, eqb-true, ne_eqb}
use Rattle.std.proofs.lemmas.Bool.{eqb-false}
use Rattle.laws.specs.Sum.{χ, sum}
use Rattle.laws.specs.Lists.{set-add}
use Rattle.laws.specs.Sums.{by, and_left, χ-≤, sum-zero, sum_bound, any_next, any_none, up}
use Rattle.net.specs.Net.{node_count, node_flags, is_gate, wire_parent, wire_layer}
use Rattle.clusters.specs.FirstPasses.{Wired, is_present, cuttable, whole, leader, Leads, Falling, marked, gathered, gate_of}

-- ---- a wire that is present
pub is_present-positive : (ws : List ℕ) (k i : ℕ) → is_present ws k i ≡ true → 0 < i
is_present-positive ws k i h = ltb-true 0 i (and_left (ltb 0 i) (leb (wire_layer ws i) k) h)

pub is_present-lower : {ns ws : List ℕ} → Wired ns ws → (k i : ℕ) → i < node_count ns → is_present ws k i ≡ true → wire_parent ws i < i
is_present-lower {ns} {ws} w k i p h = w.below i (is_present-positive ws k i h) p

pub whole-lower : {ns ws : List ℕ} → Wired ns ws → (k : ℕ) (lo : List ℕ) (i : ℕ) → i < node_count ns → whole ws k lo i ≡ true → wire_parent ws i < i
whole-lower {ns} {ws} w k lo i p h = is_present-lower w k i p (and_left (is_present ws k i) (not (cuttable lo i)) h)

-- node 0 has no wire
pub cuttable-positive : (lo : List ℕ) → get_or lo 0 0 ≡ 0 → (i : ℕ) → 0 < get_or lo i 0 → 0 < i
cuttable-positive lo e i h =
    by (eqb i 0)
    (λ y. let a = ap (λ (j : ℕ). get_or lo j 0) (eqb-true i 0 y) in omega arith)
    (λ n. let d = eqb-false i 0 n in omega arith)

-- ---- an array that is filled from below
pub filled_all : (P : ℕ → ℕ → Type 0) (i v : ℕ) (l : List ℕ) → i < length l → P i v → ((j : ℕ) → j < i → P j (get_or l j 0)) → (j : ℕ) → j < i + 1 → P j (get_or (set l i v) j 0)
filled_all P i v l p e h j q =
    by (eqb j i)
    (λ y. let s = eqb-true j i y in rw (s, get_or-set_same l i v 0 p) e)
    (λ n. let d = eqb-false j i n in rw (get_or-set_other l i j v 0 d) (h j (omega arith)))

pub filled_more : (i v : ℕ) (f : ℕ → ℕ) (l : List ℕ) → i < length l → v ≡ f i → ((j : ℕ) → j < i → get_or l j 0 ≡ f j) → (j : ℕ) → j < i + 1 → get_or (set l i v) j 0 ≡ f j
filled_more i v f l p e h = filled_all (λ j x. x ≡ f j) i v l p e h

-- ---- an array of the nodes that nodes lead to
-- a test that each node's wire passes or not, and one node more that leads where it says
module _ (parent : ℕ → ℕ) (Joined : ℕ → Bool → Type 0) (i v : ℕ) (l : List ℕ) where
  leader-set : (x : Bool) (k : ℕ) → k ≤ i → (x ≡ true → parent k < k) → cond x (get_or (set l i v) (parent k) 0) k ≡ cond x (get_or l (parent k) 0) k
  leader-set true k p lower =
      let b = lower refl in
      get_or-set_other l i (parent k) v 0 (λ e. native.Mathlib.Nat.lt_irrefl 0 (omega arith))
  leader-set false k p lower = refl

  pub leads_next :
      (b : Bool) →
      i < length l →
      Joined i b →
      v ≡ cond b (get_or l (parent i) 0) i →
      ((k : ℕ) → k ≤ i → Joined k true → parent k < k) →
      ((k : ℕ) → k < i → (x : Bool) × Joined k x × (get_or l k 0 ≡ cond x (get_or l (parent k) 0) k)) →
      (k : ℕ) → k < i + 1 → (x : Bool) × Joined k x × (get_or (set l i v) k 0 ≡ cond x (get_or (set l i v) (parent k) 0) k)
  leads_next b p here e lower h k q =
      by (eqb k i)
      (λ y.
      let s = eqb-true k i y in
      rw s (b, here, get_or-set_same l i v 0 p ∙ (e ∙ sym (leader-set b i (omega arith) (λ t. lower i (omega arith) (rw t at here))))))
      (λ n.
      let d = eqb-false k i n in
      let m = h k (omega arith) in
      (m.0, m.1, get_or-set_other l i k v 0 d ∙ (m.2 ∙ sym (leader-set m.0 k (omega arith) (λ t. lower k (omega arith) (rw t at m.1))))))

module _ (joined : ℕ → Bool) (parent : ℕ → ℕ) where
  -- the same where the test is a function
  pub leads_more :
      (i : ℕ) (l : List ℕ) →
      i < length l →
      ((j : ℕ) → j ≤ i → joined j ≡ true → parent j < j) →
      Leads i joined parent l →
      Leads (i + 1) joined parent (set l i (leader joined parent l i))
  leads_more i l p lower h k q =
      let m =
      leads_next parent (λ j b. b ≡ joined j) i (leader joined parent l i) l (joined i) p refl refl (λ j r t. lower j r (sym t)) (λ j r. (joined j, refl, h j r)) k q in
      rw m.1 at m.2

  pub leads_falling : (n : ℕ) (l : List ℕ) → ((j : ℕ) → j < n → joined j ≡ true → parent j < j) → Leads n joined parent l → Falling n l
  leads_falling n l lower h =
      up n
      (λ i. get_or l i 0 ≤ i)
      (λ i p less.
      by (joined i)
      (λ y. let a = rw y at (h i p) in let b = lower i p y in let d = less (parent i) b in omega arith)
      (λ n'. let a = rw n' at (h i p) in omega arith))

-- roots and components lie no higher than their nodes
pub roots_fall : {ns ws : List ℕ} → Wired ns ws → (k : ℕ) (lo root : List ℕ) → Leads (node_count ns) (whole ws k lo) (wire_parent ws) root → Falling (node_count ns) root
roots_fall {ns} {ws} w k lo root h = leads_falling (whole ws k lo) (wire_parent ws) (node_count ns) root (λ j p. whole-lower w k lo j p) h

pub components_fall : {ns ws : List ℕ} → Wired ns ws → (k : ℕ) (component : List ℕ) → Leads (node_count ns) (is_present ws k) (wire_parent ws) component → Falling (node_count ns) component
components_fall {ns} {ws} w k component h = leads_falling (is_present ws k) (wire_parent ws) (node_count ns) component (λ j p. is_present-lower w k j p) h

-- ---- an array in which numbers are added up
pub gathered-more : (i : ℕ) (a : List ℕ) (x : ℕ → ℕ) (r : ℕ) → gathered (i + 1) a x r ≡ gathered i a x r + χ (eqb (get_or a i 0) r) (x i)
unfolding sum
gathered-more i a x r = rw (add-one i)

-- nothing below i leads to i or beyond
pub gathered_none : (i r : ℕ) (a : List ℕ) (x : ℕ → ℕ) → Falling i a → i ≤ r → gathered i a x r ≡ 0
gathered_none i r a x f p = sum-zero i (λ j q. let b = f j q in rw (ne_eqb (get_or a j 0) r (λ e. native.Mathlib.Nat.lt_irrefl 0 (omega arith))))

pub gathered-bound : (n b : ℕ) (a : List ℕ) (x : ℕ → ℕ) → ((i : ℕ) → i < n → x i ≤ b) → (r : ℕ) → gathered n a x r ≤ n * b
gathered-bound n b a x h r = sum_bound n b (λ i p. let u = h i p in let v = χ-≤ (eqb (get_or a i 0) r) (x i) in omega arith)

pub cleared : (i : ℕ) (g : ℕ → ℕ) (l : List ℕ) → i < length l → g i ≡ 0 → ((r : ℕ) → r < i → get_or l r 0 ≡ g r) → (r : ℕ) → r < i + 1 → get_or (set l i 0) r 0 ≡ g r
cleared i g l p z h = filled_more i 0 g l p (sym z) h

-- a turn that adds at one place
pub gather-turn :
    (i : ℕ) (a : List ℕ) (x : ℕ → ℕ) (l : List ℕ) →
    i < length l →
    Falling (i + 1) a →
    ((r : ℕ) → r < i → get_or l r 0 ≡ gathered i a x r) →
    (r : ℕ) → r < i + 1 → get_or (set (set l i 0) (get_or a i 0) (get_or (set l i 0) (get_or a i 0) 0 + x i)) r 0 ≡ gathered (i + 1) a x r
gather-turn i a x l p f h r q =
    let b = f i (omega arith) in
    let m : get_or a i 0 < length (set l i 0) = rw length-set (omega arith) in
    let z = gathered_none i i a x (λ j t. f j (omega arith)) (omega arith) in
    let u = set-add (set l i 0) (get_or a i 0) (x i) m r in
    let v = cleared i (gathered i a x) l p z h r q in
    let w = gathered-more i a x r in
    omega arith

pub gate-one : (ns component : List ℕ) (sourced : List Bool) (i : ℕ) → gate_of ns component sourced i ≤ 1
gate-one ns component sourced i = χ-≤ (is_gate (node_flags ns i) && not (get_or sourced (get_or component i 0) false)) 1

-- ---- an array in which places are marked
module _ (a : List ℕ) (test : ℕ → Bool) where
  marked_more : (i k : ℕ) → marked (i + 1) a test k ≡ (marked i a test k || (eqb (get_or a i 0) k && test i))
  marked_more i k = any_next i (λ j. eqb (get_or a j 0) k && test j)

  marked-none : (i : ℕ) → Falling i a → marked i a test i ≡ false
  marked-none i f = any_none i _ (λ j p. let b = f j p in rw (ne_eqb (get_or a j 0) i (λ e. native.Mathlib.Nat.lt_irrefl 0 (omega arith))))

  module _ (i : ℕ) (l : List Bool) (p : i < length l) (f : Falling (i + 1) a) (h : (k : ℕ) → k < i → get_or l k false ≡ marked i a test k) where
    cleared_mark : (k : ℕ) → k < i + 1 → get_or (set l i false) k false ≡ marked i a test k
    cleared_mark k q =
        by (eqb k i)
        (λ y. let s = eqb-true k i y in rw s (get_or-set_same l i false false p ∙ sym (marked-none i (λ j r. f j (omega arith)))))
        (λ n. let d = eqb-false k i n in get_or-set_other l i k false false d ∙ h k (omega arith))

    -- i does not pass the test
    pub mark_not : test i ≡ false → (k : ℕ) → k < i + 1 → get_or (set l i false) k false ≡ marked (i + 1) a test k
    mark_not e k q = cleared_mark k q ∙ sym (marked_more i k ∙ rw e (none (marked i a test k) (eqb (get_or a i 0) k)))
      where
        none : (x y : Bool) → (x || (y && false)) ≡ x
        none true y = refl
        none false true = refl
        none false false = refl

    -- i passes it
    pub mark_here : test i ≡ true → (k : ℕ) → k < i + 1 → get_or (set (set l i false) (get_or a i 0) true) k false ≡ marked (i + 1) a test k
    mark_here e k q =
        let b = f i (omega arith) in
        let m : get_or a i 0 < length (set l i false) = rw length-set (omega arith) in
        by (eqb (get_or a i 0) k)
        (λ y.
        let s = eqb-true (get_or a i 0) k y in
        let g : get_or (set (set l i false) (get_or a i 0) true) k false ≡ true = rw (← s) (get_or-set_same (set l i false) (get_or a i 0) true false m) in
        g ∙ sym (marked_more i k ∙ rw (e, y) (yes (marked i a test k))))
        (λ n.
        let d = eqb-false (get_or a i 0) k n in
        get_or-set_other (set l i false) (get_or a i 0) k true false (λ e'. d (sym e')) ∙ cleared_mark k q ∙ sym (marked_more i k ∙ rw n (no (marked i a test k) (test i))))
      where
        yes : (x : Bool) → (x || true) ≡ true
        yes true = refl
        yes false = refl

        no : (x y : Bool) → (x || (false && y)) ≡ x
        no true y = refl
        no false y = refl
