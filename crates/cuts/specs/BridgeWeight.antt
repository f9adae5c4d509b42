-- The weight and the gates of a piece with nodes, from its clusters: the tree sums of a set's parts, flat, are the sums over the wires and nodes of the stage.
-- Assumes nothing.
use Rattle.std.specs.Prelude.{ℕ, ◌+◌, ◌-◌, ◌*◌, ◌≤◌, ◌<◌, ◌≡◌, refl, Bool, ◌&&◌}
use Rattle.std.proofs.Common.{sym, ◌∙◌, eq-eqb, ne_eqb, eqb-true}
use Rattle.std.proofs.Math.Path.{ap}
use Rattle.std.proofs.Math.Bool.{true, false, not}
use native.Mathlib.Omega.{arith}
use native.Mathlib.Nat.{mul-add, mul_comm}
use Rattle.std.proofs.Math.Dec.{eqb}
use Rattle.std.proofs.lemmas.Bool.{eqb-false, not-true}
use Rattle.laws.specs.Sum.{χ, sum}
use Rattle.laws.specs.Sums.{by, eqb_sym, no_both, not_true_false, and_left, and_right, and_intro, and_no_left, and_no_right, χ-yes, χ-no, χ-zero, χ-and, sum_ap, sum-+, sum-pick, sum_regroup, any_some, lowest-none, lowest-passes, highest-passes, up}
use Rattle.laws.specs.Tree.{IsTree, joined_to, tree_flat}
use Rattle.net.specs.Stage.{Stage}
use Rattle.net.specs.Formed.{Formed}
use Rattle.pieces.specs.Piece.{Points}
use Rattle.pieces.specs.Legal.{Free}
use Rattle.pieces.specs.Name.{cut_at, first_jumper, last_jumper, joins, lowest_node}
use Rattle.pieces.specs.Lowest.{joins-present, joins-uncut, joins-yes, cut_apart, lowest_node-up, lowest_node-stop}
use Rattle.pieces.specs.Weight.{wire_adds, node_weight}
use Rattle.cuts.specs.Cluster.{Clusters, Effect, Parts, hangs, span}
use Rattle.cuts.specs.Fits.{Fits, live_gate, fixed_part}
use Rattle.cuts.specs.BridgeFits.{of_free, to-clusters, sum-nodes, hi_point, lo-≤-hi, cuttable-present, root-≤, root-inside, root_again, parent-inside, cuttable-root, host-<}

-- what `Good` says of a set's parts before any limit
pub record PartsOf (c : Clusters) (e : Effect) (p : Parts) : Type 0 where
  pub adds_cut : (j : ℕ) → j < c.nodes → c.cuttable j ≡ true → e.cut j ≡ true → p.adds j ≡ c.factor j * (c.hi j - e.last j)
  pub adds_whole : (j : ℕ) → j < c.nodes → c.cuttable j ≡ true → e.cut j ≡ false → p.adds j ≡ p.weight j + span c j
  pub weight_is : (r : ℕ) → r < c.nodes → p.weight r ≡ c.fixed r + sum c.nodes (λ j. χ (hangs c r j) (p.adds j))
  pub gates_is : (r : ℕ) → r < c.nodes → p.gates r ≡ c.gates r + sum c.nodes (λ j. χ (hangs c r j && not (e.cut j)) (p.gates j))

-- the effect of a set of points
pub record EffectOf (s : Stage) (c : Clusters) (J : Points) (e : Effect) : Type 0 where
  pub cut_is : (j : ℕ) → j < s.nodes → c.cuttable j ≡ true → e.cut j ≡ cut_at s J j
  pub first_is : (j : ℕ) → j < s.nodes → c.cuttable j ≡ true → cut_at s J j ≡ true → e.first j ≡ first_jumper s J j
  pub last_is : (j : ℕ) → j < s.nodes → c.cuttable j ≡ true → cut_at s J j ≡ true → e.last j ≡ last_jumper s J j

-- cluster r is in the piece whose lowest node is h
abbrev pub in_piece : Stage → Points → (ℕ → ℕ) → ℕ → ℕ → Bool
in_piece s J root h r = eqb (root r) r && eqb (lowest_node s J r) h

-- a branch that is not cut
abbrev pub uncut_branch : Clusters → Effect → ℕ → Bool
uncut_branch c e j = c.cuttable j && not (e.cut j)

-- what a branch's wire adds to its host beside the part below it
abbrev pub wire_share : Clusters → Effect → ℕ → ℕ
wire_share c e j = χ (e.cut j) (c.factor j * (c.hi j - e.last j)) + χ (not (e.cut j)) (span c j)

-- the weight of cluster r and of the wires of its branches, without the parts below them
abbrev pub cluster_share : Clusters → Effect → ℕ → ℕ
cluster_share c e r = c.fixed r + sum c.nodes (λ j. χ (hangs c r j) (wire_share c e j))

-- what wire i gives to the clusters of the piece of h
abbrev wire_gives : Stage → Clusters → Points → (ℕ → ℕ) → Effect → ℕ → ℕ → ℕ
wire_gives s c J root e h i =
    χ (s.present i && not (c.cuttable i)) (χ (in_piece s J root h (root i)) (s.len i * s.factor i))
    + (χ (c.cuttable i) (χ (in_piece s J root h i) (c.lo i * s.factor i))
    + χ (c.cuttable i) (χ (in_piece s J root h (c.host i)) ((s.len i - c.hi i) * s.factor i)))
    + χ (c.cuttable i) (χ (in_piece s J root h (c.host i)) (wire_share c e i))

-- the stretch of a branch's wire between its lowest cuttable point and its first jumper
abbrev pub own_stretch : Stage → Clusters → Points → ℕ → ℕ
own_stretch s c J i = χ (c.cuttable i && cut_at s J i) (c.factor i * (first_jumper s J i - c.lo i))

-- a longer stretch weighs as its parts
stretch : (a b f : ℕ) → a ≤ b → b * f ≡ a * f + f * (b - a)
stretch a b f p =
    let e : a + (b - a) ≡ b = omega arith in
    let m = mul-add f a (b - a) in
    let k = mul_comm f a in
    let l = mul_comm f (a + (b - a)) in
    let w : b * f ≡ (a + (b - a)) * f = ap (λ (x : ℕ). x * f) (sym e) in
    omega arith

above : (a b l f : ℕ) → a ≤ b → b ≤ l → (l - a) * f ≡ (l - b) * f + f * (b - a)
above a b l f p q =
    let m = stretch (l - b) (l - a) f (omega arith) in
    let e : (l - a) - (l - b) ≡ b - a = omega arith in
    let w : f * ((l - a) - (l - b)) ≡ f * (b - a) = ap (λ (x : ℕ). f * x) e in
    omega arith

sum_four :
    (n : ℕ) (a b d g : ℕ → ℕ) → sum n (λ i. a i + (b i + d i) + g i) ≡ sum n a + (sum n b + sum n d) + sum n g
sum_four n a b d g =
    let x = sum-+ n (λ i. a i + (b i + d i)) g in
    let y = sum-+ n a (λ i. b i + d i) in
    let z = sum-+ n b d in
    omega arith

χ_four : (t : Bool) (a b d g : ℕ) → χ t (a + (b + d) + g) ≡ χ t a + (χ t b + χ t d) + χ t g
χ_four true a b d g = refl
χ_four false a b d g = refl

-- four sums by place, regrouped
regroup_four :
    (n : ℕ) (q a b : ℕ → Bool) (k m x y z w : ℕ → ℕ) →
    ((i : ℕ) → i < n → a i ≡ true → k i < n) →
    ((i : ℕ) → i < n → b i ≡ true → m i < n) →
    sum n
    (λ r.
    χ (q r)
    (sum n (λ i. χ (a i && eqb (k i) r) (x i))
    + (sum n (λ i. χ (b i && eqb i r) (y i)) + sum n (λ i. χ (b i && eqb (m i) r) (z i)))
    + sum n (λ i. χ (b i && eqb (m i) r) (w i))))
    ≡ sum n (λ i. χ (a i) (χ (q (k i)) (x i)) + (χ (b i) (χ (q i) (y i)) + χ (b i) (χ (q (m i)) (z i))) + χ (b i) (χ (q (m i)) (w i)))
regroup_four n q a b k m x y z w ka mb =
    sum_ap n
    (λ r p.
    χ_four (q r)
    (sum n (λ i. χ (a i && eqb (k i) r) (x i)))
    (sum n (λ i. χ (b i && eqb i r) (y i)))
    (sum n (λ i. χ (b i && eqb (m i) r) (z i)))
    (sum n (λ i. χ (b i && eqb (m i) r) (w i))))
    ∙ (let f =
    sum_four n
    (λ r. χ (q r) (sum n (λ i. χ (a i && eqb (k i) r) (x i))))
    (λ r. χ (q r) (sum n (λ i. χ (b i && eqb i r) (y i))))
    (λ r. χ (q r) (sum n (λ i. χ (b i && eqb (m i) r) (z i))))
    (λ r. χ (q r) (sum n (λ i. χ (b i && eqb (m i) r) (w i)))) in
    let g =
    sum_four n
    (λ i. χ (a i) (χ (q (k i)) (x i)))
    (λ i. χ (b i) (χ (q i) (y i)))
    (λ i. χ (b i) (χ (q (m i)) (z i)))
    (λ i. χ (b i) (χ (q (m i)) (w i))) in
    let r₁ = sum_regroup n q a k x ka in
    let r₂ = sum_regroup n q b (λ i. i) y (λ i p t. p) in
    let r₃ = sum_regroup n q b m z mb in
    let r₄ = sum_regroup n q b m w mb in
    omega arith)

-- what a branch adds to its host, by its cut
pub adds-split :
    (k t q : Bool) (a w x d : ℕ) →
    (k ≡ true → t ≡ true → a ≡ x) →
    (k ≡ true → t ≡ false → a ≡ w + d) →
    χ (k && q) a ≡ χ (k && q) (χ t x + χ (not t) d) + χ ((k && not t) && q) w
adds-split true true true a w x d f g = let y = f refl refl in omega arith
adds-split true true false a w x d f g = refl
adds-split true false true a w x d f g = let y = g refl refl in omega arith
adds-split true false false a w x d f g = refl
adds-split false t q a w x d f g = refl

pub χ-exchange : (k q t : Bool) (x : ℕ) → χ ((k && q) && t) x ≡ χ ((k && t) && q) x
χ-exchange true true true x = refl
χ-exchange true true false x = refl
χ-exchange true false true x = refl
χ-exchange true false false x = refl
χ-exchange false q t x = refl

χ_assoc : (k q t : Bool) (x : ℕ) → χ (k && (q && t)) x ≡ χ ((k && q) && t) x
χ_assoc true q t x = refl
χ_assoc false q t x = refl

χ_commute : (k t : Bool) (x : ℕ) → χ (k && t) x ≡ χ (t && k) x
χ_commute true true x = refl
χ_commute true false x = refl
χ_commute false true x = refl
χ_commute false false x = refl

-- a wire's weight in the piece of its lower end (u) and of its upper end (v), cut and not cut
cut-wire :
    (u v : Bool) (lo hi first last len f : ℕ) →
    lo ≤ first →
    last ≤ hi →
    hi ≤ len →
    χ u (first * f) + χ v ((len - last) * f)
    ≡ χ u (lo * f) + χ v ((len - hi) * f) + χ v (f * (hi - last)) + χ u (f * (first - lo))
cut-wire true true lo hi first last len f p q r =
    let a = stretch lo first f p in let b = above last hi len f q r in omega arith
cut-wire true false lo hi first last len f p q r = let a = stretch lo first f p in omega arith
cut-wire false true lo hi first last len f p q r = let b = above last hi len f q r in omega arith
cut-wire false false lo hi first last len f p q r = refl

whole-wire :
    (u : Bool) (lo hi len f : ℕ) →
    lo ≤ hi →
    hi ≤ len →
    χ u (len * f) ≡ χ u (lo * f) + χ u ((len - hi) * f) + χ u (f * (hi - lo))
whole-wire true lo hi len f p q =
    let a = stretch hi len f q in
    let b = stretch lo hi f p in
    let d = mul_comm f (len - hi) in
    omega arith
whole-wire false lo hi len f p q = refl

module _ (s : Stage) (c : Clusters) (root component : ℕ → ℕ) (formed : Formed s) (fits : Fits s c root component) (J : Points) (free : (i t : ℕ) → J i t ≡ true → Free s i t) where
  -- ---- jumpers stand on cuttable wires
  pub cut-cuttable : (i : ℕ) → i < s.nodes → cut_at s J i ≡ true → c.cuttable i ≡ true
  unfolding cut_at
  cut-cuttable i p h =
      let r = any_some (s.len i) (λ t. J i t) h in fits.cuttable_if i r.0 p (of_free s i r.0 (free i r.0 r.2))

  pub fixed-uncut : (i : ℕ) → i < s.nodes → c.cuttable i ≡ false → cut_at s J i ≡ false
  fixed-uncut i p k = not_true_false (cut_at s J i) (λ h. no_both (cut-cuttable i p h) k)

  -- ---- a cluster lies in one piece
  pub low-root : (i : ℕ) → i < s.nodes → lowest_node s J i ≡ lowest_node s J (root i)
  low-root =
      up s.nodes
      (λ i. lowest_node s J i ≡ lowest_node s J (root i))
      (λ i p same.
      by (s.present i && not (c.cuttable i))
      (λ a.
      let present = and_left (s.present i) (not (c.cuttable i)) a in
      let k = not-true (c.cuttable i) (and_right (s.present i) (not (c.cuttable i)) a) in
      lowest_node-up s J formed i (joins-yes s J i present (fixed-uncut i p k))
      ∙ (same (s.parent i) (formed.below i present)
      ∙ ap (λ (x : ℕ). lowest_node s J x) (sym (fits.root_up i p present k))))
      (λ a. ap (λ (x : ℕ). lowest_node s J x) (sym (fits.root_own i p a))))

  -- a wire that does not join its nodes is a branch's or absent
  pub apart-root : (h : ℕ) → h < s.nodes → joins s J h ≡ false → root h ≡ h
  apart-root h p a =
      by (s.present h && not (c.cuttable h))
      (λ b.
      let present = and_left (s.present h) (not (c.cuttable h)) b in
      let k = not-true (c.cuttable h) (and_right (s.present h) (not (c.cuttable h)) b) in
      absurd (no_both (joins-yes s J h present (fixed-uncut h p k)) a))
      (λ b. fits.root_own h p b)

  -- a root's wire that cannot be cut is absent
  pub root-absent : (r : ℕ) → r < s.nodes → root r ≡ r → c.cuttable r ≡ false → s.present r ≡ false
  root-absent r p e k =
      not_true_false (s.present r)
      (λ a.
      let b = formed.below r a in
      let u = fits.root_up r p a k in
      let l = root-≤ s c root component formed fits (s.parent r) (parent-inside s c root component formed fits r p a) in
      native.Mathlib.Nat.lt_irrefl 0 (omega arith))

  -- ---- which clusters are in the piece of h
  in_root : (h i : ℕ) → i < s.nodes → in_piece s J root h (root i) ≡ eqb (lowest_node s J i) h
  in_root h i p =
      rw (eq-eqb (root (root i)) (root i) (root_again s c root component formed fits i p))
      (ap (λ (x : ℕ). eqb x h) (sym (low-root i p)))

  in_cuttable : (h i : ℕ) → i < s.nodes → c.cuttable i ≡ true → in_piece s J root h i ≡ eqb (lowest_node s J i) h
  in_cuttable h i p k =
      ap (λ (x : ℕ). in_piece s J root h x) (sym (cuttable-root s c root component formed fits i p k)) ∙ in_root h i p

  in_host : (h i : ℕ) → i < s.nodes → c.cuttable i ≡ true → in_piece s J root h (c.host i) ≡ eqb (lowest_node s J (s.parent i)) h
  in_host h i p k =
      ap (λ (x : ℕ). in_piece s J root h x) (fits.host_is i p k)
      ∙ in_root h (s.parent i) (parent-inside s c root component formed fits i p (cuttable-present s c root component formed fits i p k))

  module _ (e : Effect) (p : Parts) (effect : EffectOf s c J e) (parts : PartsOf c e p) where
    uncut-joins : (j : ℕ) → j < s.nodes → uncut_branch c e j ≡ true → joins s J j ≡ true
    uncut-joins j lt u =
        let k = and_left (c.cuttable j) (not (e.cut j)) u in
        joins-yes s J j
        (cuttable-present s c root component formed fits j lt k)
        (sym (effect.cut_is j lt k) ∙ not-true (e.cut j) (and_right (c.cuttable j) (not (e.cut j)) u))

    lower : (j : ℕ) → j < s.nodes → uncut_branch c e j ≡ true → c.host j < j
    lower j lt u = host-< s c root component formed fits j lt (and_left (c.cuttable j) (not (e.cut j)) u)

    along : (h j : ℕ) → j < s.nodes → uncut_branch c e j ≡ true → in_piece s J root h j ≡ in_piece s J root h (c.host j)
    along h j lt u =
        let k = and_left (c.cuttable j) (not (e.cut j)) u in
        in_cuttable h j lt k
        ∙ (ap (λ (x : ℕ). eqb x h) (lowest_node-up s J formed j (uncut-joins j lt u))
        ∙ sym (in_host h j lt k))

    apart-uncut : (h : ℕ) → h < s.nodes → joins s J h ≡ false → uncut_branch c e h ≡ false
    apart-uncut h lt a = not_true_false (uncut_branch c e h) (λ u. no_both (uncut-joins h lt u) a)

    apart_in : (h j : ℕ) → h < s.nodes → joins s J h ≡ false → j < s.nodes → uncut_branch c e j ≡ false → in_piece s J root h j ≡ eqb h j
    apart_in h j hp a lt u =
        by (eqb (root j) j)
        (λ y.
        let r = eqb-true (root j) j y in
        let off : joins s J j ≡ false =
        not_true_false (joins s J j)
        (λ b.
        by (c.cuttable j)
        (λ k. no_both (and_intro k (ap not (effect.cut_is j lt k ∙ joins-uncut s J j b))) u)
        (λ k. no_both (joins-present s J j b) (root-absent j lt r k))) in
        rw y (ap (λ (x : ℕ). eqb x h) (lowest_node-stop s J formed j off) ∙ eqb_sym j h))
        (λ z. rw z (sym (ne_eqb h j (λ w. eqb-false (root j) j z (rw w at (apart-root h hp a))))))

    weight-tree : IsTree s.nodes (joined_to (uncut_branch c e) c.host) (cluster_share c e) p.weight
    weight-tree r lt =
        let a = parts.weight_is r (to-clusters s c root component formed fits r lt) in
        let b =
        sum_ap c.nodes
        {f = λ j. χ (hangs c r j) (p.adds j)}
        {g = λ j. χ (hangs c r j) (wire_share c e j) + χ (joined_to (uncut_branch c e) c.host r j) (p.weight j)}
        (λ j q.
        adds-split (c.cuttable j) (e.cut j) (eqb (c.host j) r) (p.adds j) (p.weight j)
        (c.factor j * (c.hi j - e.last j)) (span c j)
        (parts.adds_cut j q)
        (parts.adds_whole j q)) in
        let d =
        sum-+ c.nodes
        (λ j. χ (hangs c r j) (wire_share c e j))
        (λ j. χ (joined_to (uncut_branch c e) c.host r j) (p.weight j)) in
        let n = sum-nodes s c root component formed fits (λ j. χ (joined_to (uncut_branch c e) c.host r j) (p.weight j)) in
        omega arith

    gates-tree : IsTree s.nodes (joined_to (uncut_branch c e) c.host) c.gates p.gates
    gates-tree r lt =
        parts.gates_is r (to-clusters s c root component formed fits r lt)
        ∙ ap
        (λ (x : ℕ). c.gates r + x)
        (sum_ap c.nodes (λ j q. χ-exchange (c.cuttable j) (eqb (c.host j) r) (not (e.cut j)) (p.gates j))
        ∙ sum-nodes s c root component formed fits (λ j. χ (joined_to (uncut_branch c e) c.host r j) (p.gates j)))

    weight_flat : (h : ℕ) → h < s.nodes → joins s J h ≡ false → p.weight h ≡ sum s.nodes (λ r. χ (in_piece s J root h r) (cluster_share c e r))
    weight_flat h hp a =
        tree_flat s.nodes (uncut_branch c e) c.host (cluster_share c e) p.weight lower weight-tree h hp
        (apart-uncut h hp a)
        (in_piece s J root h)
        (along h)
        (λ j lt u. apart_in h j hp a lt u)

    -- the gates of the part at h are the live gates of the piece of h
    pub gates_of_piece : (h : ℕ) → h < s.nodes → joins s J h ≡ false → p.gates h ≡ sum s.nodes (λ i. χ (live_gate s component i) (χ (eqb (lowest_node s J i) h) 1))
    gates_of_piece h hp a =
        tree_flat s.nodes (uncut_branch c e) c.host c.gates p.gates lower gates-tree h hp
        (apart-uncut h hp a)
        (in_piece s J root h)
        (along h)
        (λ j lt u. apart_in h j hp a lt u)
        ∙ (sum_ap s.nodes (λ r lt. ap (λ (x : ℕ). χ (in_piece s J root h r) x) (fits.gates_is r lt ∙ sum_ap s.nodes (λ i q. χ_commute (eqb (root i) r) (live_gate s component i) 1)))
        ∙ (sum_regroup s.nodes (in_piece s J root h) (live_gate s component) root (λ i. 1) (λ i q live. root-inside s c root component formed fits i q)
        ∙ sum_ap s.nodes (λ i q. ap (λ t. χ (live_gate s component i) (χ t 1)) (in_root h i q))))

    -- a cluster's share, as four sums over the wires
    share_is :
        (r : ℕ) → r < s.nodes → cluster_share c e r
        ≡ sum s.nodes (λ i. χ ((s.present i && not (c.cuttable i)) && eqb (root i) r) (s.len i * s.factor i))
        + (sum s.nodes (λ i. χ (c.cuttable i && eqb i r) (c.lo i * s.factor i))
        + sum s.nodes (λ i. χ (c.cuttable i && eqb (c.host i) r) ((s.len i - c.hi i) * s.factor i)))
        + sum s.nodes (λ i. χ (c.cuttable i && eqb (c.host i) r) (wire_share c e i))
    unfolding fixed_part
    share_is r lt =
        let a = fits.fixed_is r lt in
        let b =
        sum_ap s.nodes
        {f = λ i. fixed_part s c root r i}
        {g = λ i. χ ((s.present i && not (c.cuttable i)) && eqb (root i) r) (s.len i * s.factor i) + (χ (c.cuttable i && eqb i r) (c.lo i * s.factor i) + χ (c.cuttable i && eqb (c.host i) r) ((s.len i - c.hi i) * s.factor i))}
        (λ i q.
        ap
        (λ (x : ℕ). x + (χ (c.cuttable i && eqb i r) (c.lo i * s.factor i) + χ (c.cuttable i && eqb (c.host i) r) ((s.len i - c.hi i) * s.factor i)))
        (χ_assoc (s.present i) (not (c.cuttable i)) (eqb (root i) r) (s.len i * s.factor i))) in
        let d =
        sum-+ s.nodes
        (λ i. χ ((s.present i && not (c.cuttable i)) && eqb (root i) r) (s.len i * s.factor i))
        (λ i. χ (c.cuttable i && eqb i r) (c.lo i * s.factor i) + χ (c.cuttable i && eqb (c.host i) r) ((s.len i - c.hi i) * s.factor i)) in
        let g =
        sum-+ s.nodes
        (λ i. χ (c.cuttable i && eqb i r) (c.lo i * s.factor i))
        (λ i. χ (c.cuttable i && eqb (c.host i) r) ((s.len i - c.hi i) * s.factor i)) in
        let n = sum-nodes s c root component formed fits (λ i. χ (hangs c r i) (wire_share c e i)) in
        omega arith

    host-inside : (i : ℕ) → i < s.nodes → c.cuttable i ≡ true → c.host i < s.nodes
    host-inside i q k = let a = host-< s c root component formed fits i q k in omega arith

    shares_regroup : (h : ℕ) → sum s.nodes (λ r. χ (in_piece s J root h r) (cluster_share c e r)) ≡ sum s.nodes (λ i. wire_gives s c J root e h i)
    shares_regroup h =
        sum_ap s.nodes (λ r lt. ap (λ (x : ℕ). χ (in_piece s J root h r) x) (share_is r lt))
        ∙ regroup_four s.nodes (in_piece s J root h)
        (λ i. s.present i && not (c.cuttable i))
        (λ i. c.cuttable i)
        root
        (λ i. c.host i)
        (λ i. s.len i * s.factor i)
        (λ i. c.lo i * s.factor i)
        (λ i. (s.len i - c.hi i) * s.factor i)
        (λ i. wire_share c e i)
        (λ i q t. root-inside s c root component formed fits i q)
        host-inside

    jumper-range :
        (i : ℕ) → i < s.nodes → c.cuttable i ≡ true → cut_at s J i ≡ true → (c.lo i ≤ first_jumper s J i) × (last_jumper s J i ≤ c.hi i)
    unfolding cut_at first_jumper last_jumper
    jumper-range i q k cut =
        let f = lowest-passes (s.len i) (λ t. J i t) cut in
        let l = highest-passes (s.len i) (λ t. J i t) cut in
        (fits.lo_least i (first_jumper s J i) q (of_free s i (first_jumper s J i) (free i (first_jumper s J i) f.1)), fits.hi_most i (last_jumper s J i) q (of_free s i (last_jumper s J i) (free i (last_jumper s J i) l.1)))

    uncut-first : (i : ℕ) → cut_at s J i ≡ false → first_jumper s J i ≡ s.len i
    unfolding cut_at first_jumper
    uncut-first i u = lowest-none (s.len i) (λ t. J i t) u

    hi-≤-len : (i : ℕ) → i < s.nodes → c.cuttable i ≡ true → c.hi i ≤ s.len i
    hi-≤-len i q k = let a = (hi_point s c root component formed fits i q k).high in omega arith

    wire-cut :
        (h i : ℕ) → i < s.nodes → c.cuttable i ≡ true → cut_at s J i ≡ true → χ (s.present i) (wire_adds s J h i) ≡ wire_gives s c J root e h i + χ (eqb i h) (own_stretch s c J i)
    unfolding wire_adds
    wire-cut h i q k cut =
        let present = cuttable-present s c root component formed fits i q k in
        let u = eqb (lowest_node s J i) h in
        let v = eqb (lowest_node s J (s.parent i)) h in
        let f = s.factor i in
        let ec : e.cut i ≡ true = effect.cut_is i q k ∙ cut in
        let el = effect.last_is i q k cut in
        let a₁ = χ-no (χ (in_piece s J root h (root i)) (s.len i * f)) (and_no_right (s.present i) (ap not k)) in
        let a₂ : χ (c.cuttable i) (χ (in_piece s J root h i) (c.lo i * f)) ≡ χ u (c.lo i * f) =
        χ-yes (χ (in_piece s J root h i) (c.lo i * f)) k ∙ ap (λ t. χ t (c.lo i * f)) (in_cuttable h i q k) in
        let a₃ : χ (c.cuttable i) (χ (in_piece s J root h (c.host i)) ((s.len i - c.hi i) * f)) ≡ χ v ((s.len i - c.hi i) * f) =
        χ-yes (χ (in_piece s J root h (c.host i)) ((s.len i - c.hi i) * f)) k ∙ ap (λ t. χ t ((s.len i - c.hi i) * f)) (in_host h i q k) in
        let share : wire_share c e i ≡ f * (c.hi i - last_jumper s J i) = rw (ec, el, fits.factor_is i q) (omega arith) in
        let a₄ : χ (c.cuttable i) (χ (in_piece s J root h (c.host i)) (wire_share c e i)) ≡ χ v (f * (c.hi i - last_jumper s J i)) =
        χ-yes (χ (in_piece s J root h (c.host i)) (wire_share c e i)) k
        ∙ (ap (λ t. χ t (wire_share c e i)) (in_host h i q k) ∙ ap (λ (x : ℕ). χ v x) share) in
        let same : eqb i h ≡ u = ap (λ (x : ℕ). eqb x h) (sym (lowest_node-stop s J formed i (cut_apart s J i cut))) in
        let own : own_stretch s c J i ≡ f * (first_jumper s J i - c.lo i) =
        χ-yes (c.factor i * (first_jumper s J i - c.lo i)) (and_intro k cut)
        ∙ ap (λ (x : ℕ). x * (first_jumper s J i - c.lo i)) (fits.factor_is i q) in
        let a₅ : χ (eqb i h) (own_stretch s c J i) ≡ χ u (f * (first_jumper s J i - c.lo i)) =
        ap (λ t. χ t (own_stretch s c J i)) same ∙ ap (λ (x : ℕ). χ u x) own in
        let l₁ = χ-yes (wire_adds s J h i) present in
        let l₂ : χ (cut_at s J i && v) ((s.len i - last_jumper s J i) * f) ≡ χ v ((s.len i - last_jumper s J i) * f) = rw cut in
        let range = jumper-range i q k cut in
        let w =
        cut-wire u v (c.lo i) (c.hi i) (first_jumper s J i) (last_jumper s J i) (s.len i) f range.0 range.1 (hi-≤-len i q k) in
        omega arith

    wire-whole :
        (h i : ℕ) → i < s.nodes → c.cuttable i ≡ true → cut_at s J i ≡ false → χ (s.present i) (wire_adds s J h i) ≡ wire_gives s c J root e h i + χ (eqb i h) (own_stretch s c J i)
    unfolding wire_adds
    wire-whole h i q k uncut =
        let present = cuttable-present s c root component formed fits i q k in
        let u = eqb (lowest_node s J i) h in
        let v = eqb (lowest_node s J (s.parent i)) h in
        let f = s.factor i in
        let ec : e.cut i ≡ false = effect.cut_is i q k ∙ uncut in
        let vu : v ≡ u = ap (λ (x : ℕ). eqb x h) (sym (lowest_node-up s J formed i (joins-yes s J i present uncut))) in
        let a₁ = χ-no (χ (in_piece s J root h (root i)) (s.len i * f)) (and_no_right (s.present i) (ap not k)) in
        let a₂ : χ (c.cuttable i) (χ (in_piece s J root h i) (c.lo i * f)) ≡ χ u (c.lo i * f) =
        χ-yes (χ (in_piece s J root h i) (c.lo i * f)) k ∙ ap (λ t. χ t (c.lo i * f)) (in_cuttable h i q k) in
        let a₃ : χ (c.cuttable i) (χ (in_piece s J root h (c.host i)) ((s.len i - c.hi i) * f)) ≡ χ u ((s.len i - c.hi i) * f) =
        χ-yes (χ (in_piece s J root h (c.host i)) ((s.len i - c.hi i) * f)) k
        ∙ ap (λ t. χ t ((s.len i - c.hi i) * f)) (in_host h i q k ∙ vu) in
        let share : wire_share c e i ≡ f * (c.hi i - c.lo i) = rw (ec, fits.factor_is i q) (omega arith) in
        let a₄ : χ (c.cuttable i) (χ (in_piece s J root h (c.host i)) (wire_share c e i)) ≡ χ u (f * (c.hi i - c.lo i)) =
        χ-yes (χ (in_piece s J root h (c.host i)) (wire_share c e i)) k
        ∙ (ap (λ t. χ t (wire_share c e i)) (in_host h i q k ∙ vu) ∙ ap (λ (x : ℕ). χ u x) share) in
        let own : own_stretch s c J i ≡ 0 = χ-no (c.factor i * (first_jumper s J i - c.lo i)) (and_no_right (c.cuttable i) uncut) in
        let a₅ : χ (eqb i h) (own_stretch s c J i) ≡ 0 = ap (λ (x : ℕ). χ (eqb i h) x) own ∙ χ-zero (eqb i h) in
        let l₁ = χ-yes (wire_adds s J h i) present in
        let l₂ : χ (cut_at s J i && v) ((s.len i - last_jumper s J i) * f) ≡ 0 = rw uncut in
        let l₃ : χ u (first_jumper s J i * f) ≡ χ u (s.len i * f) = ap (λ (x : ℕ). χ u (x * f)) (uncut-first i uncut) in
        let w =
        whole-wire u (c.lo i) (c.hi i) (s.len i) f (lo-≤-hi s c root component formed fits i q k) (hi-≤-len i q k) in
        omega arith

    wire-fixed :
        (h i : ℕ) → i < s.nodes → c.cuttable i ≡ false → χ (s.present i) (wire_adds s J h i) ≡ wire_gives s c J root e h i + χ (eqb i h) (own_stretch s c J i)
    unfolding wire_adds
    wire-fixed h i q k =
        let uncut = fixed-uncut i q k in
        let u = eqb (lowest_node s J i) h in
        let v = eqb (lowest_node s J (s.parent i)) h in
        let f = s.factor i in
        let a₂ = χ-no (χ (in_piece s J root h i) (c.lo i * f)) k in
        let a₃ = χ-no (χ (in_piece s J root h (c.host i)) ((s.len i - c.hi i) * f)) k in
        let a₄ = χ-no (χ (in_piece s J root h (c.host i)) (wire_share c e i)) k in
        let own : own_stretch s c J i ≡ 0 = χ-no (c.factor i * (first_jumper s J i - c.lo i)) (and_no_left (cut_at s J i) k) in
        let a₅ : χ (eqb i h) (own_stretch s c J i) ≡ 0 = ap (λ (x : ℕ). χ (eqb i h) x) own ∙ χ-zero (eqb i h) in
        let l₂ : χ (cut_at s J i && v) ((s.len i - last_jumper s J i) * f) ≡ 0 = rw uncut in
        let l₃ : χ u (first_jumper s J i * f) ≡ χ u (s.len i * f) = ap (λ (x : ℕ). χ u (x * f)) (uncut-first i uncut) in
        let l₄ : wire_adds s J h i ≡ χ u (s.len i * f) = omega arith in
        let a₁ :
        χ (s.present i && not (c.cuttable i)) (χ (in_piece s J root h (root i)) (s.len i * f))
        ≡ χ (s.present i) (χ u (s.len i * f)) =
        χ-and (s.present i) (not (c.cuttable i)) (χ (in_piece s J root h (root i)) (s.len i * f))
        ∙ ap
        (λ (x : ℕ). χ (s.present i) x)
        (χ-yes (χ (in_piece s J root h (root i)) (s.len i * f)) (ap not k)
        ∙ ap (λ t. χ t (s.len i * f)) (in_root h i q)) in
        let l₁ : χ (s.present i) (wire_adds s J h i) ≡ χ (s.present i) (χ u (s.len i * f)) =
        ap (λ (x : ℕ). χ (s.present i) x) l₄ in
        omega arith

    wire : (h i : ℕ) → i < s.nodes → χ (s.present i) (wire_adds s J h i) ≡ wire_gives s c J root e h i + χ (eqb i h) (own_stretch s c J i)
    wire h i q =
        by (c.cuttable i)
        (λ k. by (cut_at s J i) (λ cut. wire-cut h i q k cut) (λ uncut. wire-whole h i q k uncut))
        (λ k. wire-fixed h i q k)

    -- the weight of the piece of h is that of the part at h and of the stretch of h's own wire
    pub weight_of_piece : (h : ℕ) → h < s.nodes → joins s J h ≡ false → node_weight s J h ≡ p.weight h + own_stretch s c J h
    unfolding node_weight
    weight_of_piece h hp a =
        let b = sum_ap s.nodes {f = λ i. χ (s.present i) (wire_adds s J h i)} {g = λ i. wire_gives s c J root e h i + χ (eqb i h) (own_stretch s c J i)} (wire h) in
        let d = sum-+ s.nodes (λ i. wire_gives s c J root e h i) (λ i. χ (eqb i h) (own_stretch s c J i)) in
        let g = sum-pick s.nodes h (own_stretch s c J) hp in
        let f = weight_flat h hp a in
        let r = shares_regroup h in
        omega arith
