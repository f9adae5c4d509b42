-- What follows from `Fits`: free points, cluster roots and components, and that the clusters are sound.
-- Assumes nothing.
use Rattle.std.specs.Prelude.{ℕ, ◌≤◌, ◌<◌, ◌≡◌, true, not, ◌&&◌, leb, ltb}
use Rattle.std.proofs.Common.{sym, ◌∙◌, ap, arith, leb-true, ltb-true, le-leb, lt-ltb}
use Rattle.std.proofs.lemmas.Bool.{not-true}
use Rattle.laws.specs.Sum.{sum}
use Rattle.laws.specs.Sums.{by, and_left, and_right, and_intro, and_no_right, up}
use Rattle.net.specs.Stage.{Stage}
use Rattle.net.specs.Formed.{Formed}
use Rattle.pieces.specs.Legal.{Free}
use Rattle.cuts.specs.Cluster.{Clusters, Sound}
use Rattle.cuts.specs.Fits.{Fits, free_at}

pub free_of : (s : Stage) (i t : ℕ) → free_at s i t ≡ true → Free s i t
unfolding free_at
free_of s i t h =
    let a = and_right (s.present i) (leb 1 t && (ltb t (s.len i) && not (s.barred i t))) h in
    let b = and_right (leb 1 t) (ltb t (s.len i) && not (s.barred i t)) a in
    record {
      present = and_left (s.present i) (leb 1 t && (ltb t (s.len i) && not (s.barred i t))) h;
      low = leb-true 1 t (and_left (leb 1 t) (ltb t (s.len i) && not (s.barred i t)) a);
      high = ltb-true t (s.len i) (and_left (ltb t (s.len i)) (not (s.barred i t)) b);
      clear = not-true (s.barred i t) (and_right (ltb t (s.len i)) (not (s.barred i t)) b);
    }

pub of_free : (s : Stage) (i t : ℕ) → Free s i t → free_at s i t ≡ true
unfolding free_at
of_free s i t f =
    and_intro f.present (and_intro (le-leb 1 t f.low) (and_intro (lt-ltb t (s.len i) f.high) (ap not f.clear)))

module _ (s : Stage) (c : Clusters) (root component : ℕ → ℕ) (formed : Formed s) (fits : Fits s c root component) where
  pub to_stage : (i : ℕ) → i < c.nodes → i < s.nodes
  to_stage i p = let e = fits.nodes_is in omega arith

  pub to-clusters : (i : ℕ) → i < s.nodes → i < c.nodes
  to-clusters i p = let e = fits.nodes_is in omega arith

  pub sum-nodes : (f : ℕ → ℕ) → sum c.nodes f ≡ sum s.nodes f
  sum-nodes f = ap (λ (n : ℕ). sum n f) fits.nodes_is

  -- ---- a cuttable wire
  pub lo_point : (i : ℕ) → i < s.nodes → c.cuttable i ≡ true → Free s i (c.lo i)
  lo_point i p k = free_of s i (c.lo i) (fits.lo_free i p k)

  pub hi_point : (i : ℕ) → i < s.nodes → c.cuttable i ≡ true → Free s i (c.hi i)
  hi_point i p k = free_of s i (c.hi i) (fits.hi_free i p k)

  pub lo-≤-hi : (i : ℕ) → i < s.nodes → c.cuttable i ≡ true → c.lo i ≤ c.hi i
  lo-≤-hi i p k = fits.lo_least i (c.hi i) p (fits.hi_free i p k)

  pub cuttable-present : (i : ℕ) → i < s.nodes → c.cuttable i ≡ true → s.present i ≡ true
  cuttable-present i p k = (lo_point i p k).present

  -- ---- the root of a cluster
  pub root-≤ : (i : ℕ) → i < s.nodes → root i ≤ i
  root-≤ =
      up s.nodes
      (λ i. root i ≤ i)
      (λ i p less.
      by (s.present i && not (c.cuttable i))
      (λ a.
      let present = and_left (s.present i) (not (c.cuttable i)) a in
      let e = fits.root_up i p present (not-true (c.cuttable i) (and_right (s.present i) (not (c.cuttable i)) a)) in
      let b = formed.below i present in
      let l = less (s.parent i) b in
      omega arith)
      (λ a. let e = fits.root_own i p a in omega arith))

  pub root-inside : (i : ℕ) → i < s.nodes → root i < s.nodes
  root-inside i p = let a = root-≤ i p in omega arith

  pub root_again : (i : ℕ) → i < s.nodes → root (root i) ≡ root i
  root_again =
      up s.nodes
      (λ i. root (root i) ≡ root i)
      (λ i p same.
      by (s.present i && not (c.cuttable i))
      (λ a.
      let present = and_left (s.present i) (not (c.cuttable i)) a in
      let e = fits.root_up i p present (not-true (c.cuttable i) (and_right (s.present i) (not (c.cuttable i)) a)) in
      ap root e ∙ (same (s.parent i) (formed.below i present) ∙ sym e))
      (λ a. ap root (fits.root_own i p a)))

  pub parent-inside : (i : ℕ) → i < s.nodes → s.present i ≡ true → s.parent i < s.nodes
  parent-inside i p a = let b = formed.below i a in omega arith

  pub cuttable-root : (i : ℕ) → i < s.nodes → c.cuttable i ≡ true → root i ≡ i
  cuttable-root i p k = fits.root_own i p (and_no_right (s.present i) (ap not k))

  pub host-< : (i : ℕ) → i < s.nodes → c.cuttable i ≡ true → c.host i < i
  host-< i p k =
      let present = cuttable-present i p k in
      let b = formed.below i present in
      let e = fits.host_is i p k in
      let l = root-≤ (s.parent i) (parent-inside i p present) in
      omega arith

  pub host-root : (i : ℕ) → i < s.nodes → c.cuttable i ≡ true → root (c.host i) ≡ c.host i
  host-root i p k =
      let e = fits.host_is i p k in
      ap root e ∙ (root_again (s.parent i) (parent-inside i p (cuttable-present i p k)) ∙ sym e)

  -- ---- the clusters are sound
  pub sound_of_fits : Sound c
  sound_of_fits =
      record {
        host_below = λ j p k. host-< j (to_stage j p) k;
        positive = λ j p k. (lo_point j (to_stage j p) k).low;
        lo_free = λ j p k. fits.free_is j (c.lo j) (to_stage j p) ∙ fits.lo_free j (to_stage j p) k;
        hi_free = λ j p k. fits.free_is j (c.hi j) (to_stage j p) ∙ fits.hi_free j (to_stage j p) k;
        lo_least = λ j t p k f. fits.lo_least j t (to_stage j p) (sym (fits.free_is j t (to_stage j p)) ∙ f);
        hi_most = λ j t p k f. fits.hi_most j t (to_stage j p) (sym (fits.free_is j t (to_stage j p)) ∙ f);
      }
