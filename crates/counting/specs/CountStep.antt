-- One turn of the pass down: from the clusters above r to those from r on.
-- Assumes nothing.
use Rattle.std.specs.Prelude.{ℕ, ◌+◌, ◌≤◌, ◌<◌, ◌≡◌, refl, ◌≢◌, Bool, true, false, ◌&&◌, List, eqb}
use Rattle.std.proofs.Common.{◌∙◌, arith, eqb-true, ne_eqb}
use Rattle.std.proofs.Math.Bool.{not}
use Rattle.std.proofs.Math.ListN.{get_or}
use Rattle.std.proofs.lemmas.Bool.{eqb-false}
use Rattle.laws.specs.Sum.{χ}
use Rattle.laws.specs.Sums.{by, no_both, and_left, and_right, χ-≤, χ-and, χ_mono, sum-≤, sum_bound}
use Rattle.cuts.specs.Cluster.{Clusters, Sound, hangs}
use Rattle.cuts.specs.Passes.{Down, Closed, only-any, both, only-ungated, Climbed, Counted, any_cuts, ungated_cuts, any_left}
use Rattle.net.specs.Limits.{weight_bound}
use Rattle.counting.specs.declared.close.Closing.{Closing}
use Rattle.counting.specs.Close.{Cluster, hung, branch_sum, flagged_sum, Room, branches_of, closing_of}
use Rattle.counting.specs.Climb.{Closable}
use Rattle.counting.specs.CountFrame.{SameCluster, SameBranch, closed_same, climbed-same}

-- what a turn leaves alone at j
pub record SameAt (d d' : Down) (j : ℕ) : Type 0 where
  pub fewest : d'.fewest j ≡ d.fewest j
  pub any_ok : d'.any_ok j ≡ d.any_ok j
  pub any_weight : d'.any_weight j ≡ d.any_weight j
  pub ungated_ok : d'.ungated_ok j ≡ d.ungated_ok j
  pub ungated_weight : d'.ungated_weight j ≡ d.ungated_weight j
  pub count : d'.count j ≡ d.count j
  pub lightest : d'.lightest j ≡ d.lightest j
  pub has_ungated : d'.has_ungated j ≡ d.has_ungated j
  pub ungated : d'.ungated j ≡ d.ungated j
  pub near : d'.near j ≡ d.near j

-- a turn closes cluster r and climbs its wire
pub record Turn (c : Clusters) (limit : ℕ) (d d' : Down) (r : ℕ) : Type 0 where
  pub marks : (j : ℕ) → hangs c r j ≡ false → d'.cut_any j ≡ d.cut_any j
  pub others : (j : ℕ) → j ≢ r → SameAt d d' j
  pub closed : Closed c limit d' r
  pub climbed : c.cuttable r ≡ true → Climbed c limit d' r
  pub no_near : c.cuttable r ≡ false → d'.near r ≡ 0

module _ (c : Clusters) (limit : ℕ) (d d' : Down) (s : Sound c) (r : ℕ) (t : Turn c limit d d' r) where
  -- a branch of a higher cluster does not hang on r, and has a higher number than r
  elsewhere : (q j : ℕ) → r < q → hangs c q j ≡ true → hangs c r j ≡ false
  elsewhere q j l h =
      let e = eqb-true (c.host j) q (and_right (c.cuttable j) (eqb (c.host j) q) h) in
      by (c.cuttable j)
      (λ y. rw y (ne_eqb (c.host j) r (λ z. omega arith)))
      (λ n. rw n)

  higher : (q j : ℕ) → r < q → j < c.nodes → hangs c q j ≡ true → j ≢ r
  higher q j l p h z =
      let e = eqb-true (c.host j) q (and_right (c.cuttable j) (eqb (c.host j) q) h) in
      let b = s.host_below j p (and_left (c.cuttable j) (eqb (c.host j) q) h) in
      omega arith

  same_cluster : (q : ℕ) → r < q → SameCluster c c d d' q
  same_cluster q l =
      let here = t.others q (λ z. omega arith) in
      record {
        nodes = refl;
        hang = λ j p. refl;
        fixed = refl;
        gates = refl;
        cut_any = λ j p h. t.marks j (elsewhere q j l h);
        count = λ j p h. (t.others j (higher q j l p h)).count;
        lightest = λ j p h. (t.others j (higher q j l p h)).lightest;
        has_ungated = λ j p h. (t.others j (higher q j l p h)).has_ungated;
        ungated = λ j p h. (t.others j (higher q j l p h)).ungated;
        fewest = here.fewest;
        any_ok = here.any_ok;
        any_weight = here.any_weight;
        ungated_ok = here.ungated_ok;
        ungated_weight = here.ungated_weight;
      }

  same_branch : (q : ℕ) → r < q → SameBranch c c d d' q
  same_branch q l =
      let here = t.others q (λ z. omega arith) in
      record {
        free = λ x. refl;
        factor = refl;
        lo = refl;
        hi = refl;
        fewest = here.fewest;
        any_weight = here.any_weight;
        ungated_ok = here.ungated_ok;
        ungated_weight = here.ungated_weight;
        count = here.count;
        lightest = here.lightest;
        has_ungated = here.has_ungated;
        ungated = here.ungated;
        near = here.near;
      }

  pub counted_step : Counted c limit d (r + 1) → Counted c limit d' r
  counted_step k =
      record {
        closed = λ q f p.
            by (eqb q r)
            (λ e. let z : q ≡ r = eqb-true q r e in rw z t.closed)
            (λ e.
            let ne = eqb-false q r e in
            let l : r < q = omega arith in
            closed_same (same_cluster q l) limit (k.closed q (omega arith) p));
        climbed = λ q f p y.
            by (eqb q r)
            (λ e. let z : q ≡ r = eqb-true q r e in rw z (t.climbed (rw z at y)))
            (λ e.
            let ne = eqb-false q r e in
            let l : r < q = omega arith in
            climbed-same (same_branch q l) limit (k.climbed q (omega arith) p y));
        no_near = λ q f p y.
            by (eqb q r)
            (λ e. let z : q ≡ r = eqb-true q r e in rw z (t.no_near (rw z at y)))
            (λ e.
            let ne = eqb-false q r e in
            (t.others q (λ z. omega arith)).near ∙ k.no_near q (omega arith) p y);
      }

-- a closed cluster's numbers are small, and without the ungated option its weight is within the limit
module _
    (n : ℕ) (lo host count lightest : List ℕ) (has_ungated : List Bool) (ungated : List ℕ) (cut_any : List Bool) (k : Cluster) (limit : ℕ) (x : Closing)
    (room : Room n lo host count lightest has_ungated ungated k) where
  few-any : any_cuts (branches_of n lo host k) (closing_of cut_any count lightest has_ungated ungated x) k.lowest ≤ n
  few-any =
      let a = sum_bound n 1 {f = λ j. χ (hung lo host k.lowest j && get_or cut_any j false) 1} (λ j p. χ-≤ (hung lo host k.lowest j && get_or cut_any j false) 1) in omega arith

  few-ungated : ungated_cuts (branches_of n lo host k) (closing_of cut_any count lightest has_ungated ungated x) k.lowest ≤ n
  few-ungated =
      let a =
      sum_bound n 1 {f = λ j. χ (hung lo host k.lowest j && not (get_or has_ungated j false)) 1} (λ j p. χ-≤ (hung lo host k.lowest j && not (get_or has_ungated j false)) 1) in
      omega arith

  any-light : any_left (branches_of n lo host k) (closing_of cut_any count lightest has_ungated ungated x) k.lowest < weight_bound
  unfolding branch_sum
  any-light =
      let a =
      sum-≤ n
      {f = λ j. χ (hung lo host k.lowest j && not (get_or cut_any j false)) (get_or lightest j 0)}
      {g = λ j. χ (hung lo host k.lowest j) (get_or lightest j 0)}
      (λ j p.
      let b = χ-and (hung lo host k.lowest j) (not (get_or cut_any j false)) (get_or lightest j 0) in
      let c = χ_mono (hung lo host k.lowest j) {x = χ (not (get_or cut_any j false)) (get_or lightest j 0)} {y = get_or lightest j 0} (λ h. χ-≤ (not (get_or cut_any j false)) (get_or lightest j 0)) in
      omega arith) in
      omega (arith, room.weights)

  pub closable : Closed (branches_of n lo host k) limit (closing_of cut_any count lightest has_ungated ungated x) k.lowest → Closable limit x
  unfolding branch_sum flagged_sum
  closable (only-any θ l g f a u w) =
      record {
        few = omega (arith, few-any, room.counts, room.few);
        light = omega (arith, any-light);
        ungated_light = λ y. absurd (no_both y u);
        within = λ y. omega (arith, l.fits);
      }
  closable (both θ l g e f a u w v) =
      record {
        few = omega (arith, few-any, room.counts, room.few);
        light = omega (arith, any-light);
        ungated_light = λ y. omega (arith, room.ungated_weights);
        within = λ y. absurd (no_both u y);
      }
  closable (only-ungated g y f a u w v) =
      record {
        few = omega (arith, few-ungated, room.counts, room.few);
        light = omega (arith, room.ungated_weights);
        ungated_light = λ y. omega (arith, room.ungated_weights);
        within = λ y. absurd (no_both u y);
      }
