-- A turn of the pass down over the work arrays: what its calls require, and that what they establish is a turn.
-- Assumes nothing.
use Rattle.std.specs.Prelude.{ℕ, ◌+◌, ◌<◌, ◌≡◌, refl, ◌≢◌, Bool, true, cond, Option, None, List, length, get_or, set, eqb, ltb, is_some, unwrap_or}
use Rattle.std.proofs.Common.{◌∙◌, ap}
use Rattle.std.proofs.Math.Bool.{false}
use native.Mathlib.Omega.{arith}
use Rattle.std.proofs.Math.Seq.{get_or-set_same, get_or-set_other}
use borrow.Author.Tests.{eqb-true, eq-eqb, ne_eqb, ltb-true, ltb-false, lt-ltb}
use Rattle.laws.specs.Sums.{and_left, and_right, not_true_false}
use Rattle.cuts.specs.Passes.{Down}
use Rattle.cuts.specs.Bounds.{sums_bounded}
use Rattle.clusters.specs.Positions.{los, his, position_of}
use Rattle.clusters.specs.Arrays.{down_of}
use Rattle.counting.specs.declared.close.Closing.{Closing}
use Rattle.counting.specs.declared.climb.Climbing.{Climbing}
use Rattle.counting.specs.Optional.{flags, weights, mapped_same, mapped_other}
use Rattle.counting.specs.Close.{hung, HungAbove, NoneCut, branch_sum, flagged_sum, Room, cluster_at, any_ok, any_weight, ungated_ok, ungated_weight, Closes, branches_of, closing_of}
use Rattle.counting.specs.Climb.{Branch, ClimbsAt, wire_of, climbing_of}
use Rattle.clusters.specs.declared.work.Clusters as work
use Rattle.counting.specs.declared.work.Counts.{Counts}
use Rattle.counting.specs.declared.work.Branches.{Branches}
use Rattle.counting.specs.Count.{work_clusters, Ready, Unmarked, found, CountedFrom}
use Rattle.counting.specs.CountFrame.{SameCluster, SameBranch, closed_same, climbed-same}
use Rattle.counting.specs.CountStep.{Turn, counted_step}

-- a function with one value changed
abbrev put : {A : Type 0} → (ℕ → A) → ℕ → A → ℕ → A
put f r x j = cond (eqb j r) x (f j)

put_same : {A : Type 0} (f : ℕ → A) (r : ℕ) (x : A) → put f r x r ≡ x
put_same f r x = rw (eq-eqb r r refl)

put_other : {A : Type 0} (f : ℕ → A) (r j : ℕ) (x : A) → j ≢ r → put f r x j ≡ f j
put_other f r j x ne = rw (ne_eqb j r ne)

-- the arrays have an entry for r
pub record Entries (r : ℕ) {N : ℕ} (k : Counts N) (b : Branches N) : Type 0 where
  pub fewest : r < length k.fewest
  pub any_ok : r < length k.any_ok
  pub any_weight : r < length k.any_weight
  pub near : r < length k.near
  pub count : r < length b.count
  pub lightest : r < length b.lightest
  pub ungated : r < length k.ungated

module _ (ns ws os : List ℕ) {N : ℕ} (c : work.Clusters N) (ready : Ready ns ws os c) where
  -- a cuttable wire has its lowest and highest open position
  pub branch_of : (j : ℕ) → j < c.n → 0 < get_or (los c.cuttable) j 0 → Branch ns ws os j (get_or (los c.cuttable) j 0) (get_or (his c.cuttable) j 0)
  unfolding work_clusters
  branch_of j p l =
      let y = lt-ltb 0 (get_or (los c.cuttable) j 0) l in
      let s = ready.sound in
      let b = s.host_below j p y in
      record {
        checked = ready.checked j (omega arith) p;
        factor = ready.factor j (omega arith) p;
        lo_open = s.lo_free j p y;
        hi_open = s.hi_free j p y;
        in_order = s.lo_least j (get_or (his c.cuttable) j 0) p y (s.hi_free j p y);
      }

  hung-higher : (r j : ℕ) → j < c.n → hung (los c.cuttable) c.host r j ≡ true → r < j
  unfolding work_clusters
  hung-higher r j p h =
      let e = eqb-true (get_or c.host j 0) r (and_right (ltb 0 (get_or (los c.cuttable) j 0)) (eqb (get_or c.host j 0) r) h) in
      let b = ready.sound.host_below j p (and_left (ltb 0 (get_or (los c.cuttable) j 0)) (eqb (get_or c.host j 0) r) h) in
      omega arith

  pub hung-above : (r : ℕ) → r < c.n → HungAbove (los c.cuttable) c.host r
  hung-above r p j l = not_true_false (hung (los c.cuttable) c.host r j) (λ h. let b = hung-higher r j (omega arith) h in omega arith)

  -- marks
  pub unmarked_branches : (cut_any : List Bool) (r : ℕ) → Unmarked c cut_any (r + 1) → NoneCut c.n (los c.cuttable) c.host cut_any r
  unmarked_branches cut_any r u j p h =
      let e = eqb-true (get_or c.host j 0) r (and_right (ltb 0 (get_or (los c.cuttable) j 0)) (eqb (get_or c.host j 0) r) h) in
      u j p (ltb-true 0 (get_or (los c.cuttable) j 0) (and_left (ltb 0 (get_or (los c.cuttable) j 0)) (eqb (get_or c.host j 0) r) h)) (omega arith)

  pub unmarked_less :
      (before cut_any : List Bool) (r : ℕ) →
      Unmarked c before (r + 1) →
      ((j : ℕ) → hung (los c.cuttable) c.host r j ≡ false → get_or cut_any j false ≡ get_or before j false) →
      Unmarked c cut_any r
  unmarked_less before cut_any r u k j p l h =
      let ne : eqb (get_or c.host j 0) r ≡ false = ne_eqb (get_or c.host j 0) r (λ e. omega arith) in
      k j (Rattle.laws.specs.Sums.and_no_right (ltb 0 (get_or (los c.cuttable) j 0)) ne) ∙ u j p l (omega arith)

  -- the numbers of cluster r fit
  pub room_of :
      (limit : ℕ) (k : Counts N) (b : Branches N) (r : ℕ) →
      r < c.n →
      CountedFrom (work_clusters ns ws os c) limit k b (r + 1) →
      Room c.n (los c.cuttable) c.host b.count b.lightest (flags k.ungated) (weights k.ungated) (cluster_at c.fixed c.gates r)
  unfolding work_clusters down_of branch_sum flagged_sum
  room_of limit k b r p w =
      let m = sums_bounded (work_clusters ns ws os c) limit (found k b w.ungated_ok w.ungated_weight) ready.sound (r + 1) w.counted r (omega arith) p in
      record {
        few = omega (arith, ready.few);
        counts = omega (arith, m.count, ready.few);
        weights = omega (arith, m.light, ready.light);
        ungated_weights = omega (arith, m.ungated, ready.light);
      }

  -- the arrays before and after a turn at r
  module _
      (limit r : ℕ) (inside : r < c.n) (k : Counts N) (b : Branches N) (cut_any : List Bool) (x : Closing) (y : Climbing)
      (closes : Closes c.n (los c.cuttable) c.host b.count b.lightest (flags k.ungated) (weights k.ungated) k.cut_any cut_any (cluster_at c.fixed c.gates r) limit x)
      (climbs : ClimbsAt ns ws os r (get_or (los c.cuttable) r 0) (get_or (his c.cuttable) r 0) limit x y)
      (entries : Entries r k b)
      (w : CountedFrom (work_clusters ns ws os c) limit k b (r + 1)) where
    old : Down
    old = found k b w.ungated_ok w.ungated_weight

    abbrev pub counts_after : Counts N
    counts_after =
        record {
          cut_any = cut_any;
          any_ok = set k.any_ok r (any_ok x.options);
          any_weight = set k.any_weight r (any_weight x.options);
          ungated = set k.ungated r y.ungated;
          near = set k.near r y.near;
          fewest = set k.fewest r x.fewest;
        }

    abbrev pub branches_after : Branches N
    branches_after =
        record {
          count = set b.count r y.count;
          lightest = set b.lightest r y.lightest;
        }

    new : Down
    new = found counts_after branches_after (put w.ungated_ok r (ungated_ok x.options)) (put w.ungated_weight r (ungated_weight x.options))

    same_here :
        SameCluster (branches_of c.n (los c.cuttable) c.host (cluster_at c.fixed c.gates r)) (work_clusters ns ws os c) (closing_of cut_any b.count b.lightest (flags k.ungated) (weights k.ungated) x) new r
    unfolding new work_clusters down_of
    same_here =
        record {
          nodes = refl;
          hang = λ j p. refl;
          fixed = refl;
          gates = refl;
          cut_any = λ j p h. refl;
          count = λ j p h. get_or-set_other b.count r j y.count 0 (λ z. let q = hung-higher r j p h in omega arith);
          lightest = λ j p h. get_or-set_other b.lightest r j y.lightest 0 (λ z. let q = hung-higher r j p h in omega arith);
          has_ungated = λ j p h. mapped_other is_some k.ungated r j y.ungated false (λ z. let q = hung-higher r j p h in omega arith);
          ungated = λ j p h. mapped_other (λ (o : Option ℕ). unwrap_or o 0) k.ungated r j y.ungated 0 (λ z. let q = hung-higher r j p h in omega arith);
          fewest = get_or-set_same k.fewest r x.fewest 0 entries.fewest;
          any_ok = get_or-set_same k.any_ok r (any_ok x.options) false entries.any_ok;
          any_weight = get_or-set_same k.any_weight r (any_weight x.options) 0 entries.any_weight;
          ungated_ok = put_same w.ungated_ok r (ungated_ok x.options);
          ungated_weight = put_same w.ungated_weight r (ungated_weight x.options);
        }

    same-wire : SameBranch (wire_of ns ws os (get_or (los c.cuttable) r 0) (get_or (his c.cuttable) r 0)) (work_clusters ns ws os c) (climbing_of x y) new r
    unfolding new work_clusters down_of
    same-wire =
        record {
          free = λ t. refl;
          factor = refl;
          lo = refl;
          hi = refl;
          fewest = get_or-set_same k.fewest r x.fewest 0 entries.fewest;
          any_weight = get_or-set_same k.any_weight r (any_weight x.options) 0 entries.any_weight;
          ungated_ok = put_same w.ungated_ok r (ungated_ok x.options);
          ungated_weight = put_same w.ungated_weight r (ungated_weight x.options);
          count = get_or-set_same b.count r y.count 0 entries.count;
          lightest = get_or-set_same b.lightest r y.lightest 0 entries.lightest;
          has_ungated = mapped_same is_some k.ungated r y.ungated false entries.ungated;
          ungated = mapped_same (λ (o : Option ℕ). unwrap_or o 0) k.ungated r y.ungated 0 entries.ungated;
          near = mapped_same position_of k.near r y.near 0 entries.near;
        }

    turn : Turn (work_clusters ns ws os c) limit old new r
    unfolding old new work_clusters down_of
    turn =
        record {
          marks = closes.others;
          others = λ j ne.
              record {
                fewest = get_or-set_other k.fewest r j x.fewest 0 ne;
                any_ok = get_or-set_other k.any_ok r j (any_ok x.options) false ne;
                any_weight = get_or-set_other k.any_weight r j (any_weight x.options) 0 ne;
                ungated_ok = put_other w.ungated_ok r j (ungated_ok x.options) ne;
                ungated_weight = put_other w.ungated_weight r j (ungated_weight x.options) ne;
                count = get_or-set_other b.count r j y.count 0 ne;
                lightest = get_or-set_other b.lightest r j y.lightest 0 ne;
                has_ungated = mapped_other is_some k.ungated r j y.ungated false ne;
                ungated = mapped_other (λ (o : Option ℕ). unwrap_or o 0) k.ungated r j y.ungated 0 ne;
                near = mapped_other position_of k.near r j y.near 0 ne;
              };
          closed = closed_same same_here limit closes.closed;
          climbed = λ l. climbed-same same-wire limit (climbs.climbed (ltb-true 0 (get_or (los c.cuttable) r 0) l));
          no_near = λ l.
              mapped_same position_of k.near r y.near 0 entries.near
              ∙ ap position_of (climbs.none (let z = ltb-false 0 (get_or (los c.cuttable) r 0) l in omega arith));
        }

    pub counted-turn : CountedFrom (work_clusters ns ws os c) limit counts_after branches_after r
    unfolding old new
    counted-turn =
        record {
          ungated_ok = put w.ungated_ok r (ungated_ok x.options);
          ungated_weight = put w.ungated_weight r (ungated_weight x.options);
          counted = counted_step (work_clusters ns ws os c) limit old new ready.sound r turn w.counted;
        }

  -- the same where r is no branch: nothing is climbed
  module _
      (limit r : ℕ) (inside : r < c.n) (k : Counts N) (b : Branches N) (cut_any : List Bool) (x : Closing)
      (closes : Closes c.n (los c.cuttable) c.host b.count b.lightest (flags k.ungated) (weights k.ungated) k.cut_any cut_any (cluster_at c.fixed c.gates r) limit x)
      (fewest : r < length k.fewest) (any_ok_in : r < length k.any_ok) (any_weight_in : r < length k.any_weight) (near : r < length k.near)
      (w : CountedFrom (work_clusters ns ws os c) limit k b (r + 1)) (root : get_or (los c.cuttable) r 0 ≡ 0) where
    abbrev pub root_after : Counts N
    root_after =
        record {
          cut_any = cut_any;
          any_ok = set k.any_ok r (any_ok x.options);
          any_weight = set k.any_weight r (any_weight x.options);
          ungated = k.ungated;
          near = set k.near r None;
          fewest = set k.fewest r x.fewest;
        }

    at-root : Down
    at-root = found root_after b (put w.ungated_ok r (ungated_ok x.options)) (put w.ungated_weight r (ungated_weight x.options))

    same_root :
        SameCluster (branches_of c.n (los c.cuttable) c.host (cluster_at c.fixed c.gates r)) (work_clusters ns ws os c) (closing_of cut_any b.count b.lightest (flags k.ungated) (weights k.ungated) x) at-root r
    unfolding at-root work_clusters down_of
    same_root =
        record {
          nodes = refl;
          hang = λ j p. refl;
          fixed = refl;
          gates = refl;
          cut_any = λ j p h. refl;
          count = λ j p h. refl;
          lightest = λ j p h. refl;
          has_ungated = λ j p h. refl;
          ungated = λ j p h. refl;
          fewest = get_or-set_same k.fewest r x.fewest 0 fewest;
          any_ok = get_or-set_same k.any_ok r (any_ok x.options) false any_ok_in;
          any_weight = get_or-set_same k.any_weight r (any_weight x.options) 0 any_weight_in;
          ungated_ok = put_same w.ungated_ok r (ungated_ok x.options);
          ungated_weight = put_same w.ungated_weight r (ungated_weight x.options);
        }

    root-turn : Turn (work_clusters ns ws os c) limit (found k b w.ungated_ok w.ungated_weight) at-root r
    unfolding at-root work_clusters down_of
    root-turn =
        record {
          marks = closes.others;
          others = λ j ne.
              record {
                fewest = get_or-set_other k.fewest r j x.fewest 0 ne;
                any_ok = get_or-set_other k.any_ok r j (any_ok x.options) false ne;
                any_weight = get_or-set_other k.any_weight r j (any_weight x.options) 0 ne;
                ungated_ok = put_other w.ungated_ok r j (ungated_ok x.options) ne;
                ungated_weight = put_other w.ungated_weight r j (ungated_weight x.options) ne;
                count = refl;
                lightest = refl;
                has_ungated = refl;
                ungated = refl;
                near = mapped_other position_of k.near r j None 0 ne;
              };
          closed = closed_same same_root limit closes.closed;
          climbed = λ l. let p = ltb-true 0 (get_or (los c.cuttable) r 0) l in absurd (native.Mathlib.Nat.lt_irrefl 0 (omega arith));
          no_near = λ l. mapped_same position_of k.near r None 0 near;
        }

    pub counted_root : CountedFrom (work_clusters ns ws os c) limit root_after b r
    unfolding at-root
    counted_root =
        record {
          ungated_ok = put w.ungated_ok r (ungated_ok x.options);
          ungated_weight = put w.ungated_weight r (ungated_weight x.options);
          counted = counted_step (work_clusters ns ws os c) limit (found k b w.ungated_ok w.ungated_weight) at-root ready.sound r root-turn w.counted;
        }

  -- before the first turn
  pub counted_none : (limit : ℕ) (k : Counts N) (b : Branches N) → CountedFrom (work_clusters ns ws os c) limit k b c.n
  unfolding work_clusters
  counted_none limit k b =
      record {
        ungated_ok = λ r. false;
        ungated_weight = λ r. 0;
        counted =
            record {
              closed = λ r f p. absurd (native.Mathlib.Nat.lt_irrefl 0 (omega arith));
              climbed = λ r f p y. absurd (native.Mathlib.Nat.lt_irrefl 0 (omega arith));
              no_near = λ r f p y. absurd (native.Mathlib.Nat.lt_irrefl 0 (omega arith));
            };
      }
