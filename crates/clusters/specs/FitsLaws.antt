-- What the first passes leave fits the net at the stage, and all its weight is small.
-- Assumes nothing.
use Rattle.std.specs.Prelude.{ℕ, ◌+◌, ◌-◌, ◌*◌, ◌≤◌, ◌<◌, ◌≡◌, refl, Bool, true, false, ◌&&◌, List, ltb, eqb}
use Rattle.std.proofs.Math.Path.{sym}
use Rattle.std.proofs.Common.{◌∙◌, ap, mul-le-mul}
use Rattle.std.proofs.Math.Bool.{not}
use native.Mathlib.Omega.{arith}
use Rattle.std.proofs.Math.ListN.{get_or}
use borrow.Author.Tests.{ltb-true, ltb-false, lt-ltb}
use Rattle.laws.specs.Sum.{χ}
use Rattle.laws.specs.Sums.{by, and_intro, and_no_right, χ-and, sum_ap, sum-+, sum_bound}
use Rattle.net.specs.Layout.{newest, node_bytes}
use Rattle.net.specs.Limits.{length_bound, wire_weight_bound, weight_bound}
use Rattle.net.specs.Net.{node_count, node_flags, is_gate, wire_parent, wire_factor, wire_length}
use Rattle.net.specs.NoClearance.{stage_of}
use Rattle.net.specs.Formed.{Formed}
use Rattle.net.specs.Accepted.{NetRight, present-inside, present-positive}
use Rattle.cuts.specs.Fits.{Fits, fixed_part, live_gate, sourced}
use Rattle.cuts.specs.Bounds.{all_weight, all_weight-≤}
use Rattle.cuts.specs.BridgeFits.{free_of}
use Rattle.clusters.specs.Arrays.{clusters_of}
use Rattle.clusters.specs.declared.work.Clusters.{Clusters}
use Rattle.clusters.specs.Positions.{los, his}
use Rattle.clusters.specs.FirstPasses.{Wired, Ends, Filled, Clustered, is_present, cuttable, Falling, host_of, source_in, gate_of, lower_weight, upper_weight}
use Rattle.clusters.specs.Turns.{components_fall}
use Rattle.clusters.specs.EndsLaws.{checked, present_is}
use Rattle.points.specs.Geometry.{length-small}
use Rattle.laws.specs.Numbers.{Bytes}
use Rattle.clusters.specs.Weights.{factor-≤}

-- a net that meets none of 4 to 11 and 20
pub wired_of : {ns ws os : List ℕ} → NetRight newest ns ws os → Wired ns ws
wired_of n =
    record {
      some = omega (arith, n.sized.some_node_lem);
      few = n.sized.few_nodes;
      stored = λ i p. omega (arith, n.sized.wires_length);
      below = λ i p q. (n.wire i p q).below;
      straight = λ i p q. (n.wire i p q).straight;
    }

pub formed_of : {ns ws : List ℕ} → Wired ns ws → (os : List ℕ) (k : ℕ) → Formed (stage_of newest ns ws os k)
unfolding stage_of
formed_of {ns} {ws} w os k =
    record {
      inside = λ i p. present-inside newest ns ws os k i p;
      below = λ i p. w.below i (present-positive newest ns ws os k i p) (present-inside newest ns ws os k i p);
    }

-- ---- hosts
pub hosts-falling : {ns ws : List ℕ} → Wired ns ws → (lo root host : List ℕ) →
    ((i : ℕ) → i < node_count ns → 0 < get_or lo i 0 → 0 < i) →
    Falling (node_count ns) root →
    ((i : ℕ) → i < node_count ns → get_or host i 0 ≡ host_of ws lo root i) →
    Falling (node_count ns) host
hosts-falling {ns} {ws} w lo root host wire falls h i p =
    by (cuttable lo i)
    (λ y.
    let e : get_or host i 0 ≡ get_or root (wire_parent ws i) 0 = rw y at (h i p) in
    let b = w.below i (wire i p (ltb-true 0 (get_or lo i 0) y)) p in
    let f = falls (wire_parent ws i) (omega arith) in
    omega arith)
    (λ n. let e : get_or host i 0 ≡ 0 = rw n at (h i p) in omega arith)

-- ---- what a wire gives to a cluster, as two parts
cut_parts : (m e h : Bool) (a l u : ℕ) → χ (m && (false && e)) a + (χ (true && e) l + χ (true && h) u) ≡ χ e l + χ h u
cut_parts true e h a l u = omega arith
cut_parts false e h a l u = omega arith

whole_parts : (m e f h : Bool) (a l u : ℕ) → χ (m && (true && e)) a + (χ (false && f) l + χ (false && h) u) ≡ χ e (χ m a) + χ h 0
whole_parts true true f true a l u = omega arith
whole_parts true true f false a l u = omega arith
whole_parts true false f true a l u = omega arith
whole_parts true false f false a l u = omega arith
whole_parts false true f true a l u = omega arith
whole_parts false true f false a l u = omega arith
whole_parts false false f true a l u = omega arith
whole_parts false false f false a l u = omega arith

module _ (ns ws os : List ℕ) (k : ℕ) (w : Wired ns ws) {N : ℕ} (c : Clusters N) (s : Filled ns ws os k c) where
  -- a wire that can be cut is present, and its node leads its cluster
  cuttable-is_present : (i : ℕ) → i < node_count ns → cuttable (los c.cuttable) i ≡ true → is_present ws k i ≡ true
  unfolding stage_of
  cuttable-is_present i p y =
      sym (present_is ns ws os k i p) ∙ (free_of (stage_of newest ns ws os k) i (get_or (los c.cuttable) i 0) ((s.ends.low i p).free (ltb-true 0 (get_or (los c.cuttable) i 0) y))).present

  cuttable_leads : (i : ℕ) → i < node_count ns → cuttable (los c.cuttable) i ≡ true → get_or c.root i 0 ≡ i
  cuttable_leads i p y = rw (and_no_right (is_present ws k i) {b = not (cuttable (los c.cuttable) i)} (ap not y)) at (s.roots i p)

  fixed-parts : (r i : ℕ) → i < node_count ns →
      fixed_part (stage_of newest ns ws os k) (clusters_of (stage_of newest ns ws os k) (los c.cuttable) (his c.cuttable) c.host c.fixed c.gates) (λ j. get_or c.root j 0) r i
      ≡ χ (eqb (get_or c.root i 0) r) (lower_weight ns ws k (los c.cuttable) i) + χ (eqb (get_or c.host i 0) r) (upper_weight ns ws (los c.cuttable) (his c.cuttable) i)
  unfolding fixed_part clusters_of stage_of
  fixed-parts r i p =
      by (cuttable (los c.cuttable) i)
      (λ y.
      rw (y, cuttable-is_present i p y, cuttable_leads i p y)
      (cut_parts ((stage_of newest ns ws os k).present i) (eqb i r) (eqb (get_or c.host i 0) r) (wire_length ns ws i * wire_factor ws i) (get_or (los c.cuttable) i 0 * wire_factor ws i) ((wire_length ns ws i - get_or (his c.cuttable) i 0) * wire_factor ws i)))
      (λ n.
      rw (n, present_is ns ws os k i p)
      (whole_parts (is_present ws k i) (eqb (get_or c.root i 0) r) (eqb i r) (eqb (get_or c.host i 0) r) (wire_length ns ws i * wire_factor ws i) (get_or (los c.cuttable) i 0 * wire_factor ws i) ((wire_length ns ws i - get_or (his c.cuttable) i 0) * wire_factor ws i)))

  component_inside : (i : ℕ) → i < node_count ns → get_or c.component i 0 < node_count ns
  component_inside i p =
      omega (arith, components_fall w k c.component s.components i p)

  live : (r i : ℕ) → i < node_count ns →
      χ (eqb (get_or c.root i 0) r && live_gate (stage_of newest ns ws os k) (λ j. get_or c.component j 0) i) 1 ≡ χ (eqb (get_or c.root i 0) r) (gate_of ns c.component c.sourced i)
  unfolding live_gate sourced stage_of
  live r i p =
      rw (s.sources (get_or c.component i 0) (component_inside i p))
      (χ-and (eqb (get_or c.root i 0) r) (is_gate (node_flags ns i) && not (source_in ns c.component (node_count ns) (get_or c.component i 0))) 1)

  pub fits_of : Fits (stage_of newest ns ws os k) (clusters_of (stage_of newest ns ws os k) (los c.cuttable) (his c.cuttable) c.host c.fixed c.gates) (λ i. get_or c.root i 0) (λ i. get_or c.component i 0)
  unfolding clusters_of stage_of
  fits_of =
      record {
        nodes_is = refl;
        factor_is = λ i p. refl;
        free_is = λ i t p. refl;
        lo_free = λ i p y. (s.ends.low i p).free (ltb-true 0 (get_or (los c.cuttable) i 0) y);
        hi_free = λ i p y.
            let l = ltb-true 0 (get_or (los c.cuttable) i 0) y in
            let m = (s.ends.high i p).most (get_or (los c.cuttable) i 0) ((s.ends.low i p).free l) in
            (s.ends.high i p).free (omega arith);
        lo_least = λ i t p f. (s.ends.low i p).least t f;
        hi_most = λ i t p f. (s.ends.high i p).most t f;
        cuttable_if = λ i t p f. lt-ltb 0 (get_or (los c.cuttable) i 0) ((s.ends.low i p).some t f);
        root_up = λ i p present n.
            rw (and_intro {a = is_present ws k i} {b = not (cuttable (los c.cuttable) i)} (sym (present_is ns ws os k i p) ∙ present) (ap not n)) at (s.roots i p);
        root_own = λ i p h.
            rw (ap (λ (t : Bool). t && not (cuttable (los c.cuttable) i)) (sym (present_is ns ws os k i p)) ∙ h) at (s.roots i p);
        host_is = λ i p y. rw y at (s.hosts i p);
        component_up = λ i p present. rw (sym (present_is ns ws os k i p) ∙ present) at (s.components i p);
        component_own = λ i p absent. rw (sym (present_is ns ws os k i p) ∙ absent) at (s.components i p);
        fixed_is = λ r p.
            s.weighed r p
            ∙ sym (sum_ap (node_count ns) (λ i q. fixed-parts r i q)
            ∙ sum-+ (node_count ns) (λ i. χ (eqb (get_or c.root i 0) r) (lower_weight ns ws k (los c.cuttable) i)) (λ i. χ (eqb (get_or c.host i 0) r) (upper_weight ns ws (los c.cuttable) (his c.cuttable) i)));
        gates_is = λ r p. s.gated r p ∙ sym (sum_ap (node_count ns) (λ i q. live r i q));
      }

-- ---- all the weight there is
weight-small : (ns ws : List ℕ) → Bytes ns → Bytes ws → (i : ℕ) → wire_length ns ws i * wire_factor ws i ≤ 2 * wire_weight_bound
unfolding wire_length
weight-small ns ws nodes wires i =
    let p = wire_parent ws i in
    let x = nodes (node_bytes * i) in
    let x1 = nodes (node_bytes * i + 1) in
    let y = nodes (node_bytes * i + 2) in
    let y1 = nodes (node_bytes * i + 2 + 1) in
    let px = nodes (node_bytes * p) in
    let px1 = nodes (node_bytes * p + 1) in
    let py = nodes (node_bytes * p + 2) in
    let py1 = nodes (node_bytes * p + 2 + 1) in
    let l : wire_length ns ws i ≤ 2 * length_bound = omega arith in
    mul-le-mul l (factor-≤ ws wires i)

module _ (ns ws os : List ℕ) (k : ℕ) (w : Wired ns ws) (nodes : Bytes ns) (wires : Bytes ws) {N : ℕ} (c : Clusters N) (s : Filled ns ws os k c) where
  pub light_of : all_weight (clusters_of (stage_of newest ns ws os k) (los c.cuttable) (his c.cuttable) c.host c.fixed c.gates) < weight_bound
  unfolding stage_of
  light_of =
      let a =
      all_weight-≤ (stage_of newest ns ws os k) (clusters_of (stage_of newest ns ws os k) (los c.cuttable) (his c.cuttable) c.host c.fixed c.gates) (λ i. get_or c.root i 0) (λ i. get_or c.component i 0)
      (formed_of w os k)
      (fits_of ns ws os k w c s) in
      let b = sum_bound (node_count ns) (2 * wire_weight_bound) {f = λ i. wire_length ns ws i * wire_factor ws i} (λ i p. weight-small ns ws nodes wires i) in
      let n = w.few in
      omega arith

-- the positions found are small
pub short_of : (ns ws os : List ℕ) (k : ℕ) → Wired ns ws → Bytes ns → (lo hi : List ℕ) → Ends (stage_of newest ns ws os k) lo hi → (r : ℕ) → r < node_count ns → get_or hi r 0 < length_bound
unfolding stage_of
short_of ns ws os k w nodes lo hi e r p =
    by (ltb 0 (get_or hi r 0))
    (λ y.
    let f = free_of (stage_of newest ns ws os k) r (get_or hi r 0) ((e.high r p).free (ltb-true 0 (get_or hi r 0) y)) in
    let small = length-small ns ws r nodes (checked w r (present-positive newest ns ws os k r f.present) p) in
    omega (arith, f.high, small))
    (λ n. let z = ltb-false 0 (get_or hi r 0) n in omega arith)

-- what all of the first passes promise
pub clustered_of : {ns ws os : List ℕ} {k : ℕ} → Wired ns ws → Bytes ns → Bytes ws → {N : ℕ} {c : Clusters N} → Filled ns ws os k c → Clustered ns ws os k c
clustered_of {ns} {ws} {os} {k} w nodes wires {N} {c} s =
    record {
      n_is = s.n_is;
      fits = fits_of ns ws os k w c s;
      components_fall = components_fall w k c.component s.components;
      sources = s.sources;
      light = light_of ns ws os k w nodes wires c s;
      short = short_of ns ws os k w nodes (los c.cuttable) (his c.cuttable) s.ends;
    }
