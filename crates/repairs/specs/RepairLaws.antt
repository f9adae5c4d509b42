-- From the passes of repair to its promise: what each pass requires follows from those before it, and all together give a smallest legal set or show that there is none.
-- Assumes nothing.
use Rattle.std.specs.Prelude.{ℕ, zero, suc, ◌+◌, ◌*◌, ◌≤◌, ◌<◌, ◌≡◌, Bool, true, false, ◌&&◌, ◌⊎◌, List, ◌++◌, length, drop, set, replicate, leb, ltb}
use Rattle.std.proofs.Math.Path.{refl, sym}
use Rattle.std.proofs.Common.{◌∙◌, ap, subst, inl, inr, length-set, arith, lt-ltb}
use Rattle.std.proofs.Math.Bool.{not}
use Rattle.std.proofs.Math.ListN.{get_or}
use Rattle.std.proofs.lemmas.List.{length-replicate}
use Rattle.laws.specs.Sum.{χ}
use Rattle.laws.specs.Sums.{and_left, sum_bound}
use Rattle.laws.specs.Lists.{over}
use Rattle.laws.specs.Numbers.{Bytes}
use Rattle.net.specs.declared.Answer.{Answer}
use Rattle.net.specs.declared.Net.{Net}
use Rattle.net.specs.Layout.{newest, entry_bytes}
use Rattle.net.specs.Limits.{weight_bound}
use Rattle.net.specs.Refusal.{none, refusal, answer, net_refusal}
use Rattle.net.specs.Net.{node_count, wire_length, barred}
use Rattle.net.specs.Stage.{Stage, stage_under}
use Rattle.net.specs.NoClearance.{stage_of}
use Rattle.net.specs.Formed.{Formed}
use Rattle.net.specs.Accepted.{NetRight, net-right, formed}
use Rattle.points.specs.Geometry.{checked_of}
use Rattle.pieces.specs.Legal.{Smallest, NoneLegal}
use Rattle.pieces.specs.Barring.{SameBarred, none_legal_same, smallest-same}
use Rattle.obstacles.specs.Prepared.{prepared}
use Rattle.obstacles.specs.PreparedLaws.{prepared_agrees, prepared-none}
use Rattle.cuts.specs.Cluster as cuts
use Rattle.cuts.specs.Cluster.{Sound}
use Rattle.cuts.specs.Passes.{Down, Counted, Run, total_fewest}
use Rattle.cuts.specs.Fits.{free_at}
use Rattle.cuts.specs.Bounds.{all_weight, cluster_bounded}
use Rattle.cuts.specs.OtherFree.{sound-free, counted-free}
use Rattle.cuts.specs.BridgeFits.{sound_of_fits}
use Rattle.cuts.specs.BridgeRun.{hopeless-none}
use Rattle.clusters.specs.Arrays.{clusters_of, down_of, up_of}
use Rattle.clusters.specs.declared.work.Clusters.{Clusters}
use Rattle.clusters.specs.Positions.{los, his, positions}
use Rattle.clusters.specs.FirstPasses.{Clustered}
use Rattle.clusters.specs.Hopeless.{any_hopeless}
use Rattle.clusters.specs.HopelessLaws.{some-hopeless}
use Rattle.counting.specs.Climb.{open_at}
use Rattle.counting.specs.declared.work.Counts.{Counts}
use Rattle.counting.specs.Optional.{flags, weights}
use Rattle.counting.specs.Count.{work_of, work_clusters, Ready, found, CountedAll, root_sum}
use Rattle.choice.specs.Choose.{cut_here, any_here, Chooses, Choosable}
use Rattle.choice.specs.ChooseLaws.{chooses_more, chosen_of}
use Rattle.repairs.specs.Promise.{Judged, no_legal_set, too_short, done}
use Rattle.listing.specs.Listing.{list_of, count_of}
use Rattle.listing.specs.ListingWriting.{length-list_of}
use Rattle.listing.specs.ListingPoints.{Listable}
use Rattle.listing.specs.ListingSmallest.{listable, smallest_list, count_is_total}

-- an accepted net of the newest version
pub newest_right : (net : Net) → net.version ≡ newest → NetRight newest net.nodes.now net.wires.now net.obstacles.now
newest_right net e = net-right newest net.nodes.now net.wires.now net.obstacles.now (rw e at net.accepted)

-- what both passes leave for the writer of the list: its entries are those of a smallest legal set
pub record Planned (s : Stage) (limit : ℕ) (hi near : List ℕ) (cut_high : List Bool) (points : ℕ) : Type 0 where
  pub smallest : Smallest s limit (list_of s.nodes hi near cut_high) (count_of s.nodes near cut_high)
  pub listing : Listable s.nodes hi near cut_high
  pub points_is : points ≡ count_of s.nodes near cut_high

-- a wire has at most two jumpers
pub count-few : (n : ℕ) (near : List ℕ) (cut_high : List Bool) → count_of n near cut_high ≤ n * 2
count-few n near cut_high = sum_bound n 2 (λ r p. two (ltb 0 (get_or near r 0)) (get_or cut_high r false))
  where
    two : (a b : Bool) → χ a 1 + χ b 1 ≤ 2
    two true true = omega arith
    two true false = omega arith
    two false true = omega arith
    two false false = omega arith

-- options and cuts that the pass up may choose for the clusters below i, in arrays of an entry for each node
record Options (ws : List ℕ) {N : ℕ} (c : Clusters N) (d : Counts N) (limit i : ℕ) : Type 0 where
  any_mode : List Bool
  cut_high : List Bool
  modes : c.n ≤ length any_mode
  cuts : c.n ≤ length cut_high
  chosen : (r : ℕ) → r < i → Chooses ws c d limit any_mode cut_high r

-- there are always some
options :
    (ws : List ℕ) {N : ℕ} (c : Clusters N) (d : Counts N) (limit : ℕ) →
    ((r : ℕ) → r < c.n → 0 < get_or (los c.cuttable) r 0 → get_or c.host r 0 < r) →
    (i : ℕ) → i ≤ c.n → Options ws c d limit i
options ws c d limit below zero p =
    record {
      any_mode = replicate c.n false;
      cut_high = replicate c.n false;
      modes = omega (arith, length-replicate c.n false);
      cuts = omega (arith, length-replicate c.n false);
      chosen = λ r q. absurd (native.Mathlib.Nat.lt_irrefl 0 (omega arith));
    }
options ws c d limit below (suc i) p =
    let o = options ws c d limit below i (omega arith) in
    let h = cut_here c d o.any_mode i in
    let m = any_here ws c d limit o.any_mode h i in
    record {
      any_mode = set o.any_mode i m;
      cut_high = set o.cut_high i h;
      modes = omega (arith, o.modes, length-set o.any_mode i m);
      cuts = omega (arith, o.cuts, length-set o.cut_high i h);
      chosen = λ r q.
          chooses_more ws c d limit o.any_mode o.cut_high i h m (omega (arith, o.modes)) (omega (arith, o.cuts))
          (λ j l. below j (omega arith)) refl refl o.chosen r (omega arith);
    }

module _ (ns ws os : List ℕ) (k : ℕ) (right : NetRight newest ns ws os) {N : ℕ} (c : Clusters N) (first : Clustered ns ws os k c) where
  is_formed : Formed (stage_of newest ns ws os k)
  is_formed = formed newest ns ws os right k

  -- the clusters of the net
  abbrev net : cuts.Clusters
  net = clusters_of (stage_of newest ns ws os k) (los c.cuttable) (his c.cuttable) c.host c.fixed c.gates

  -- a cuttable wire is present, so its free points are its open ones
  same-free : (j t : ℕ) → j < node_count ns → ltb 0 (get_or (los c.cuttable) j 0) ≡ true → free_at (stage_of newest ns ws os k) j t ≡ open_at ns ws os j t
  unfolding free_at open_at clusters_of stage_of
  same-free j t p cut =
      rw (and_left ((stage_of newest ns ws os k).present j) (leb 1 (get_or (los c.cuttable) j 0) && (ltb (get_or (los c.cuttable) j 0) (wire_length ns ws j) && not (barred newest 0 ns ws os j (get_or (los c.cuttable) j 0)))) (first.fits.lo_free j p cut))

  is_sound : Sound net
  is_sound = sound_of_fits (stage_of newest ns ws os k) net (λ i. get_or c.root i 0) (λ i. get_or c.component i 0) is_formed first.fits

  sound_work : Sound (work_clusters ns ws os c)
  unfolding work_clusters clusters_of stage_of
  sound_work = subst (λ m. Sound (work_of ns ws os c m)) (sym first.n_is) (sound-free (work_of ns ws os c (node_count ns)) (λ i t. free_at (stage_of newest ns ws os k) i t) same-free is_sound)

  -- what the pass down requires
  pub ready_of : Ready ns ws os c
  unfolding all_weight work_clusters clusters_of stage_of
  ready_of =
      record {
        sound = sound_work;
        few = omega (arith, first.n_is, right.sized.few_nodes);
        light = subst (λ m. all_weight (work_of ns ws os c m) < weight_bound) (sym first.n_is) first.light;
        checked = λ j p q. checked_of right j p (omega (arith, first.n_is));
        factor = λ j p q. (right.wire j p (omega (arith, first.n_is))).factor_low;
      }

  -- a hopeless cluster: 15
  pub none_of : (limit : ℕ) → any_hopeless c.n c.fixed c.gates limit ≡ true → NoneLegal (stage_of newest ns ws os k) limit
  unfolding clusters_of stage_of
  none_of limit some =
      let h = some-hopeless c.n c.fixed c.gates limit some in
      hopeless-none (stage_of newest ns ws os k) net (λ i. get_or c.root i 0) (λ i. get_or c.component i 0) is_formed first.fits limit h.at (omega (arith, first.n_is, h.inside)) h.gated h.heavy

  module _ (limit : ℕ) (d : Counts N) (points : ℕ) (worked : CountedAll ns ws os c limit d points) where
    abbrev down : Down
    down = found d worked.branches worked.counted.ungated_ok worked.counted.ungated_weight

    counted : Counted net limit down 0
    unfolding work_clusters clusters_of stage_of
    counted =
        counted-free (work_of ns ws os c (node_count ns)) (λ i t. free_at (stage_of newest ns ws os k) i t) same-free (subst (λ m. Counted (work_of ns ws os c m) limit down 0) first.n_is worked.counted.counted)

    weight-light : (r : ℕ) → r < node_count ns → get_or d.any_weight r 0 < weight_bound
    unfolding clusters_of stage_of down_of
    weight-light r p =
        let b = cluster_bounded net limit down is_sound 0 counted r (omega arith) p in
        omega (arith, first.light, b)

    -- what the pass up requires
    pub choosable_of : Choosable ws c d
    unfolding clusters_of stage_of
    choosable_of =
        record {
          stored = λ r p. omega (arith, first.n_is, right.sized.wires_length);
          below = λ r p q. is_sound.host_below r (omega (arith, first.n_is)) (lt-ltb 0 (get_or (los c.cuttable) r 0) q);
          ordered = λ r p q.
              let inside : r < node_count ns = omega (arith, first.n_is) in
              is_sound.lo_least r (get_or (his c.cuttable) r 0) inside (lt-ltb 0 (get_or (los c.cuttable) r 0) q) (is_sound.hi_free r inside (lt-ltb 0 (get_or (los c.cuttable) r 0) q));
          short = λ r p. first.short r (omega (arith, first.n_is));
          light = λ r p. weight-light r (omega (arith, first.n_is));
        }

    -- both passes: the list of the chosen points is that of a smallest legal set, and has as many entries as were counted
    module _ (any_mode cut_high : List Bool) (chose : (r : ℕ) → r < c.n → Chooses ws c d limit any_mode cut_high r) where
      run : Run net limit down (up_of any_mode cut_high)
      unfolding clusters_of stage_of
      run =
          record {
            counted = counted;
            chosen = λ r p.
                chosen_of ws c d limit (stage_of newest ns ws os k) worked.counted.ungated_ok worked.counted.ungated_weight worked.branches any_mode cut_high r refl (chose r (omega (arith, first.n_is)));
          }

      pub planned : Planned (stage_of newest ns ws os k) limit (his c.cuttable) (positions d.near) cut_high points
      unfolding clusters_of stage_of down_of total_fewest root_sum
      planned =
          let b = worked.branches in
          let up = worked.counted in
          record {
            smallest = smallest_list (stage_of newest ns ws os k) (λ i. get_or c.root i 0) (λ i. get_or c.component i 0) limit (los c.cuttable) (his c.cuttable) c.host c.fixed c.gates d.cut_any d.fewest d.any_ok d.any_weight up.ungated_ok up.ungated_weight b.count b.lightest (flags d.ungated) (weights d.ungated) (positions d.near) any_mode cut_high is_formed first.fits run first.short;
            listing = listable (stage_of newest ns ws os k) (λ i. get_or c.root i 0) (λ i. get_or c.component i 0) limit (los c.cuttable) (his c.cuttable) c.host c.fixed c.gates d.cut_any d.fewest d.any_ok d.any_weight up.ungated_ok up.ungated_weight b.count b.lightest (flags d.ungated) (weights d.ungated) (positions d.near) any_mode cut_high is_formed first.fits run first.short;
            points_is =
                rw first.n_is at worked.points_is
                ∙ sym (count_is_total (stage_of newest ns ws os k) (λ i. get_or c.root i 0) (λ i. get_or c.component i 0) limit (los c.cuttable) (his c.cuttable) c.host c.fixed c.gates d.cut_any d.fewest d.any_ok d.any_weight up.ungated_ok up.ungated_weight b.count b.lightest (flags d.ungated) (weights d.ungated) (positions d.near) any_mode cut_high is_formed first.fits run first.short);
          }

    -- before the pass up has run: it can choose, so as many points as were counted are the fewest
    pub planned-some : (cut_high : List Bool) × Planned (stage_of newest ns ws os k) limit (his c.cuttable) (positions d.near) cut_high points
    planned-some =
        let o = options ws c d limit choosable_of.below c.n (omega arith) in
        (o.cut_high, planned o.any_mode o.cut_high o.chosen)

    -- a wire has at most two jumpers, so the points are few
    pub points-few : points ≤ 2 * node_count ns
    unfolding stage_of
    points-few =
        let q = planned-some in
        omega (arith, q.1.points_is, count-few (node_count ns) (positions d.near) q.0)

module _ {s : Stage} {limit : ℕ} {hi near : List ℕ} {cut_high : List Bool} {points : ℕ} {out : List ℕ} {r : Answer} (p : Planned s limit hi near cut_high points) where
  pub judged-short : length out < entry_bytes * points → r ≡ answer (refusal 16 (entry_bytes * points)) 0 → Judged s limit out out r
  judged-short lt e =
      let q = p.points_is in
      too_short (list_of s.nodes hi near cut_high) (count_of s.nodes near cut_high) p.smallest (omega arith)
      (e ∙ ap (λ (x : ℕ). answer (refusal 16 (entry_bytes * x)) 0) q) refl

  pub judged-done :
      {after : List ℕ} → entry_bytes * points ≤ length out → r ≡ answer none points → after ≡ over (list_of s.nodes hi near cut_high) out → Judged s limit out after r
  judged-done le e a =
      let q = p.points_is in
      done (list_of s.nodes hi near cut_high) (count_of s.nodes near cut_high) p.smallest (omega arith) (e ∙ ap (answer none) q)
      (a ∙ ap (λ (x : ℕ). list_of s.nodes hi near cut_high ++ drop x out) (length-list_of hi near cut_high s.nodes))

-- over prepared obstacles, and over those that have that form as they are, the net is judged as it was given, under the clearance
module _ (v c : ℕ) (ns ws os : List ℕ) (nodes : Bytes ns) (bytes : Bytes os) (accepted : net_refusal v ns ws os ≡ none) where
  agrees : (k : ℕ) → SameBarred (stage_of newest ns ws (prepared v c os) k) (λ i t. barred v c ns ws os i t)
  agrees = prepared_agrees v c os ns ws (net-right v ns ws os accepted) nodes bytes

  pub judged-prepared : (k : ℕ) {limit : ℕ} {out after : List ℕ} {r : Answer} → Judged (stage_of newest ns ws (prepared v c os) k) limit out after r → Judged (stage_under v ns ws os k c) limit out after r
  unfolding stage_of
  judged-prepared k (no_legal_set n e a) = no_legal_set (none_legal_same (agrees k) n) e a
  judged-prepared k (too_short list n m lt e a) = too_short list n (smallest-same (agrees k) m) lt e a
  judged-prepared k (done list n m le e a) = done list n (smallest-same (agrees k) m) le e a

  module _ (as_is : ((v ≡ newest) × (c ≡ 0)) ⊎ (prepared v c os ≡ os)) where
    pub judged_as_is : (k : ℕ) {limit : ℕ} {out after : List ℕ} {r : Answer} → Judged (stage_of newest ns ws os k) limit out after r → Judged (stage_under v ns ws os k c) limit out after r
    unfolding stage_of
    judged_as_is k j = elim as_is [
      | inl e ↦ rw (e.0, e.1) j
      | inr e ↦ judged-prepared k (rw e j)
    ]

    pub none_as_is : net_refusal newest ns ws os ≡ none
    none_as_is = elim as_is [
      | inl e ↦ rw e.0 at accepted
      | inr e ↦ rw e at (prepared-none v c os ns ws nodes bytes accepted)
    ]
