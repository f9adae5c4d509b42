-- When a file is accepted; what holds of a file whose head and pairs meet neither 2 nor 3, and of three sections that meet none of 4 to 11 and 20.
-- Assumes nothing.
use Rattle.std.specs.Prelude.{ℕ, zero, suc, ◌+◌, ◌-◌, ◌*◌, ◌%◌, ◌<◌, ◌≤◌, ◌≡◌, ◌&&◌, ◌||◌, List, ◌⊎◌, length}
use Rattle.std.proofs.Math.Path.{refl}
use Rattle.std.proofs.Common.{ap}
use Rattle.std.proofs.Math.Bool.{true, false, not}
use Rattle.std.proofs.Math.Logic.{⊎_map}
use native.Mathlib.Omega.{arith}
use Rattle.std.proofs.Math.Dec.{leb, ltb, eqb}
use borrow.Author.Tests.{ltb-true, ltb-false, eqb-true, eqb-false, not-false}
use Rattle.laws.specs.Sums.{and_left, and_right, or_no_left, or_no_right}
use Rattle.net.specs.Layout.{head_bytes, node_bytes, wire_bytes, obstacle_bytes, most_nodes, most_obstacles, most_layers, most_flags}
use Rattle.net.specs.Net.{node_count, node_x, node_y, node_flags, wire_parent, wire_layer, wire_factor, obstacle_count, obstacle_x1, obstacle_y1, obstacle_x2, obstacle_y2, obstacle_layer}
use Rattle.net.specs.File.{version_of, pair_count, offset, extent, pairs_right}
use Rattle.net.specs.Stage.{stage_under}
use Rattle.net.specs.NoClearance.{stage_of}
use Rattle.net.specs.Formed.{Formed}
use Rattle.net.specs.Refusal.{none, met, or_else, refused_if, first_of, is_version, head_refusal, pairs_refusal, sections_refusal, node_refusal, wire_refusal, obstacle_refusal, net_refusal, read_refusal}
use Rattle.net.specs.First.{and_no, unmet_if, unmet_l, unmet_r, first-unmet}
use Rattle.net.specs.Versions.{section_whole}

-- a net is accepted if and only if reading it alone meets none
abbrev pub Accepted : List ℕ → Type 0
Accepted file = read_refusal file ≡ none

-- head and pairs
pub record HeadRight (f : List ℕ) : Type 0 where
  pub long : head_bytes ≤ length f
  pub version_right : is_version (version_of f) ≡ true
  pub three_pairs : pair_count f ≡ 3
  pub nodes_at : offset f 0 ≡ head_bytes
  pub wires_at : offset f 1 ≡ offset f 0 + extent f 0
  pub obstacles_at : offset f 2 ≡ offset f 1 + extent f 1
  pub end_at : length f ≡ offset f 2 + extent f 2

module _ (f : List ℕ) where
  pub head-long : met (head_refusal f) ≡ false → head_bytes ≤ length f
  unfolding head_refusal
  head-long e =
      let short = ltb (length f) head_bytes in
      let wrong = not (is_version (version_of f)) || not (eqb (pair_count f) 3) in
      ltb-false _ _ (or_no_left short wrong (unmet_if (short || wrong) 2 0 refl e))

  pub head_right_of : met (or_else (head_refusal f) (pairs_refusal f)) ≡ false → HeadRight f
  unfolding head_refusal pairs_refusal pairs_right
  head_right_of e =
      let short = ltb (length f) head_bytes in
      let v = is_version (version_of f) in
      let p = eqb (pair_count f) 3 in
      let a = eqb (offset f 0) head_bytes in
      let b = eqb (offset f 1) (offset f 0 + extent f 0) in
      let c = eqb (offset f 2) (offset f 1 + extent f 1) in
      let d = eqb (length f) (offset f 2 + extent f 2) in
      let r2 = refused_if (short || (not v || not p)) 2 0 in
      let r3 = refused_if (not (a && (b && (c && d)))) 3 0 in
      let t2 : (short || (not v || not p)) ≡ false = unmet_if (short || (not v || not p)) 2 0 refl (unmet_l r2 r3 e) in
      let vp : (not v || not p) ≡ false = or_no_right short (not v || not p) t2 in
      let abcd : (a && (b && (c && d))) ≡ true =
      not-false (a && (b && (c && d))) (unmet_if (not (a && (b && (c && d)))) 3 0 refl (unmet_r r2 r3 e)) in
      let bcd : (b && (c && d)) ≡ true = and_right a (b && (c && d)) abcd in
      let cd : (c && d) ≡ true = and_right b (c && d) bcd in
      record {
        long = ltb-false _ _ (or_no_left short (not v || not p) t2);
        version_right = not-false v (or_no_left (not v) (not p) vp);
        three_pairs = eqb-true _ _ (not-false p (or_no_right (not v) (not p) vp));
        nodes_at = eqb-true _ _ (and_left a (b && (c && d)) abcd);
        wires_at = eqb-true _ _ (and_left b (c && d) bcd);
        obstacles_at = eqb-true _ _ (and_left c d cd);
        end_at = eqb-true _ _ (and_right c d cd);
      }

  -- each section lies in the file
  pub section_inside : HeadRight f → (k : ℕ) → k < 3 → offset f k + extent f k ≤ length f
  section_inside r zero h = omega (arith, r.nodes_at, r.wires_at, r.obstacles_at, r.end_at)
  section_inside r (suc zero) h = omega (arith, r.nodes_at, r.wires_at, r.obstacles_at, r.end_at)
  section_inside r (suc (suc zero)) h = omega (arith, r.end_at)
  section_inside r (suc (suc (suc k))) h = absurd (omega arith)

-- lengths and counts
pub record Sized (v : ℕ) (ns ws os : List ℕ) : Type 0 where
  pub nodes_length : length ns ≡ node_bytes * node_count ns
  pub some_node_lem : 1 ≤ node_count ns
  pub few_nodes : node_count ns ≤ most_nodes
  pub wires_length : length ws ≡ wire_bytes * (node_count ns - 1)
  pub obstacles_length : length os ≡ obstacle_bytes v * obstacle_count v os
  pub few_obstacles : obstacle_count v os ≤ most_obstacles

-- wire i
pub record WireRight (ns ws : List ℕ) (i : ℕ) : Type 0 where
  pub below : wire_parent ws i < i
  pub layer_low : 1 ≤ wire_layer ws i
  pub layer_high : wire_layer ws i ≤ most_layers
  pub factor_low : 1 ≤ wire_factor ws i
  pub straight : (node_x ns i ≡ node_x ns (wire_parent ws i)) ⊎ (node_y ns i ≡ node_y ns (wire_parent ws i))

-- obstacle k
pub record ObstacleRight (v : ℕ) (os : List ℕ) (k : ℕ) : Type 0 where
  pub corners_x : obstacle_x1 v os k ≤ obstacle_x2 v os k
  pub corners_y : obstacle_y1 v os k ≤ obstacle_y2 v os k
  pub layer_low : 1 ≤ obstacle_layer v os k
  pub layer_high : obstacle_layer v os k ≤ most_layers

pub record NetRight (v : ℕ) (ns ws os : List ℕ) : Type 0 where
  pub sized : Sized v ns ws os
  pub flags : (i : ℕ) → i < node_count ns → node_flags ns i ≤ most_flags
  pub wire : (i : ℕ) → 0 < i → i < node_count ns → WireRight ns ws i
  pub obstacle : (k : ℕ) → k < obstacle_count v os → ObstacleRight v os k

pub sized_of : (v : ℕ) (ns ws os : List ℕ) → met (sections_refusal v ns ws os) ≡ false → Sized v ns ws os
unfolding sections_refusal
sized_of v ns ws os e =
    let a = eqb (length ns % node_bytes) 0 in
    let b = eqb (node_count ns) 0 in
    let c = ltb most_nodes (node_count ns) in
    let d = eqb (length ws) (wire_bytes * (node_count ns - 1)) in
    let f = eqb (length os % obstacle_bytes v) 0 in
    let g = ltb most_obstacles (obstacle_count v os) in
    let r4 = refused_if (not a || (b || c)) 4 0 in
    let r5 = refused_if (not d) 5 0 in
    let r6 = refused_if (not f || g) 6 0 in
    let t4 : (not a || (b || c)) ≡ false = unmet_if (not a || (b || c)) 4 0 refl (unmet_l r4 (or_else r5 r6) e) in
    let t5 : not d ≡ false = unmet_if (not d) 5 0 refl (unmet_l r5 r6 (unmet_r r4 (or_else r5 r6) e)) in
    let t6 : (not f || g) ≡ false = unmet_if (not f || g) 6 0 refl (unmet_r r5 r6 (unmet_r r4 (or_else r5 r6) e)) in
    let bc : (b || c) ≡ false = or_no_right (not a) (b || c) t4 in
    let fives : length ns % node_bytes ≡ 0 = eqb-true _ _ (not-false a (or_no_left (not a) (b || c) t4)) in
    let some : node_count ns ≡ 0 → ⊥ = eqb-false _ _ (or_no_left b c bc) in
    let few : node_count ns ≤ most_nodes = ltb-false _ _ (or_no_right b c bc) in
    record {
      nodes_length = omega arith;
      some_node_lem = omega arith;
      few_nodes = few;
      wires_length = eqb-true _ _ (not-false d t5);
      obstacles_length = section_whole v os (eqb-true _ _ (not-false f (or_no_left (not f) g t6)));
      few_obstacles = ltb-false _ _ (or_no_right (not f) g t6);
    }

flags_of : (ns : List ℕ) (i : ℕ) → met (node_refusal ns i) ≡ false → node_flags ns i ≤ most_flags
unfolding node_refusal
flags_of ns i e = ltb-false _ _ (unmet_if (ltb most_flags (node_flags ns i)) 7 i refl e)

wire_of_lem : (ns ws : List ℕ) (i : ℕ) → met (wire_refusal ns ws i) ≡ false → WireRight ns ws i
unfolding wire_refusal
wire_of_lem ns ws i e =
    let a = ltb (wire_parent ws i) i in
    let b = eqb (wire_layer ws i) 0 in
    let c = ltb most_layers (wire_layer ws i) in
    let d = eqb (wire_factor ws i) 0 in
    let x = eqb (node_x ns i) (node_x ns (wire_parent ws i)) in
    let y = eqb (node_y ns i) (node_y ns (wire_parent ws i)) in
    let r8 = refused_if (not a) 8 i in
    let r9 = refused_if (b || (c || d)) 9 i in
    let r10 = refused_if (not x && not y) 10 i in
    let t8 : not a ≡ false = unmet_if (not a) 8 i refl (unmet_l r8 (or_else r9 r10) e) in
    let t9 : (b || (c || d)) ≡ false = unmet_if (b || (c || d)) 9 i refl (unmet_l r9 r10 (unmet_r r8 (or_else r9 r10) e)) in
    let t10 : (not x && not y) ≡ false = unmet_if (not x && not y) 10 i refl (unmet_r r9 r10 (unmet_r r8 (or_else r9 r10) e)) in
    let cd : (c || d) ≡ false = or_no_right b (c || d) t9 in
    let low : wire_layer ws i ≡ 0 → ⊥ = eqb-false _ _ (or_no_left b (c || d) t9) in
    let factor : wire_factor ws i ≡ 0 → ⊥ = eqb-false _ _ (or_no_right c d cd) in
    record {
      below = ltb-true _ _ (not-false a t8);
      layer_low = omega arith;
      layer_high = ltb-false _ _ (or_no_left c d cd);
      factor_low = omega arith;
      straight =
          ⊎_map (λ t. eqb-true _ _ (not-false x t)) (λ t. eqb-true _ _ (not-false y t)) (and_no (not x) (not y) t10);
    }

obstacle_of : (v : ℕ) (os : List ℕ) (k : ℕ) → met (obstacle_refusal v os k) ≡ false → ObstacleRight v os k
unfolding obstacle_refusal
obstacle_of v os k e =
    let a = ltb (obstacle_x2 v os k) (obstacle_x1 v os k) in
    let b = ltb (obstacle_y2 v os k) (obstacle_y1 v os k) in
    let c = eqb (obstacle_layer v os k) 0 in
    let d = ltb most_layers (obstacle_layer v os k) in
    let r11 = refused_if (a || b) 11 k in
    let r20 = refused_if (c || d) 20 k in
    let t11 : (a || b) ≡ false = unmet_if (a || b) 11 k refl (unmet_l r11 r20 e) in
    let t20 : (c || d) ≡ false = unmet_if (c || d) 20 k refl (unmet_r r11 r20 e) in
    let low : obstacle_layer v os k ≡ 0 → ⊥ = eqb-false _ _ (or_no_left c d t20) in
    record {
      corners_x = ltb-false _ _ (or_no_left a b t11);
      corners_y = ltb-false _ _ (or_no_right a b t11);
      layer_low = omega arith;
      layer_high = ltb-false _ _ (or_no_right c d t20);
    }

module _ (v : ℕ) (ns ws os : List ℕ) where
  pub net_right_of : met (net_refusal v ns ws os) ≡ false → NetRight v ns ws os
  unfolding net_refusal
  net_right_of u =
      let r456 = sections_refusal v ns ws os in
      let r7 = first_of (node_count ns) (λ i. node_refusal ns i) in
      let r8 = first_of (node_count ns - 1) (λ i. wire_refusal ns ws (i + 1)) in
      let r11 = first_of (obstacle_count v os) (λ k. obstacle_refusal v os k) in
      let u7 = unmet_r r456 (or_else r7 (or_else r8 r11)) u in
      let u8 = unmet_r r7 (or_else r8 r11) u7 in
      record {
        sized = sized_of v ns ws os (unmet_l r456 (or_else r7 (or_else r8 r11)) u);
        flags = λ i h. flags_of ns i (first-unmet _ _ (unmet_l r7 (or_else r8 r11) u7) i h);
        wire = λ i p h.
            let q : i - 1 + 1 ≡ i = omega arith in
            wire_of_lem ns ws i (rw q at (first-unmet (λ i. wire_refusal ns ws (i + 1)) _ (unmet_l r8 r11 u8) (i - 1) (omega arith)));
        obstacle = λ k h. obstacle_of v os k (first-unmet _ _ (unmet_r r8 r11 u8) k h);
      }

  pub net-right : net_refusal v ns ws os ≡ none → NetRight v ns ws os
  net-right e = net_right_of (ap met e)

  -- a wire is present at a stage if it is a wire of the net and its layer is at most the stage
  module _ (k i : ℕ) (p : (stage_of v ns ws os k).present i ≡ true) where
    pub present-positive : 0 < i
    unfolding stage_of
    present-positive = ltb-true _ _ (and_left (ltb 0 i) (ltb i (node_count ns) && leb (wire_layer ws i) k) p)

    inside-layer : (ltb i (node_count ns) && leb (wire_layer ws i) k) ≡ true
    unfolding stage_of
    inside-layer = and_right (ltb 0 i) (ltb i (node_count ns) && leb (wire_layer ws i) k) p

    pub present-inside : i < node_count ns
    present-inside = ltb-true _ _ (and_left (ltb i (node_count ns)) (leb (wire_layer ws i) k) inside-layer)

  pub formed : NetRight v ns ws os → (k : ℕ) → Formed (stage_of v ns ws os k)
  unfolding stage_of
  formed r k =
      record {
        inside = λ i p. present-inside k i p;
        below = λ i p. (r.wire i (present-positive k i p) (present-inside k i p)).below;
      }

  pub formed_under : NetRight v ns ws os → (k clearance : ℕ) → Formed (stage_under v ns ws os k clearance)
  unfolding stage_of
  formed_under r k clearance = let f = formed r k in record { inside = f.inside; below = f.below }
