-- A file is accepted if and only if its head, pairs, sections, nodes, wires and obstacles are right: reading meets none of 2 to 11 and 20.
-- Assumes nothing.
use Rattle.std.specs.Prelude.{ℕ, ◌+◌, ◌-◌, ◌≡◌, refl, Bool, true, not, ◌&&◌, List, ◌⊎◌, eqb}
use Rattle.std.proofs.Common.{sym, ap, inl, inr, arith, lt-ltb, le-ltb, eq-eqb, ne_eqb}
use Rattle.std.proofs.Math.Bool.{false}
use Rattle.std.proofs.Math.Logic.{⊎_map}
use Rattle.net.specs.Net.{node_x, node_y, node_count, obstacle_count, wire_parent, wire_layer, wire_factor}
use Rattle.net.specs.File.{version_of}
use Rattle.net.specs.Refusal.{none, met, or_else, head_refusal, pairs_refusal, sections_refusal, node_refusal, wire_refusal, obstacle_refusal, net_refusal, read_refusal, nodes_of, wires_of, obstacles_of, answer, read_answer}
use Rattle.net.specs.First.{first-none, unmet_l, unmet_r, unmet-number, or_assoc}
use Rattle.net.specs.Versions.{whole_section}
use Rattle.net.specs.Reading.{head-right, pairs_right_lem, sections_right, node-right, obstacle-right}
use Rattle.net.specs.Accepted.{Accepted, HeadRight, Sized, WireRight, ObstacleRight, NetRight, head_right_of, net_right_of}

oblique : (a b : Bool) → (a ≡ true) ⊎ (b ≡ true) → (not a && not b) ≡ false
oblique true b h = refl
oblique false true h = refl
oblique false false (inl h) = sym h
oblique false false (inr h) = sym h

sections_none : (v : ℕ) (ns ws os : List ℕ) → Sized v ns ws os → none ≡ sections_refusal v ns ws os
sections_none v ns ws os s =
    let n = s.nodes_length in
    sections_right v ns ws os (omega arith) (λ e. omega (arith, s.some_node_lem)) s.few_nodes s.wires_length
    (whole_section v os s.obstacles_length) s.few_obstacles

wire-none : (ns ws : List ℕ) (i : ℕ) → WireRight ns ws i → none ≡ wire_refusal ns ws i
unfolding wire_refusal
wire-none ns ws i w =
    rw (
      lt-ltb _ _ w.below,
      ne_eqb (wire_layer ws i) 0 (λ e. omega (arith, w.layer_low)),
      le-ltb _ _ w.layer_high,
      ne_eqb (wire_factor ws i) 0 (λ e. omega (arith, w.factor_low)),
      oblique (eqb (node_x ns i) (node_x ns (wire_parent ws i))) (eqb (node_y ns i) (node_y ns (wire_parent ws i)))
          (⊎_map (λ e. eq-eqb _ _ e) (λ e. eq-eqb _ _ e) w.straight),
    )

obstacle-none : (v : ℕ) (os : List ℕ) (k : ℕ) → ObstacleRight v os k → none ≡ obstacle_refusal v os k
obstacle-none v os k o =
    obstacle-right v os k o.corners_x o.corners_y (λ e. omega (arith, o.layer_low)) o.layer_high

-- three sections that are right meet none of 4 to 11 and 20
pub net-none : (v : ℕ) (ns ws os : List ℕ) → NetRight v ns ws os → none ≡ net_refusal v ns ws os
unfolding net_refusal
net-none v ns ws os r =
    rw (
      ← sections_none v ns ws os r.sized,
      ← first-none (λ i. node_refusal ns i) (node_count ns) (λ i h. node-right ns i (r.flags i h)),
      ← first-none (λ i. wire_refusal ns ws (i + 1)) (node_count ns - 1)
          (λ i h. wire-none ns ws (i + 1) (r.wire (i + 1) (omega arith) (omega arith))),
      ← first-none (λ k. obstacle_refusal v os k) (obstacle_count v os) (λ k h. obstacle-none v os k (r.obstacle k h)),
    )

-- a file that meets none of 2 to 11 and 20
pub record FileRight (f : List ℕ) : Type 0 where
  pub head : HeadRight f
  pub net : NetRight (version_of f) (nodes_of f) (wires_of f) (obstacles_of f)

module _ (f : List ℕ) where
  pub head-unmet : HeadRight f → met (or_else (head_refusal f) (pairs_refusal f)) ≡ false
  head-unmet h =
      rw (
        ← head-right f h.long h.version_right h.three_pairs,
        ← pairs_right_lem f h.nodes_at h.wires_at h.obstacles_at h.end_at,
      )

  pub file_right_of : met (read_refusal f) ≡ false → FileRight f
  unfolding read_refusal
  file_right_of u =
      let net = net_refusal (version_of f) (nodes_of f) (wires_of f) (obstacles_of f) in
      let v : met (or_else (or_else (head_refusal f) (pairs_refusal f)) net) ≡ false = rw (or_assoc (head_refusal f) (pairs_refusal f) net) u in
      record {
        head = head_right_of f (unmet_l (or_else (head_refusal f) (pairs_refusal f)) net v);
        net = net_right_of (version_of f) (nodes_of f) (wires_of f) (obstacles_of f) (unmet_r (or_else (head_refusal f) (pairs_refusal f)) net v);
      }

  -- accepted if and only if it meets none
  pub accepted-right : Accepted f → FileRight f
  accepted-right e = file_right_of (ap met e)

  pub right-accepted : FileRight f → Accepted f
  unfolding read_refusal
  right-accepted r =
      rw (
        ← head-right f r.head.long r.head.version_right r.head.three_pairs,
        ← pairs_right_lem f r.head.nodes_at r.head.wires_at r.head.obstacles_at r.head.end_at,
      )
      (sym (net-none (version_of f) (nodes_of f) (wires_of f) (obstacles_of f) r.net))

  -- what read answers says which
  pub answer-accepted : (read_answer f).number ≡ 0 → Accepted f
  unfolding read_answer answer
  answer-accepted e = right-accepted (file_right_of (unmet-number (read_refusal f) e))

  pub accepted-answer : Accepted f → (read_answer f).number ≡ 0
  unfolding read_answer answer
  accepted-answer e = rw e
