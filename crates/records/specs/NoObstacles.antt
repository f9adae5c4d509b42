-- A net and a jumper list that are accepted with some obstacles, under whatever clearance, are accepted without any: only an obstacle that is itself wrong, or
-- bars a jumper, is refused.
-- Assumes nothing.
use Rattle.std.specs.Prelude.{ℕ, ◌-◌, ◌%◌, ◌≡◌, refl, false, not, ◌&&◌, ◌||◌, List, [], length, leb, ltb, eqb}
use Rattle.std.proofs.Common.{sym, ap, arith}
use Rattle.laws.specs.Sum.{any}
use Rattle.net.specs.Layout.{entry_bytes}
use Rattle.net.specs.Net.{barred}
use Rattle.net.specs.Stage.{stage_under}
use Rattle.net.specs.NoClearance.{stage_of}
use Rattle.net.specs.Refusal.{none, met, refused_if, first_of}
use Rattle.net.specs.First.{none_if, unmet_l, unmet_r, first-unmet, first-none}
use Rattle.net.specs.Accepted.{NetRight, net-right}
use Rattle.net.specs.AcceptedIf.{net-none}
use Rattle.pieces.specs.Legal.{entry_wire, entry_position, after}
use Rattle.pieces.specs.JumperList.{entry_count, point_refusal, entry_refusal, list_refusal}
use Rattle.records.specs.ListRight.{ListRight, ListAccepted, AcceptedWithoutObstacles}

module _ (v c : ℕ) (ns ws os : List ℕ) where
  right_without : NetRight v ns ws os → NetRight 1 ns ws []
  right_without r =
      let s = r.sized in
      record {
        sized =
            record {
              nodes_length = s.nodes_length;
              some_node_lem = s.some_node_lem;
              few_nodes = s.few_nodes;
              wires_length = s.wires_length;
              obstacles_length = refl;
              few_obstacles = omega arith;
            };
        flags = r.flags;
        wire = r.wire;
        obstacle = λ k h. absurd (omega (arith, h));
      }

  -- entry e: its order and its point are as they were, and nothing bars the point
  entry_without : (k : ℕ) (list : List ℕ) (e : ℕ) → met (entry_refusal (stage_under v ns ws os k c) list e) ≡ false →
      none ≡ entry_refusal (stage_of 1 ns ws [] k) list e
  unfolding entry_refusal point_refusal stage_of barred any
  entry_without k list e u =
      let s = stage_under v ns ws os k c in
      let i = entry_wire list e in
      let t = entry_position list e in
      let unordered = not (eqb e 0 || after list (e - 1) e) in
      let outside = not (s.present i && (leb 1 t && ltb t (s.len i))) in
      let point = point_refusal s i t e in
      let u13 = unmet_l (refused_if outside 13 e) (refused_if (s.barred i t) 14 e) (unmet_r (refused_if unordered 12 e) point u) in
      rw (← none_if unordered 12 e refl (unmet_l (refused_if unordered 12 e) point u), ← none_if outside 13 e refl u13)

  list_without : (k : ℕ) (list : List ℕ) → met (list_refusal (stage_under v ns ws os k c) list) ≡ false → none ≡ list_refusal (stage_of 1 ns ws [] k) list
  unfolding list_refusal
  list_without k list u =
      let s = stage_under v ns ws os k c in
      let uneven = not (eqb (length list % entry_bytes) 0) in
      let each = first_of (entry_count list) (λ e. entry_refusal s list e) in
      let entries = first-unmet (λ e. entry_refusal s list e) (entry_count list) (unmet_r (refused_if uneven 12 0) each u) in
      rw (
        ← none_if uneven 12 0 refl (unmet_l (refused_if uneven 12 0) each u),
        ← first-none (λ e. entry_refusal (stage_of 1 ns ws [] k) list e) (entry_count list) (λ e h. entry_without k list e (entries e h)),
      )

  pub accepted_without : (k : ℕ) (list : List ℕ) → NetRight v ns ws os → list_refusal (stage_under v ns ws os k c) list ≡ none → AcceptedWithoutObstacles ns ws k list
  accepted_without k list right listed = (sym (net-none 1 ns ws [] (right_without right)), sym (list_without k list (ap met listed)))

pub right_bare : {ns ws list : List ℕ} {k : ℕ} → AcceptedWithoutObstacles ns ws k list → ListRight 1 ns ws k list []
right_bare {ns} {ws} a = record { right = net-right 1 ns ws [] a.0; listed = a.1 }

pub accepted_with : {ns ws list : List ℕ} {k : ℕ} → AcceptedWithoutObstacles ns ws k list → ListAccepted ns ws k list
accepted_with a = (1, [], right_bare a)
