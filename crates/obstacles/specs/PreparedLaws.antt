-- Prepared obstacles bar without a clearance just what those that were given bar under one, inside every present wire, and a net that is right with the ones is
-- right with the others.
-- Assumes nothing.
use Rattle.std.specs.Prelude.{ℕ, ◌+◌, ◌*◌, ◌/◌, ◌%◌, ◌<◌, ◌≤◌, ◌≡◌, refl, true, ◌&&◌, ◌||◌, ◌⊎◌, List, [], ◌∷◌, length, get_or, take, eqb}
use Rattle.std.proofs.Common.{sym, ◌∙◌, arith, eqb-true}
use Rattle.std.proofs.Math.Logic.{⊎_map}
use Rattle.std.proofs.lemmas.Bool.Decides.{nat_tests}
use Rattle.laws.specs.Bytes.{le16}
use Rattle.laws.specs.Lists.{over}
use Rattle.laws.specs.Numbers.{Bytes, le16-bytes16}
use Rattle.laws.specs.Gathers.{length-records, record_of_lem}
use Rattle.laws.specs.Written.{written_taken}
use Rattle.laws.specs.Sums.{and_left, and_right, or_cases, any_ap}
use Rattle.net.specs.Layout.{newest, obstacle_bytes, most_obstacles}
use Rattle.net.specs.Limits.{length_bound}
use Rattle.net.specs.Net.{point_x, point_y, obstacle_count, obstacle_x1, obstacle_y1, obstacle_x2, obstacle_y2, obstacle_layer, near, barred}
use Rattle.net.specs.declared.fields.Obstacle.{Obstacle}
use Rattle.net.specs.Versions.{of_width}
use Rattle.net.specs.NoClearance.{stage_of}
use Rattle.net.specs.Refusal.{none, net_refusal}
use Rattle.net.specs.Accepted.{NetRight, net-right, present-positive, present-inside}
use Rattle.net.specs.AcceptedIf.{net-none}
use Rattle.points.specs.Geometry.{checked_of, stepped-fits, reach-x, reach-y, point_x_is, point_y_is}
use Rattle.pieces.specs.Barring.{SameBarred}
use Rattle.obstacles.specs.Prepared.{grown, obstacle_of, prepared_record, prepared}

module _ (v c : ℕ) (os : List ℕ) where
  pub prepared-length : length (prepared v c os) ≡ obstacle_bytes newest * obstacle_count v os
  prepared-length = length-records (obstacle_bytes newest) (λ k. prepared_record v c os k) (λ k. refl) (obstacle_count v os)

  -- once all are written, the bytes that they take hold just them
  pub prepared_taken : (n : ℕ) (l x : List ℕ) → n ≡ obstacle_bytes newest * obstacle_count v os → x ≡ over (prepared v c os) l → take n x ≡ prepared v c os
  prepared_taken n l x e p = written_taken (prepared v c os) l x n p (prepared-length ∙ sym e)

  -- where they have that form as they are, the version is the newest and the clearance 0, or preparing leaves them as they are: there are none
  pub prepared_as_is : ((eqb v newest && eqb c 0) || eqb (length os) 0) ≡ true → ((v ≡ newest) × (c ≡ 0)) ⊎ (prepared v c os ≡ os)
  prepared_as_is e =
      ⊎_map
      (λ y. (eqb-true v newest (and_left (eqb v newest) (eqb c 0) y), eqb-true c 0 (and_right (eqb v newest) (eqb c 0) y)))
      (λ z. unchanged (eqb-true (length os) 0 z)) (or_cases (eqb v newest && eqb c 0) (eqb (length os) 0) e)
    where
      empty : (l : List ℕ) → length l ≡ 0 → l ≡ []
      empty [] z = refl
      empty (x ∷ l) z = absurd (omega arith)

      unchanged : length os ≡ 0 → prepared v c os ≡ os
      unchanged z =
          let n : obstacle_count v os ≡ 0 = of_width (λ w. length os / w ≡ 0) (omega arith) (omega arith) v in
          let l = prepared-length in
          empty (prepared v c os) (omega arith) ∙ sym (empty os z)

  prepared-count : obstacle_count newest (prepared v c os) ≡ obstacle_count v os
  prepared-count = let e = prepared-length in omega arith

  -- an obstacle is the one that was given, grown
  module _ (bytes : Bytes os) (k : ℕ) (inside : k < obstacle_count v os) where
    byte : (b i : ℕ) → i ≡ obstacle_bytes newest * k + b → b < obstacle_bytes newest → get_or (prepared v c os) i 0 ≡ get_or (prepared_record v c os k) b 0
    byte b i e l = rw e (record_of_lem (obstacle_bytes newest) (λ k. prepared_record v c os k) (λ k. refl) 0 (obstacle_count v os) k b inside l)

    -- a coordinate is two bytes of the record
    coordinate : (n b i : ℕ) → i ≡ obstacle_bytes newest * k + b → b + 1 < obstacle_bytes newest → get_or (prepared_record v c os k) b 0 ≡ n % 256
        → get_or (prepared_record v c os k) (b + 1) 0 ≡ n / 256 % 256 → n < length_bound → le16 (prepared v c os) i ≡ n
    coordinate n b i e l low high small = rw (byte b i e (omega arith), byte (b + 1) (i + 1) (omega arith) l, low, high) (le16-bytes16 n small)

    abbrev o : Obstacle
    o = grown (obstacle_of v os k) c

    -- the number of two bytes at a place is small
    small : (i : ℕ) → le16 os i < length_bound
    small i = omega (arith, bytes i, bytes (i + 1))

    x1_is : obstacle_x1 newest (prepared v c os) k ≡ o.x1
    x1_is = coordinate o.x1 0 _ (omega arith) (omega arith) refl refl (omega (arith, small (obstacle_bytes v * k)))

    y1_is : obstacle_y1 newest (prepared v c os) k ≡ o.y1
    y1_is = coordinate o.y1 2 _ (omega arith) (omega arith) refl refl (omega (arith, small (obstacle_bytes v * k + 2)))

    x2_is : obstacle_x2 newest (prepared v c os) k ≡ o.x2
    x2_is = coordinate o.x2 4 _ (omega arith) (omega arith) refl refl (omega arith)

    y2_is : obstacle_y2 newest (prepared v c os) k ≡ o.y2
    y2_is = coordinate o.y2 6 _ (omega arith) (omega arith) refl refl (omega arith)

    layer_is : obstacle_layer newest (prepared v c os) k ≡ obstacle_layer v os k
    layer_is = byte 8 _ refl (omega arith)

    -- coordinates end at 65535, so of points it holds just those that lie near the one that was given
    prepared-near : (x y : ℕ) → x < length_bound → y < length_bound → near newest 0 (prepared v c os) k x y ≡ near v c os k x y
    unfolding near
    prepared-near x y p q = rw (x1_is, y1_is, x2_is, y2_is) (grind (arith, nat_tests))

  module _ (ns ws : List ℕ) (right : NetRight v ns ws os) (nodes : Bytes ns) (bytes : Bytes os) where
    pub prepared-barred : (i t : ℕ) → point_x ns ws i t < length_bound → point_y ns ws i t < length_bound →
        barred newest 0 ns ws (prepared v c os) i t ≡ barred v c ns ws os i t
    unfolding barred
    prepared-barred i t p q =
        rw prepared-count
        (any_ap (obstacle_count v os) (λ k h. rw (prepared-near bytes k h (point_x ns ws i t) (point_y ns ws i t) p q, layer_is bytes k h)))

    -- so the stages bar the same points
    pub prepared_agrees : (k : ℕ) → SameBarred (stage_of newest ns ws (prepared v c os) k) (λ i t. barred v c ns ws os i t)
    unfolding stage_of
    prepared_agrees k i t p low high =
        let checked = checked_of right i (present-positive v ns ws os k i p) (present-inside v ns ws os k i p) in
        let x = reach-x ns ws i nodes checked (omega arith) in
        let y = reach-y ns ws i nodes checked (omega arith) in
        prepared-barred i t (rw (← point_x_is ns ws i t) (stepped-fits x)) (rw (← point_y_is ns ws i t) (stepped-fits y))

    prepared-right : NetRight newest ns ws (prepared v c os)
    prepared-right =
        record {
          sized =
              record {
                nodes_length = right.sized.nodes_length;
                some_node_lem = right.sized.some_node_lem;
                few_nodes = right.sized.few_nodes;
                wires_length = right.sized.wires_length;
                obstacles_length = omega (arith, prepared-length, prepared-count);
                few_obstacles = omega (arith, prepared-count, right.sized.few_obstacles);
              };
          flags = right.flags;
          wire = right.wire;
          obstacle = λ k h.
              let inside : k < obstacle_count v os = omega (arith, prepared-count) in
              let q = right.obstacle k inside in
              let x = small bytes k inside (obstacle_bytes v * k) in
              let y = small bytes k inside (obstacle_bytes v * k + 2) in
              record {
                corners_x = rw (x1_is bytes k inside, x2_is bytes k inside) (omega (arith, q.corners_x, x));
                corners_y = rw (y1_is bytes k inside, y2_is bytes k inside) (omega (arith, q.corners_y, y));
                layer_low = rw (layer_is bytes k inside) q.layer_low;
                layer_high = rw (layer_is bytes k inside) q.layer_high;
              };
        }

  pub prepared-none : (ns ws : List ℕ) → Bytes ns → Bytes os → net_refusal v ns ws os ≡ none → net_refusal newest ns ws (prepared v c os) ≡ none
  prepared-none ns ws nodes bytes e = sym (net-none newest ns ws (prepared v c os) (prepared-right ns ws (net-right v ns ws os e) nodes bytes))

-- how many bytes they take at most
pub prepared-few : (v : ℕ) (ns ws os : List ℕ) → net_refusal v ns ws os ≡ none → obstacle_bytes newest * obstacle_count v os ≤ obstacle_bytes newest * most_obstacles
prepared-few v ns ws os e = omega (arith, (net-right v ns ws os e).sized.few_obstacles)
