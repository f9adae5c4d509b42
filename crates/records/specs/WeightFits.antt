-- The weight of every group of steps of an accepted net is below 2 ^ 32, so a record's weight field holds it whole.
-- Assumes nothing.
use Rattle.std.specs.Prelude.{ℕ, suc, ◌+◌, ◌-◌, ◌*◌, ◌^◌, ◌≤◌, ◌<◌, ◌≡◌, List}
use Rattle.std.proofs.Common.{arith}
use Rattle.laws.specs.Bytes.{le32}
use Rattle.laws.specs.Numbers.{Bytes, le32-bytes32}
use Rattle.laws.specs.Sum.{χ, sum}
use Rattle.laws.specs.Sums.{by, χ-≤, sum_bound, sum_more}
use Rattle.net.specs.Layout.{wire_bytes}
use Rattle.net.specs.Limits.{factor_bound, wire_weight_bound}
use Rattle.net.specs.Net.{node_count, wire_factor, wire_length}
use Rattle.net.specs.Stage.{Stage}
use Rattle.net.specs.NoClearance.{stage_of}
use Rattle.net.specs.Accepted.{NetRight, present-positive, present-inside}
use Rattle.points.specs.Geometry.{checked_of, length-small}
use Rattle.pieces.specs.Piece.{Points, step, Group, weight_of}
use Rattle.pieces.specs.Name.{Name, name, named}
use Rattle.pieces.specs.Weight.{wire_adds}
use Rattle.pieces.specs.JumperList.{set_of}
use Rattle.pieces.specs.Report.{record_of}
use Rattle.records.specs.WireSums.{weight_below}
use Rattle.records.specs.NodeRecords.{class_weighs}
use Rattle.records.specs.ListRight.{ListRight}
use Rattle.records.specs.ListRights.{inside_of, product_small}

module _ (v : ℕ) (ns ws os : List ℕ) (right : NetRight v ns ws os) (nodes : Bytes ns) (wires : Bytes ws) (k : ℕ) (P : Group) where
  wire-fits : (i : ℕ) →
      χ ((stage_of v ns ws os k).present i) (sum (wire_length ns ws i) (λ t. χ (P (step i (suc t))) (wire_factor ws i))) < wire_weight_bound
  wire-fits i =
      by ((stage_of v ns ws os k).present i)
      (λ y.
      let checked = checked_of right i (present-positive v ns ws os k i y) (present-inside v ns ws os k i y) in
      let len = length-small ns ws i nodes checked in
      let factor : wire_factor ws i < factor_bound = omega (arith, wires (wire_bytes * (i - 1) + 2)) in
      let most = sum_bound (wire_length ns ws i) (wire_factor ws i) {f = λ t. χ (P (step i (suc t))) (wire_factor ws i)} (λ t p. χ-≤ (P (step i (suc t))) (wire_factor ws i)) in
      rw y (omega (arith, product_small (wire_length ns ws i) (wire_factor ws i) len factor)))
      (λ z. rw z (omega arith))

  pub weight-fits : weight_of (stage_of v ns ws os k) P < 2 ^ 32
  unfolding weight_of stage_of
  weight-fits =
      let most =
      sum_bound (node_count ns) (wire_weight_bound - 1)
      {f = λ i. χ ((stage_of v ns ws os k).present i) (sum (wire_length ns ws i) (λ t. χ (P (step i (suc t))) (wire_factor ws i)))} (λ i p. let one = wire-fits i in omega arith) in
      omega (arith, right.sized.few_nodes)

-- so is what the wires below i give to a piece with nodes
pub below-fits : (v : ℕ) (ns ws list os : List ℕ) (k : ℕ) → ListRight v ns ws k list os → Bytes ns → Bytes ws → (i h : ℕ) → i ≤ node_count ns →
    weight_below (stage_of v ns ws os k) (set_of list) i h < 2 ^ 32
unfolding weight_below stage_of
below-fits v ns ws list os k j nodes wires i h p =
    let s = stage_of v ns ws os k in
    let J = set_of list in
    let whole = class_weighs s J (inside_of v ns ws list os k j) h in
    let fits = weight-fits v ns ws os j.right nodes wires k (named s J (name h 0)) in
    let less = sum_more i (node_count ns) (λ w. χ (s.present w) (wire_adds s J h w)) p in
    omega arith

-- so the weight field of a record is the weight of its piece
pub weight_field : (s : Stage) (limit : ℕ) (J : Points) (n : Name) → weight_of s (named s J n) < 2 ^ 32 →
    le32 (record_of s limit J n) 3 ≡ weight_of s (named s J n)
unfolding record_of
weight_field s limit J n h = le32-bytes32 (weight_of s (named s J n)) h
