-- What an accepted net with an accepted list gives the passes over its wires.
-- Assumes nothing.
use Rattle.std.specs.Prelude.{ℕ, ◌+◌, ◌-◌, ◌*◌, ◌≤◌, ◌<◌, ◌≡◌, true, ◌&&◌, List, length, get_or, drop, ltb, leb}
use Rattle.std.proofs.Common.{arith, mul-le-mul, lt-ltb, ltb-true}
use Rattle.laws.specs.Sum.{χ}
use Rattle.laws.specs.Sums.{and_left}
use Rattle.net.specs.Layout.{record_bytes, wire_bytes, most_nodes, most_layers}
use Rattle.net.specs.Limits.{length_bound, factor_bound, wire_weight_bound}
use Rattle.net.specs.Net.{node_count, node_flags, wire_parent, wire_layer, wire_length}
use Rattle.net.specs.NoClearance.{stage_of}
use Rattle.net.specs.Formed.{Formed}
use Rattle.points.specs.Geometry.{checked_of}
use Rattle.net.specs.Accepted.{formed, present-positive, present-inside}
use Rattle.pieces.specs.Inside.{Inside}
use Rattle.pieces.specs.Name.{cut_at}
use Rattle.pieces.specs.Legal.{entry_position}
use Rattle.pieces.specs.JumperList.{entry_count, set_of}
use Rattle.lists.specs.Entries.{EntriesFree, Rising, list_free, list_rising, list_set_inside}
use Rattle.lists.specs.EntriesOfWire.{OfWire, positions-rise, position-inside, of_wire_cut}
use Rattle.records.specs.WireMore.{flags_bits}
use Rattle.records.specs.ListRight.{ListRight, ListAccepted}
use Rattle.records.specs.Record.{NodeRecord}
use Rattle.records.specs.Wire.{WireAccepted, WireReady, EntriesReady}

module _ (v : ℕ) (ns ws list os : List ℕ) (k : ℕ) (j : ListRight v ns ws k list os) where
  pub formed_of : Formed (stage_of v ns ws os k)
  formed_of = formed v ns ws os j.right k

  pub inside_of : Inside (stage_of v ns ws os k) (set_of list)
  inside_of = list_set_inside (stage_of v ns ws os k) list j.listed

  pub free_of : EntriesFree (stage_of v ns ws os k) list (entry_count list)
  free_of = list_free (stage_of v ns ws os k) list j.listed

  pub rising_of : Rising list (entry_count list)
  rising_of = list_rising (stage_of v ns ws os k) list j.listed

  pub range_of : (i : ℕ) → (stage_of v ns ws os k).present i ≡ true → (1 ≤ wire_layer ws i) × (wire_layer ws i ≤ most_layers)
  range_of i p =
      let w = j.right.wire i (present-positive v ns ws os k i p) (present-inside v ns ws os k i p) in (w.layer_low, w.layer_high)

  pub present_is : (i : ℕ) → i < node_count ns → (stage_of v ns ws os k).present i ≡ (ltb 0 i && leb (wire_layer ws i) k)
  unfolding stage_of
  present_is i p = rw (lt-ltb i (node_count ns) p)

  pub flags_of : (i : ℕ) → i < node_count ns → node_flags ns i ≡ χ ((stage_of v ns ws os k).gate i) 1 + χ ((stage_of v ns ws os k).source i) 2
  unfolding stage_of
  flags_of i p = flags_bits (node_flags ns i) (j.right.flags i p)

  -- ---- the entries of a wire
  module _ (i a b : ℕ) (w : OfWire list (entry_count list) i a b) where
    pub entries-cut : cut_at (stage_of v ns ws os k) (set_of list) i ≡ ltb a b
    entries-cut = of_wire_cut (stage_of v ns ws os k) list (entry_count list) free_of rising_of i a b w

    -- only a present wire has any
    pub entries-present : a < b → (stage_of v ns ws os k).present i ≡ true
    entries-present l = rw (w.here a (omega arith) l) at (free_of a (omega (arith, w.inside))).present

    pub entry-inside : (e : ℕ) → a ≤ e → e < b → (1 ≤ entry_position list e) × (entry_position list e < wire_length ns ws i)
    unfolding stage_of
    entry-inside e p q = position-inside (stage_of v ns ws os k) list (entry_count list) free_of rising_of i a b w e p q

-- ---- what taking wire i may rely on
module _ (ns ws list : List ℕ) (k : ℕ) (accepted : ListAccepted ns ws k list) (i : ℕ) (h : i < node_count ns) where
  pub stored_of : wire_bytes * i ≤ length ws
  stored_of = omega (arith, accepted.2.right.sized.wires_length)

  pub node-small : i < most_nodes
  node-small = omega (arith, accepted.2.right.sized.few_nodes)

  -- a wire that the stage has
  pub wire_accepted : (ltb 0 i && leb (wire_layer ws i) k) ≡ true → WireAccepted ns ws i
  wire_accepted y =
      let j = accepted.2 in
      let n = ltb-true 0 i (and_left (ltb 0 i) (leb (wire_layer ws i) k) y) in
      let r = j.right.wire i n h in
      record { small = node-small; checked = checked_of j.right i n h; below = r.below; low = r.layer_low; high = r.layer_high }

  pub wire_ready : {places out : List ℕ} → i < length places → get_or places (wire_parent ws i) 0 + record_bytes ≤ length out →
      NodeRecord (drop (get_or places (wire_parent ws i) 0) out) → (ltb 0 i && leb (wire_layer ws i) k) ≡ true → WireReady ns ws i places out
  wire_ready room above stands y =
      let f = accepted.2.right.flags i h in
      record { wire = wire_accepted y; flags = omega arith; room = room; above = above; stands = stands }

  -- its entries
  pub entries_ready : (a b : ℕ) → OfWire list (entry_count list) i a b → a < b → EntriesReady ns ws list i a b
  entries_ready a b w some =
      let v = accepted.0 in
      let os = accepted.1 in
      let j = accepted.2 in
      record {
        some = some;
        inside = w.inside;
        first = (entry-inside v ns ws list os k j i a b w a (omega arith) some).1;
        last = (entry-inside v ns ws list os k j i a b w (b - 1) (omega arith) (omega arith)).1;
        rise = λ d p q.
            let r =
            positions-rise (stage_of v ns ws os k) list (entry_count list) (free_of v ns ws list os k j) (rising_of v ns ws list os k j) i a b w d (d + 1) p (omega arith) q in
            omega arith;
      }

-- ---- weights stay small
pub product_small : (a b : ℕ) → a < length_bound → b < factor_bound → a * b < wire_weight_bound
product_small a b p q =
    let a' : a ≤ 65535 = omega arith in let b' : b ≤ 255 = omega arith in omega (arith, mul-le-mul a' b')
