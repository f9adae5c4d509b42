-- The records of the net restricted to its first n nodes, wire by wire.
-- Assumes nothing.
use Prim.Native.Nat.{ℕ, zero, suc, ◌+◌, ◌*◌, ◌≤◌, ◌<◌}
use Rattle.std.specs.Prelude.{◌≡◌, ◌&&◌, cond, length, eqb}
use Rattle.std.proofs.Math.Path.{refl, sym}
use Rattle.std.proofs.Common.{◌∙◌, arith, add-one, ltb-true}
use Rattle.std.proofs.Math.Bool.{Bool}
use mathlib.Core.List.{List, [], ◌++◌, append-nil, flat_map}
use Rattle.std.proofs.Math.ListN.{length-append}
use Rattle.std.proofs.Math.Dec.{ltb}
use Rattle.laws.specs.Sums.{by, and_left, and_right, sum_more}
use Rattle.laws.specs.Gather.{only, gather}
use Rattle.laws.specs.Gathers.{length-gather, gather_ap, flat_append, flat_gather}
use Rattle.net.specs.Layout.{record_bytes}
use Rattle.net.specs.Stage.{Stage}
use Rattle.net.specs.Formed.{Formed}
use Rattle.pieces.specs.Piece.{Points}
use Rattle.pieces.specs.Inside.{Inside}
use Rattle.pieces.specs.Name.{last_jumper, lowest_node, name}
use Rattle.pieces.specs.Report.{node_names, stretch_names, piece_names, record_of, report_of}
use Rattle.pieces.specs.Reports.{record_list_length, report_length}
use Rattle.pieces.specs.FirstNodes.{first_nodes, on_first_wires, first_records}
use Rattle.pieces.specs.FirstNodesLaws.{kept_node_names, kept_stretch_names}
use Rattle.records.specs.Record.{fields}
use Rattle.records.specs.Held.{record_place}
use Rattle.records.specs.WireSums.{record_below}
use Rattle.records.specs.KeptRecords.{kept_node_record, kept_stretch_record}

-- the record at node k, if it is the lowest of its piece, from the nodes and wires below n
unfoldable pub record_at : Stage → ℕ → Points → ℕ → ℕ → List ℕ
record_at s limit J n k = cond (eqb (lowest_node s J k) k) (record_below s limit J n k) []

-- the records of wire k's stretches
unfoldable pub stretch_bytes : Stage → ℕ → Points → ℕ → List ℕ
stretch_bytes s limit J k = flat_map (record_of s limit J) (stretch_names s J k)

-- those of the nodes and wires below m, from the nodes and wires below n
unfoldable pub records_below : Stage → ℕ → Points → ℕ → ℕ → List ℕ
records_below s limit J n m = gather m (λ k. record_at s limit J n k ++ stretch_bytes s limit J k)

module _ (s : Stage) (limit : ℕ) (J : Points) where
  pub record_at_length : (n k : ℕ) → length (record_at s limit J n k) ≡ record_bytes * length (node_names s J k)
  unfolding record_at node_names fields
  record_at_length n k = by (eqb (lowest_node s J k) k) (λ y. rw y) (λ z. rw z)

  pub stretch_bytes_length : (k : ℕ) → length (stretch_bytes s limit J k) ≡ record_bytes * length (stretch_names s J k)
  unfolding stretch_bytes
  stretch_bytes_length k = record_list_length s limit J (stretch_names s J k)

  pub records-length : (n m : ℕ) → length (records_below s limit J n m) ≡ record_place s J m
  unfolding records_below record_place gather
  records-length n zero = refl
  records-length n (suc m) =
      let a = records-length n m in
      let b = record_at_length n m in
      let c = stretch_bytes_length m in
      simp length-append (omega arith)

-- a record's place is the end of the records before it
pub record_place_next : (s : Stage) (J : Points) (k : ℕ) → record_place s J (k + 1) ≡ record_place s J k + record_bytes * (length (node_names s J k) + length (stretch_names s J k))
unfolding record_place gather
record_place_next s J k = rw (add-one k) (simp length-append (omega arith))

pub record_place-≤ : (s : Stage) (J : Points) (k m : ℕ) → k ≤ m → record_place s J k ≤ record_place s J m
unfolding record_place
record_place-≤ s J k m p =
    let a = sum_more k m (λ i. length (node_names s J i ++ stretch_names s J i)) p in
    simp length-gather (omega arith)

pub record_place_end : (s : Stage) (limit : ℕ) (J : Points) → record_place s J s.nodes ≡ length (report_of s limit J)
unfolding record_place piece_names
record_place_end s limit J = sym (report_length s limit J)

-- ---- they are the records of the net restricted to its first n nodes
module _ (s : Stage) (limit : ℕ) (J : Points) (formed : Formed s) (inside : Inside s J) (n : ℕ) where
  first_record_at : (k : ℕ) → k < n → flat_map (record_of (first_nodes n s) limit (on_first_wires n J)) (node_names (first_nodes n s) (on_first_wires n J) k) ≡ record_at s limit J n k
  unfolding record_at node_names flat_map
  first_record_at k p =
      rw (kept_node_names s J n formed k p)
      (by (eqb (lowest_node s J k) k)
      (λ y. rw y (append-nil (record_of (first_nodes n s) limit (on_first_wires n J) (name k 0)) ∙ kept_node_record s J formed n limit inside k))
      (λ z. rw z))

  first_stretch_bytes : (k : ℕ) → k < n → flat_map (record_of (first_nodes n s) limit (on_first_wires n J)) (stretch_names (first_nodes n s) (on_first_wires n J) k) ≡ stretch_bytes s limit J k
  unfolding stretch_bytes stretch_names flat_map
  first_stretch_bytes k p =
      rw (kept_stretch_names s J n formed k p)
      (flat_gather (record_of (first_nodes n s) limit (on_first_wires n J)) (s.len k) (λ t. only (begins t) (name k t))
      ∙ (gather_ap (s.len k) (λ t l. same t) ∙ sym (flat_gather (record_of s limit J) (s.len k) (λ t. only (begins t) (name k t)))))
    where
      begins : ℕ → Bool
      begins t = s.present k && (J k t && ltb t (last_jumper s J k))

      same : (t : ℕ) → flat_map (record_of (first_nodes n s) limit (on_first_wires n J)) (only (begins t) (name k t)) ≡ flat_map (record_of s limit J) (only (begins t) (name k t))
      same t =
          by (begins t)
          (λ y.
          let present = and_left (s.present k) (J k t && ltb t (last_jumper s J k)) y in
          let j = and_right (s.present k) (J k t && ltb t (last_jumper s J k)) y in
          let less = ltb-true t (last_jumper s J k) (and_right (J k t) (ltb t (last_jumper s J k)) j) in
          rw (y, kept_stretch_record s J formed n limit inside k t p present (and_left (J k t) (ltb t (last_jumper s J k)) j) less))
          (λ z. rw z)

pub first-records : (s : Stage) (limit : ℕ) (J : Points) → Formed s → Inside s J → (n : ℕ) → first_records s limit J n ≡ records_below s limit J n n
unfolding first_nodes report_of piece_names records_below
first-records s limit J formed inside n =
    let records = record_of (first_nodes n s) limit (on_first_wires n J) in
    let nodes = node_names (first_nodes n s) (on_first_wires n J) in
    let stretches = stretch_names (first_nodes n s) (on_first_wires n J) in
    flat_gather records n (λ k. nodes k ++ stretches k)
    ∙ gather_ap n (λ k p.
    flat_append records (nodes k) (stretches k)
    ∙ rw (first_record_at s limit J formed inside n k p, first_stretch_bytes s limit J formed inside n k p))
