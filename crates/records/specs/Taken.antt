-- One wire more: from the records of the nodes below i, what taking node i with its wire leaves is the records of the nodes up to i, and the rest of the buffer stays.
-- Assumes nothing.
use Rattle.std.specs.Prelude.{ℕ, ◌+◌, ◌-◌, ◌*◌, ◌^◌, ◌≤◌, ◌<◌, ◌≡◌, true, false, ◌&&◌, List, ◌++◌, drop, set, ltb, leb}
use Rattle.std.proofs.Math.Path.{sym}
use Rattle.std.proofs.Common.{◌∙◌, ap, ⊎_elim, append_assoc, arith, length-append, length-drop, take-append-drop, get_or-set_same, get_or-set_other, take_at, drop_at, drop-drop}
use Rattle.std.proofs.Math.ListN.{length, get_or, get_or-append}
use Rattle.std.proofs.lemmas.List.{drop-append-le}
use borrow.Author.Tests.{lt-ltb, le-ltb, eq-eqb}
use Rattle.laws.specs.Sum.{χ}
use Rattle.laws.specs.Sums.{last_or_below}
use Rattle.laws.specs.Numbers.{Bytes}
use Rattle.laws.specs.Lists.{over}
use Rattle.laws.specs.Place.{place, place-front, place-behind}
use Rattle.laws.specs.Gather.{gather}
use Rattle.net.specs.Layout.{record_bytes, most_layers}
use Rattle.net.specs.Net.{node_count, node_flags, wire_parent, wire_layer, wire_factor}
use Rattle.net.specs.Stage.{Stage}
use Rattle.net.specs.NoClearance.{stage_of}
use Rattle.net.specs.Formed.{Formed}
use Rattle.pieces.specs.Piece.{Points}
use Rattle.pieces.specs.Inside.{Inside}
use Rattle.pieces.specs.Name.{cut_at, first_jumper, last_jumper, lowest_node}
use Rattle.pieces.specs.Lowest.{joins-yes, cut_apart, absent-apart, lowest_node-up, lowest_node-stop, lowest_node-≤, lowest_node_again}
use Rattle.pieces.specs.Legal.{entry_position}
use Rattle.pieces.specs.JumperList.{entry_count, set_of}
use Rattle.pieces.specs.Report.{node_names, stretch_names, report_of}
use Rattle.pieces.specs.FirstNodes.{first_records}
use Rattle.lists.specs.Entries.{list_set_free}
use Rattle.lists.specs.EntriesOfWire.{OfWire, of_wire_first, of_wire_last}
use Rattle.pieces.specs.FirstNodesLaws.{all-kept}
use Rattle.records.specs.Record.{with_harm, node_fields, NodeRecord, joined, stretches_fields}
use Rattle.records.specs.ListRight.{ListRight, ListAccepted}
use Rattle.records.specs.WireSums.{weight_below, flags_below, layers_below, record_below}
use Rattle.records.specs.FirstRecords.{stretch_bytes, records_below, stretch_bytes_length, records-length, record_place_next, record_place-≤, record_place_end, first-records}
use Rattle.records.specs.Joined.{node_record_stands, layers_small, record_there}
use Rattle.records.specs.RecordBytes.{fields-length, joined_above_length}
use Rattle.records.specs.Stretches.{stretches-length, stretch-bytes}
use Rattle.records.specs.OneWire.{absent_wire, uncut-wire, cut-wire, above-inside}
use Rattle.records.specs.Wire.{WireReady, joined_above, joined_wire, parted_wire}
use Rattle.records.specs.ListRights.{formed_of, inside_of, free_of, rising_of, range_of, present_is, flags_of, entries-cut, wire_ready}
use Rattle.records.specs.WeightFits.{below-fits}
use Rattle.records.specs.Held.{record_place, RecordsHeld, HeldBelow}

-- ---- a record in the front of a list is joined to there
module _ (limit weight flags layers : ℕ) where
  joined_length : (r : List ℕ) → length (joined limit weight flags layers r) ≡ record_bytes
  unfolding joined
  joined_length r = fields-length _ _ _ _ _

  joined-front : (r x : List ℕ) → record_bytes ≤ length r → joined limit weight flags layers (r ++ x) ≡ joined limit weight flags layers r
  unfolding joined
  joined-front r x h =
      rw (same 0 (omega arith), same 3 (omega arith), same 4 (omega arith), same 5 (omega arith), same 6 (omega arith), same 7 (omega arith), same 8 (omega arith), same 9 (omega arith))
    where
      same : (n : ℕ) → n < record_bytes → get_or (r ++ x) n 0 ≡ get_or r n 0
      same n p = get_or-append r x 0 n (omega arith)

  module _ (above : ℕ) (p : List ℕ) (h : above + record_bytes ≤ length p) where
    above-front : (r : List ℕ) → joined_above limit above weight flags layers (p ++ r) ≡ joined_above limit above weight flags layers p ++ r
    above-front r =
        let n = length-drop above p in
        let m = joined_length (drop above p) in
        rw (drop-append-le above p r (omega arith), joined-front (drop above p) r (omega arith))
        (place-front above (joined limit weight flags layers (drop above p)) p r (omega arith))

-- ---- the records that are held
module _ (s : Stage) (limit : ℕ) (J : Points) (formed : Formed s) (inside : Inside s J) where
  held_none : (places out : List ℕ) → RecordsHeld s limit J 0 places 0 out
  unfolding records_below gather
  held_none places out =
      let e = first-records s limit J formed inside 0 in
      record { end = sym (ap length e); records = sym e; placed = λ j p. absurd (native.Mathlib.Nat.lt_irrefl 0 (omega arith)) }

  module _ {n at : ℕ} {places out : List ℕ} (held : RecordsHeld s limit J n places at out) where
    held-end : at ≡ record_place s J n
    held-end = held.end ∙ (ap length (first-records s limit J formed inside n) ∙ records-length s limit J n n)

    held-split : out ≡ records_below s limit J n n ++ drop at out
    held-split = sym (take-append-drop at out) ∙ rw (held.records ∙ first-records s limit J formed inside n)

    -- those of one node more
    held_next : {places' out' : List ℕ} (at' x : ℕ) (front : List ℕ) → n < length places → x ≡ record_place s J (lowest_node s J n) → at' ≡ length front →
        records_below s limit J (n + 1) (n + 1) ≡ front → places' ≡ set places n x → out' ≡ front ++ drop at' out →
        RecordsHeld s limit J (n + 1) places' at' out' × (drop at' out' ≡ drop at' out)
    held_next at' x front room named end e p o =
        let f = first-records s limit J formed inside (n + 1) ∙ e in
        rw (p, o) (
          record {
            end = end ∙ sym (ap length f);
            records = take_at front (drop at' out) at' (sym end) ∙ sym f;
            placed = λ j l.
                ⊎_elim
                (λ q. rw q (get_or-set_same places n x 0 room ∙ named))
                (λ q. get_or-set_other places n j x 0 (λ z. omega arith) ∙ held.placed j q)
                (last_or_below j n (omega arith));
          },
          drop_at front (drop at' out) at' (sym end),
        )

-- ---- what taking wire i may rely on; node i's flags are f
record StageReady (s : Stage) (limit : ℕ) (J : Points) (i f : ℕ) (places : List ℕ) (at : ℕ) (out : List ℕ) : Type 0 where
  formed : Formed s
  inside : Inside s J
  flags : f ≡ χ (s.gate i) 1 + χ (s.source i) 2
  range : s.present i ≡ true → (1 ≤ s.layer i) × (s.layer i ≤ most_layers)
  fits : (h : ℕ) → weight_below s J i h < 2 ^ 32
  below : i < s.nodes
  room : i < length places
  fit : length (report_of s limit J) ≤ length out
  held : RecordsHeld s limit J i places at out

module _ {s : Stage} {limit : ℕ} {J : Points} {i f : ℕ} {places : List ℕ} {at : ℕ} {out : List ℕ} (t : StageReady s limit J i f places at out) where
  ready_end : at ≡ record_place s J i
  ready_end = held-end s limit J t.formed t.inside t.held

  ready_length : length (records_below s limit J i i) ≡ at
  ready_length = records-length s limit J i i ∙ sym ready_end

  ready_split : out ≡ records_below s limit J i i ++ drop at out
  ready_split = held-split s limit J t.formed t.inside t.held

  -- where node i begins a piece
  module _ (own : lowest_node s J i ≡ i) where
    own_name : length (node_names s J i) ≡ 1
    unfolding node_names
    own_name = rw (eq-eqb (lowest_node s J i) i own)

    own_room : at + record_bytes * (1 + length (stretch_names s J i)) ≤ length out
    own_room =
        omega (arith, t.fit, own_name, ready_end, record_place_next s J i, record_place-≤ s J (i + 1) s.nodes (omega (arith, t.below)), record_place_end s limit J)

    own-place : at ≡ record_place s J (lowest_node s J i)
    own-place = ready_end ∙ ap (record_place s J) (sym own)

  -- an absent wire
  module _ (absent : s.present i ≡ false) where
    absent-own : lowest_node s J i ≡ i
    absent-own = lowest_node-stop s J t.formed i (absent-apart s J i absent)

    held-absent : {places' out' : List ℕ} (r : ℕ) → r ≡ at + record_bytes → places' ≡ set places i at → out' ≡ place at (node_fields limit i 0 f 0) out →
        RecordsHeld s limit J (i + 1) places' r out' × (drop r out' ≡ drop r out)
    held-absent r re p o =
        let before = records_below s limit J i i in
        let q = node_fields limit i 0 f 0 in
        let m = ready_length in
        let n = length-append before q in
        let z : at + length q ≡ r = let a = fields-length i 0 0 (with_harm limit 0 f) 0 in omega arith in
        held_next s limit J t.formed t.inside t.held r at (before ++ q) t.room (own-place absent-own) (omega arith)
        (absent_wire s limit J t.formed t.inside i f t.flags t.range t.fits absent) p
        (o ∙ (ap (place at q) ready_split ∙ (place-behind at q before out m ∙ rw z)))

  -- a wire that the stage has
  module _ (present : s.present i ≡ true) where
    above_is : get_or places (s.parent i) 0 ≡ record_place s J (lowest_node s J (s.parent i))
    above_is = t.held.placed (s.parent i) (t.formed.below i present)

    above_low : get_or places (s.parent i) 0 + record_bytes ≤ length (records_below s limit J i i)
    above_low =
        omega (arith, above_is, records-length s limit J i i, above-inside s limit J t.formed t.inside i f t.flags t.range t.fits present)

    -- the record of its parent's piece stands in the buffer
    above-room : get_or places (s.parent i) 0 + record_bytes ≤ length out
    above-room = omega (arith, above_low, ap length ready_split ∙ length-append (records_below s limit J i i) (drop at out))

    above-stands : NodeRecord (drop (get_or places (s.parent i) 0) out)
    above-stands =
        let h = lowest_node s J (s.parent i) in
        let less : h < i = omega (arith, lowest_node-≤ s J t.formed (s.parent i), t.formed.below i present) in
        let there = record_there s limit J i h i less (lowest_node_again s J t.formed (s.parent i)) in
        let e : drop (get_or places (s.parent i) 0) out ≡ record_below s limit J i h ++ (there.0 ++ drop at out) =
        ap (drop (get_or places (s.parent i) 0)) ready_split
        ∙ (drop-append-le (get_or places (s.parent i) 0) (records_below s limit J i i) (drop at out) (omega (arith, above_low))
        ∙ rw (above_is, there.1) (append_assoc (record_below s limit J i h) there.0 (drop at out))) in
        rw e (node_record_stands limit h (weight_below s J i h) (flags_below s J i h) (layers_below s J i h) (there.0 ++ drop at out) (layers_small s J i h))

    held-joined : {places' out' : List ℕ} → cut_at s J i ≡ false → places' ≡ set places i (get_or places (s.parent i) 0) →
        out' ≡ joined_above limit (get_or places (s.parent i) 0) (s.len i * s.factor i) f (χ (ltb 0 (s.len i)) (2 ^ (s.layer i - 1))) out →
        RecordsHeld s limit J (i + 1) places' at out' × (drop at out' ≡ drop at out)
    held-joined uncut p o =
        let above = get_or places (s.parent i) 0 in
        let w = s.len i * s.factor i in
        let l = χ (ltb 0 (s.len i)) (2 ^ (s.layer i - 1)) in
        let before = records_below s limit J i i in
        held_next s limit J t.formed t.inside t.held at above (joined_above limit above w f l before) t.room
        (above_is ∙ ap (record_place s J) (sym (lowest_node-up s J t.formed i (joins-yes s J i present uncut))))
        (sym (joined_above_length limit above w f l before above_low ∙ ready_length))
        (rw above_is (uncut-wire s limit J t.formed t.inside i f t.flags t.range t.fits present uncut)) p
        (o ∙ (ap (joined_above limit above w f l) ready_split ∙ above-front limit w f l above before above_low (drop at out)))

    module _ (cut : cut_at s J i ≡ true) where
      cut-own : lowest_node s J i ≡ i
      cut-own = lowest_node-stop s J t.formed i (cut_apart s J i cut)

      held_cut : {places' out' : List ℕ} (first last r : ℕ) (stretches : List ℕ) → first ≡ first_jumper s J i → last ≡ last_jumper s J i → stretches ≡ stretch_bytes s limit J i →
          r ≡ at + (record_bytes + length stretches) → places' ≡ set places i at →
          out' ≡ place at (node_fields limit i (first * s.factor i) f (2 ^ (s.layer i - 1)) ++ stretches)
          (joined_above limit (get_or places (s.parent i) 0) ((s.len i - last) * s.factor i) 0 (2 ^ (s.layer i - 1)) out) →
          RecordsHeld s limit J (i + 1) places' r out' × (drop r out' ≡ drop r out)
      held_cut first last r stretches fe le se re p o =
          let above = get_or places (s.parent i) 0 in
          let w = (s.len i - last) * s.factor i in
          let l = 2 ^ (s.layer i - 1) in
          let before = records_below s limit J i i in
          let own = node_fields limit i (first * s.factor i) f l in
          let front = joined_above limit above w 0 l before in
          let m : length front ≡ at = joined_above_length limit above w 0 l before above_low ∙ ready_length in
          let n = length-append front (own ++ stretches) in
          let z : at + length (own ++ stretches) ≡ r =
          omega (arith, fields-length i 0 (first * s.factor i) (with_harm limit (first * s.factor i) f) l, length-append own stretches) in
          held_next s limit J t.formed t.inside t.held r at (front ++ (own ++ stretches)) t.room (own-place cut-own) (omega arith)
          (rw (above_is, fe, le, se) (cut-wire s limit J t.formed t.inside i f t.flags t.range t.fits present cut)) p
          (o
          ∙ (ap (λ (x : List ℕ). place at (own ++ stretches) (joined_above limit above w 0 l x)) ready_split
          ∙ (ap (place at (own ++ stretches)) (above-front limit w 0 l above before above_low (drop at out))
          ∙ (place-behind at (own ++ stretches) front out m ∙ rw z))))

-- ---- the same of an accepted net with an accepted list
pub record ListReady (v : ℕ) (ns ws list os : List ℕ) (k limit i : ℕ) (places : List ℕ) (at : ℕ) (out : List ℕ) : Type 0 where
  pub right : ListRight v ns ws k list os
  pub nodes : Bytes ns
  pub wires : Bytes ws
  pub below : i < node_count ns
  pub room : node_count ns ≤ length places
  pub fit : length (report_of (stage_of v ns ws os k) limit (set_of list)) ≤ length out
  pub held : RecordsHeld (stage_of v ns ws os k) limit (set_of list) i places at out

module _ {v : ℕ} {ns ws list os : List ℕ} {k limit i : ℕ} {places : List ℕ} {at : ℕ} {out : List ℕ} (t : ListReady v ns ws list os k limit i places at out) where
  stage_ready : StageReady (stage_of v ns ws os k) limit (set_of list) i (node_flags ns i) places at out
  unfolding stage_of
  stage_ready =
      record {
        formed = formed_of v ns ws list os k t.right;
        inside = inside_of v ns ws list os k t.right;
        flags = flags_of v ns ws list os k t.right i t.below;
        range = range_of v ns ws list os k t.right i;
        fits = λ h. below-fits v ns ws list os k t.right t.nodes t.wires i h (omega (arith, t.below));
        below = t.below;
        room = omega (arith, t.below, t.room);
        fit = t.fit;
        held = t.held;
      }

  -- an absent wire
  module _ (test : (ltb 0 i && leb (wire_layer ws i) k) ≡ false) where
    absent : (stage_of v ns ws os k).present i ≡ false
    absent = present_is v ns ws list os k t.right i t.below ∙ test

    pub absent-room : at + record_bytes ≤ length out
    absent-room = omega (arith, own_room stage_ready (absent-own stage_ready absent))

    pub taken_absent : {places' out' : List ℕ} (f r : ℕ) → f ≡ node_flags ns i → r ≡ at + record_bytes → places' ≡ set places i at →
        out' ≡ place at (node_fields limit i 0 f 0) out →
        RecordsHeld (stage_of v ns ws os k) limit (set_of list) (i + 1) places' r out' × (drop r out' ≡ drop r out)
    taken_absent f r fe re p o = held-absent stage_ready absent r re p (o ∙ rw fe)

  -- a wire that the stage has, with its entries
  module _ (test : (ltb 0 i && leb (wire_layer ws i) k) ≡ true) where
    present : (stage_of v ns ws os k).present i ≡ true
    present = present_is v ns ws list os k t.right i t.below ∙ test

    pub taken_ready : WireReady ns ws i places out
    unfolding stage_of
    taken_ready =
        wire_ready ns ws list k (v, os, t.right) i t.below (omega (arith, t.below, t.room)) (above-room stage_ready present) (above-stands stage_ready present) test

    module _ (a b : ℕ) (entries : OfWire list (entry_count list) i a b) where
      pub taken_joined : {places' out' : List ℕ} → a ≡ b → places' ≡ set places i (get_or places (wire_parent ws i) 0) → out' ≡ joined_wire limit ns ws i places out →
          RecordsHeld (stage_of v ns ws os k) limit (set_of list) (i + 1) places' at out' × (drop at out' ≡ drop at out)
      unfolding stage_of
      taken_joined e = held-joined stage_ready present (entries-cut v ns ws list os k t.right i a b entries ∙ le-ltb a b (omega arith))

      module _ (some : a < b) where
        cut : cut_at (stage_of v ns ws os k) (set_of list) i ≡ true
        cut = entries-cut v ns ws list os k t.right i a b entries ∙ lt-ltb a b some

        abbrev stretches : List ℕ
        stretches = stretches_fields list i (wire_factor ws i) (wire_layer ws i) a (b - a - 1)

        same-stretches : stretches ≡ stretch_bytes (stage_of v ns ws os k) limit (set_of list) i
        same-stretches = stretch-bytes v ns ws list os k t.right limit i a b entries

        long : length stretches ≡ record_bytes * (b - a - 1)
        long = stretches-length list i (wire_factor ws i) (wire_layer ws i) a (b - a - 1)

        pub cut-room : at + record_bytes * (b - a) ≤ length out
        cut-room =
            omega (arith, own_room stage_ready (cut-own stage_ready present cut), long, ap length same-stretches, stretch_bytes_length (stage_of v ns ws os k) limit (set_of list) i)

        pub taken_cut : {places' out' : List ℕ} (r : ℕ) → r ≡ at + record_bytes * (b - a) → places' ≡ set places i at →
            out' ≡ parted_wire limit ns ws list i a b places at out →
            RecordsHeld (stage_of v ns ws os k) limit (set_of list) (i + 1) places' r out' × (drop r out' ≡ drop r out)
        unfolding stage_of
        taken_cut r re =
            let free = free_of v ns ws list os k t.right in
            let rising = rising_of v ns ws list os k t.right in
            held_cut stage_ready present cut (entry_position list a) (entry_position list (b - 1)) r stretches
            (sym (of_wire_first (stage_of v ns ws os k) list (entry_count list) free rising i a b entries some))
            (sym (of_wire_last (stage_of v ns ws os k) list (entry_count list) free rising i a b entries some))
            same-stretches (omega (arith, long))

-- ---- for whatever obstacles they are accepted with
pub taken_none : (ns ws list : List ℕ) (k limit : ℕ) (places out : List ℕ) → HeldBelow ns ws k list limit 0 places 0 out
taken_none ns ws list k limit places out v os j =
    held_none (stage_of v ns ws os k) limit (set_of list) (formed_of v ns ws list os k j) (inside_of v ns ws list os k j) places out

pub taken_wire : {ns ws list : List ℕ} {k limit n at : ℕ} {places out : List ℕ} {D : Type 0} → ListAccepted ns ws k list →
    ((v : ℕ) (os : List ℕ) → ListRight v ns ws k list os → RecordsHeld (stage_of v ns ws os k) limit (set_of list) n places at out × D) →
    HeldBelow ns ws k list limit n places at out × D
taken_wire accepted t = (λ v os j. (t v os j).0, (t accepted.0 accepted.1 accepted.2).1)

-- behind the records the buffer is as it was at first
pub taken_rest : {ns ws list : List ℕ} {k limit n at r : ℕ} {places out places' out' : List ℕ} (out₀ : List ℕ) → ListAccepted ns ws k list →
    HeldBelow ns ws k list limit n places at out → HeldBelow ns ws k list limit (n + 1) places' r out' → drop at out ≡ drop at out₀ → drop r out' ≡ drop r out →
    drop r out' ≡ drop r out₀
taken_rest {ns} {ws} {list} {k} {limit} {n} {at} {r} {places} {out} out₀ accepted held held' before same =
    let v = accepted.0 in
    let os = accepted.1 in
    let j = accepted.2 in
    let s = stage_of v ns ws os k in
    let formed = formed_of v ns ws list os k j in
    let inside = inside_of v ns ws list os k j in
    let e : at + (r - at) ≡ r =
    omega (arith, held-end s limit (set_of list) formed inside (held v os j), held-end s limit (set_of list) formed inside (held' v os j), record_place-≤ s (set_of list) n (n + 1) (omega arith)) in
    let later : (l : List ℕ) → drop (r - at) (drop at l) ≡ drop r l = λ l. drop-drop (r - at) at l ∙ rw e in
    same ∙ (sym (later out) ∙ (ap (drop (r - at)) before ∙ later out₀))

pub taken_all : (v : ℕ) (ns ws list os : List ℕ) (k limit : ℕ) → ListRight v ns ws k list os → (places : List ℕ) (at : ℕ) (out out₀ : List ℕ) →
    RecordsHeld (stage_of v ns ws os k) limit (set_of list) (node_count ns) places at out → drop at out ≡ drop at out₀ →
    out ≡ over (report_of (stage_of v ns ws os k) limit (set_of list)) out₀
unfolding stage_of
taken_all v ns ws list os k limit j places at out out₀ held same =
    let s = stage_of v ns ws os k in
    let e : first_records s limit (set_of list) (node_count ns) ≡ report_of s limit (set_of list) =
    all-kept s limit (set_of list) (formed_of v ns ws list os k j) (λ i t y. (list_set_free s list j.listed i t y).present) in
    sym (take-append-drop at out) ∙ rw (held.records ∙ e, same, held.end ∙ ap length e)
