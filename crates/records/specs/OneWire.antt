-- What one node with its wire changes in the records of the nodes and wires below it: what comes behind them, and which record is written anew.
-- Assumes nothing.
use Prim.Native.Nat.{ℕ, ◌+◌, ◌-◌, ◌*◌, ◌^◌, ◌≤◌, ◌<◌}
use Rattle.std.specs.Prelude.{◌≡◌, true, false, ◌&&◌, ◌≢◌, drop, ltb, eqb}
use Rattle.std.proofs.Math.Path.{refl, ap}
use Rattle.std.proofs.Common.{sym, ◌∙◌, add-one, lt-ltb, eqb-true, eq-eqb, ne_eqb}
use mathlib.Core.List.{List, [], ◌++◌, append-nil, flat_map}
use native.Mathlib.Omega.{arith}
use Rattle.std.proofs.Math.ListN.{length}
use Rattle.std.specs.Int.Bits.{bit_or, or_zero_l, or_zero_r}
use Rattle.laws.specs.Sum.{χ}
use Rattle.laws.specs.Sums.{by, no_both}
use Rattle.laws.specs.Gather.{gather}
use Rattle.laws.specs.Gathers.{gather_ap, gather_none}
use Rattle.laws.specs.Place.{place, gather-place}
use Rattle.net.specs.Layout.{record_bytes, most_layers}
use Rattle.net.specs.Stage.{Stage}
use Rattle.net.specs.Formed.{Formed}
use Rattle.pieces.specs.Piece.{Points}
use Rattle.pieces.specs.Inside.{Inside}
use Rattle.pieces.specs.Name.{cut_at, first_jumper, last_jumper, lowest_node}
use Rattle.pieces.specs.Report.{node_names, stretch_names, record_of}
use Rattle.pieces.specs.Lowest.{joins-yes, cut_apart, absent-apart, lowest_node-up, lowest_node-stop, lowest_node-≤, lowest_node_again}
use Rattle.pieces.specs.Jumpers.{uncut-none, first-jumper, first-last}
use Rattle.pieces.specs.Weight.{wire_adds}
use Rattle.records.specs.Record.{fields, node_fields, joined}
use Rattle.records.specs.WireSums.{steps_in, weight_below, flags_below, layers_below, record_below}
use Rattle.records.specs.WireMore.{weight-next, flags-next, layers_next, uncut-adds, uncut-steps, cut-adds, cut-steps, other_adds, other_steps, weight-none, flags-none, layers_none}
use Rattle.records.specs.Held.{record_place}
use Rattle.records.specs.FirstRecords.{record_at, stretch_bytes, records_below, records-length, record_place_next, record_place-≤}
use Rattle.records.specs.Joined.{joined-fields, flags-small, layers_small, record_at_here, record_at_none, record_there}

module _ (s : Stage) (limit : ℕ) (J : Points) (i : ℕ) where
  records-next : records_below s limit J (i + 1) (i + 1) ≡ records_below s limit J (i + 1) i ++ (record_at s limit J (i + 1) i ++ stretch_bytes s limit J i)
  unfolding records_below gather
  records-next = ap (λ (n : ℕ). gather n (λ k. record_at s limit J (i + 1) k ++ stretch_bytes s limit J k)) (add-one i)

  same_bytes : (h : ℕ) → (lowest_node s J h ≡ h → record_below s limit J (i + 1) h ≡ record_below s limit J i h) → record_at s limit J (i + 1) h ≡ record_at s limit J i h
  unfolding record_at
  same_bytes h e = by (eqb (lowest_node s J h) h) (λ y. rw y (e (eqb-true (lowest_node s J h) h y))) (λ z. rw z)

  same_length : (h : ℕ) → length (record_below s limit J i h) ≡ length (record_below s limit J (i + 1) h)
  unfolding fields
  same_length h = refl

  no-stretches : ((t : ℕ) → (s.present i && (J i t && ltb t (last_jumper s J i))) ≡ false) → stretch_bytes s limit J i ≡ []
  unfolding stretch_bytes stretch_names flat_map
  no-stretches none = ap (flat_map (record_of s limit J)) (gather_none (s.len i) _ (λ t p. rw (none t)))

module _ (s : Stage) (limit : ℕ) (J : Points) (formed : Formed s) (inside : Inside s J) (i f : ℕ) (flags : f ≡ χ (s.gate i) 1 + χ (s.source i) 2)
    (range : s.present i ≡ true → (1 ≤ s.layer i) × (s.layer i ≤ most_layers)) (fits : (h : ℕ) → weight_below s J i h < 2 ^ 32)
  where
    -- a piece that has neither end of the wire keeps its record
    unchanged : (h : ℕ) → lowest_node s J i ≢ h → (s.present i ≡ true → lowest_node s J (s.parent i) ≢ h) → record_below s limit J (i + 1) h ≡ record_below s limit J i h
    unchanged h own above =
        let w : weight_below s J (i + 1) h ≡ weight_below s J i h =
        weight-next s J i h ∙ by (s.present i) (λ y. rw (y, other_adds s J i h own (above y)) (omega arith)) (λ z. rw z (omega arith)) in
        let g : flags_below s J (i + 1) h ≡ flags_below s J i h =
        flags-next s J i h f flags ∙ rw (ne_eqb (lowest_node s J i) h own) (or_zero_r (flags_below s J i h)) in
        let l : layers_below s J (i + 1) h ≡ layers_below s J i h =
        layers_next s J i h range
        ∙ by (s.present i)
        (λ y. rw (y, other_steps s J i h own (above y)) (or_zero_r (layers_below s J i h)))
        (λ z. rw z (or_zero_r (layers_below s J i h))) in
        rw (w, g, l)

    -- a piece whose lowest node is node i
    own_record : lowest_node s J i ≡ i → (w l : ℕ) → χ (s.present i) (wire_adds s J i i) ≡ w → χ (s.present i && steps_in s J i i) (2 ^ (s.layer i - 1)) ≡ l →
        record_at s limit J (i + 1) i ≡ node_fields limit i w f l
    own_record e w l we le =
        let a : weight_below s J (i + 1) i ≡ w = let n = weight-next s J i i in let z = weight-none s J formed i in omega arith in
        let b : flags_below s J (i + 1) i ≡ f =
        flags-next s J i i f flags ∙ rw (flags-none s J formed i, eq-eqb (lowest_node s J i) i e) (or_zero_l f) in
        let c : layers_below s J (i + 1) i ≡ l = layers_next s J i i range ∙ rw (layers_none s J formed i, le) (or_zero_l l) in
        record_at_here s limit J (i + 1) i e ∙ rw (a, b, c)

    -- of the records before, one is written anew
    one-joined : (h w g l : ℕ) → h < i → lowest_node s J h ≡ h →
        weight_below s J (i + 1) h ≡ weight_below s J i h + w → flags_below s J (i + 1) h ≡ bit_or (flags_below s J i h) g → layers_below s J (i + 1) h ≡ bit_or (layers_below s J i h) l →
        ((k : ℕ) → k < i → k ≢ h → record_below s limit J (i + 1) k ≡ record_below s limit J i k) →
        records_below s limit J (i + 1) i
        ≡ place (record_place s J h) (joined limit w g l (drop (record_place s J h) (records_below s limit J i i))) (records_below s limit J i i)
    unfolding records_below
    one-joined h w g l p e we ge le others =
        let r = record_there s limit J i h i p e in
        let anew : joined limit w g l (drop (record_place s J h) (records_below s limit J i i)) ≡ record_below s limit J (i + 1) h =
        rw (
          r.1,
          joined-fields limit h (weight_below s J i h) (flags_below s J i h) (layers_below s J i h) w g l r.0 (fits h) (flags-small s J i h) (layers_small s J i h),
          we,
          ge,
          le,
        ) in
        let bytes : ℕ → ℕ → List ℕ = λ n k. record_at s limit J n k ++ stretch_bytes s limit J k in
        let front : (n : ℕ) → bytes n h ≡ record_below s limit J n h ++ stretch_bytes s limit J h = λ n. rw (record_at_here s limit J n h e) in
        rw (anew, ← records-length s limit J i h)
        (gather-place i h (bytes i) (bytes (i + 1)) (record_below s limit J i h) (record_below s limit J (i + 1) h) (stretch_bytes s limit J h) p (front i) (front (i + 1))
        (same_length s limit J i h)
        (λ k q ne. ap (λ (b : List ℕ). b ++ stretch_bytes s limit J k) (same_bytes s limit J i k (λ own. others k q ne))))

    -- the wire is absent: a record of weight 0
    pub absent_wire : s.present i ≡ false → records_below s limit J (i + 1) (i + 1) ≡ records_below s limit J i i ++ node_fields limit i 0 f 0
    unfolding records_below
    absent_wire z =
        let own = lowest_node-stop s J formed i (absent-apart s J i z) in
        let before : records_below s limit J (i + 1) i ≡ records_below s limit J i i =
        gather_ap i (λ k p.
        ap (λ (b : List ℕ). b ++ stretch_bytes s limit J k)
        (same_bytes s limit J i k (λ e. unchanged k (λ w. omega arith) (λ y. absurd (no_both y z))))) in
        let here = own_record own 0 0 (rw z) (rw z) in
        let none = no-stretches s limit J i (λ t. rw z) in
        records-next s limit J i ∙ rw (before, here, none, append-nil (node_fields limit i 0 f 0))

    module _ (present : s.present i ≡ true) where
      above-below : lowest_node s J (s.parent i) < i
      above-below = let a = lowest_node-≤ s J formed (s.parent i) in let b = formed.below i present in omega arith

      -- the wire has no jumper: its steps and the node's flags are joined to the record of its parent's piece
      pub uncut-wire : cut_at s J i ≡ false →
          records_below s limit J (i + 1) (i + 1)
          ≡ place (record_place s J (lowest_node s J (s.parent i)))
          (joined limit (s.len i * s.factor i) f (χ (ltb 0 (s.len i)) (2 ^ (s.layer i - 1))) (drop (record_place s J (lowest_node s J (s.parent i))) (records_below s limit J i i)))
          (records_below s limit J i i)
      uncut-wire u =
          let h = lowest_node s J (s.parent i) in
          let own : lowest_node s J i ≡ h = lowest_node-up s J formed i (joins-yes s J i present u) in
          let here = eq-eqb (lowest_node s J i) h own in
          let before =
          one-joined h (s.len i * s.factor i) f (χ (ltb 0 (s.len i)) (2 ^ (s.layer i - 1))) above-below (lowest_node_again s J formed (s.parent i))
          (weight-next s J i h ∙ rw (present, uncut-adds s J inside i h u, here))
          (flags-next s J i h f flags ∙ rw here)
          (layers_next s J i h range ∙ rw (present, uncut-steps s J inside i h u, here))
          (λ k p ne. unchanged k (λ w. ne (sym w ∙ own)) (λ y w. ne (sym w))) in
          let none = no-stretches s limit J i (λ t. rw (present, uncut-none s J inside i t u)) in
          let nothing = record_at_none s limit J (i + 1) i (λ w. let b = above-below in omega arith) in
          records-next s limit J i ∙ rw (before, nothing, none) (append-nil _)

      -- it has jumpers: the steps above the last are joined to that record; behind all, the node's record with those below the first, and the stretches
      pub cut-wire : cut_at s J i ≡ true →
          records_below s limit J (i + 1) (i + 1)
          ≡ place (record_place s J (lowest_node s J (s.parent i)))
          (joined limit ((s.len i - last_jumper s J i) * s.factor i) 0 (2 ^ (s.layer i - 1)) (drop (record_place s J (lowest_node s J (s.parent i))) (records_below s limit J i i)))
          (records_below s limit J i i)
          ++ (node_fields limit i (first_jumper s J i * s.factor i) f (2 ^ (s.layer i - 1)) ++ stretch_bytes s limit J i)
      cut-wire c =
          let h = lowest_node s J (s.parent i) in
          let p = above-below in
          let own = lowest_node-stop s J formed i (cut_apart s J i c) in
          let here = eq-eqb (lowest_node s J i) i own in
          let here' = ne_eqb (lowest_node s J i) h (λ w. omega arith) in
          let there = eq-eqb h h refl in
          let there' = ne_eqb h i (λ w. omega arith) in
          let low = (inside i (first_jumper s J i) (first-jumper s J inside i c)).0 in
          let high = first-last s J inside i c in
          let first = lt-ltb 0 (first_jumper s J i) low in
          let last = lt-ltb 0 (s.len i - last_jumper s J i) (omega arith) in
          let before =
          one-joined h ((s.len i - last_jumper s J i) * s.factor i) 0 (2 ^ (s.layer i - 1)) p (lowest_node_again s J formed (s.parent i))
          (weight-next s J i h ∙ rw (present, cut-adds s J inside i h c, here', there) (omega arith))
          (flags-next s J i h f flags ∙ rw here')
          (layers_next s J i h range ∙ rw (present, cut-steps s J inside i h c, here', there, last))
          (λ k q ne. unchanged k (λ w. omega arith) (λ y w. ne (sym w))) in
          let behind =
          own_record own (first_jumper s J i * s.factor i) (2 ^ (s.layer i - 1))
          (rw (present, cut-adds s J inside i i c, here, there') (omega arith))
          (rw (present, cut-steps s J inside i i c, here, first)) in
          records-next s limit J i ∙ rw (before, behind)

      -- the record of the parent's piece lies among those before
      pub above-inside : record_place s J (lowest_node s J (s.parent i)) + record_bytes ≤ record_place s J i
      unfolding node_names
      above-inside =
          let h = lowest_node s J (s.parent i) in
          let one : length (node_names s J h) ≡ 1 = rw (eq-eqb (lowest_node s J h) h (lowest_node_again s J formed (s.parent i))) in
          let a = record_place_next s J h in
          let b = record_place-≤ s J (h + 1) i (let p = above-below in omega arith) in
          omega arith
