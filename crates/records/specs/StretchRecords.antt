-- The records of the stretches of a wire between its jumpers, from the entries of a jumper list.
-- Assumes nothing.
use Prim.Native.Nat.{ℕ, suc, ◌+◌, ◌-◌, ◌*◌, ◌^◌, ◌≤◌, ◌<◌}
use Rattle.std.specs.Prelude.{◌≡◌, true, false, ◌&&◌, List, [], ◌∷◌, ltb}
use Rattle.std.proofs.Common.{◌∙◌, ap, arith, ltb-true, lt-ltb, eqb-true, eq-eqb}
use Rattle.std.proofs.Math.Bool.{Bool}
use Rattle.std.proofs.Math.Dec.{eqb}
use Rattle.laws.specs.Sum.{any}
use Rattle.laws.specs.Sums.{and_left, and_right, and_intro, and_no_right, any-yes, any_none, any_some, highest-last, same_test}
use Rattle.laws.specs.Masks.{mask, mask_ap}
use Rattle.laws.specs.Gather.{gather}
use Rattle.laws.specs.Gathers.{gather-rising}
use Rattle.net.specs.Layout.{most_layers}
use Rattle.net.specs.Stage.{Stage}
use Rattle.net.specs.Formed.{Formed}
use Rattle.pieces.specs.Piece.{Points, node, step, has_gate, has_source, is_harmful}
use Rattle.pieces.specs.Real.{a_step}
use Rattle.pieces.specs.Inside.{Inside}
use Rattle.pieces.specs.Name.{first_jumper, last_jumper, named, name}
use Rattle.pieces.specs.Legal.{entry_position, listed}
use Rattle.pieces.specs.Weights.{stretch-weight}
use Rattle.pieces.specs.Jumpers.{first-least, last-most, number_mid, position_mid}
use Rattle.pieces.specs.Named.{named-yes, stretch_no_node, named-stretch}
use Rattle.pieces.specs.Report.{stretch_names, flags_of, has_layer, layers_of, record_of}
use Rattle.records.specs.Record.{fields}
use Rattle.records.specs.NodeRecords.{record_fields, layer-mask}
use Rattle.lists.specs.Entries.{EntriesFree, Rising}
use Rattle.lists.specs.EntriesOfWire.{OfWire, entry-jumper, jumper-entry, positions-rise, position-inside, of_wire_last}

-- ---- the record of the stretch between the consecutive jumpers p and q of wire i
module _ (s : Stage) (J : Points) (formed : Formed s) (inside : Inside s J)
    (i p q : ℕ) (present : s.present i ≡ true) (at_p : J i p ≡ true) (at-q : J i q ≡ true) (less : p < q)
    (none : (t : ℕ) → p < t → t < q → J i t ≡ false)
  where
    no_node : (k : ℕ) → named s J (name i p) (node k) ≡ false
    no_node k = stretch_no_node s J formed inside i p k (inside i p at_p).0

    stretch-flags : (limit : ℕ) → flags_of s limit (named s J (name i p)) ≡ 0
    unfolding flags_of is_harmful has_gate has_source
    stretch-flags limit =
        rw (any_none s.nodes (λ k. s.gate k && named s J (name i p) (node k)) (λ k l. and_no_right (s.gate k) (no_node k)), any_none s.nodes (λ k. s.source k && named s J (name i p) (node k)) (λ k l. and_no_right (s.source k) (no_node k)))

    first_step : named s J (name i p) (step i (suc p)) ≡ true
    first_step =
        let b = inside i q at-q in
        let f = first-least s J inside i p at_p in
        let l = last-most s J inside i q at-q in
        let f' : first_jumper s J i < suc p = omega arith in
        let l' : suc p ≤ last_jumper s J i = omega arith in
        named-yes s J (step i (suc p)) (a_step {t = suc p} present (omega arith) (omega arith)) (number_mid s J inside i (suc p) f' l')
        (position_mid s J inside i (suc p) f' l'
        ∙ highest-last (suc p) p (λ x. J i x) (omega arith) at_p (λ t u v. absurd (native.Mathlib.Nat.lt_irrefl 0 (omega arith))))

    stretch-layer : (b : ℕ) → has_layer s (named s J (name i p)) b ≡ eqb (s.layer i) (suc b)
    unfolding has_layer
    stretch-layer b = same_test (any s.nodes has) (eqb (s.layer i) (suc b)) to from
      where
        steps : ℕ → Bool
        steps k = any (s.len k) (λ t. named s J (name i p) (step k (suc t)))

        has : ℕ → Bool
        has k = s.present k && (eqb (s.layer k) (suc b) && steps k)

        to : any s.nodes has ≡ true → eqb (s.layer i) (suc b) ≡ true
        to y =
            let r = any_some s.nodes has y in
            let k = r.0 in
            let w = and_right (s.present k) (eqb (s.layer k) (suc b) && steps k) r.2 in
            let u = any_some (s.len k) (λ t. named s J (name i p) (step k (suc t))) (and_right (eqb (s.layer k) (suc b)) (steps k) w) in
            let e = (named-stretch s J formed inside i p k (suc u.0) (inside i p at_p).0 u.2).0 in
            rw e (and_left (eqb (s.layer k) (suc b)) (steps k) w)

        from : eqb (s.layer i) (suc b) ≡ true → any s.nodes has ≡ true
        from y =
            let v = inside i q at-q in
            any-yes s.nodes i has (formed.inside i present)
            (and_intro present (and_intro y (any-yes (s.len i) p (λ t. named s J (name i p) (step i (suc t))) (omega arith) first_step)))

    pub stretch-fields : (limit : ℕ) → record_of s limit J (name i p) ≡ fields i p ((q - p) * s.factor i) 0 (mask most_layers (λ b. eqb (s.layer i) (suc b)))
    unfolding layers_of
    stretch-fields limit =
        let m : layers_of s (named s J (name i p)) ≡ mask most_layers (λ b. eqb (s.layer i) (suc b)) = mask_ap most_layers (λ b l. stretch-layer b) in
        record_fields s limit J (name i p)
        ∙ rw (stretch-flags limit, m, stretch-weight s J inside formed i p q present at_p at-q less none)

    pub stretch_record : (limit : ℕ) → 1 ≤ s.layer i → s.layer i ≤ most_layers →
        record_of s limit J (name i p) ≡ fields i p ((q - p) * s.factor i) 0 (2 ^ (s.layer i - 1))
    stretch_record limit low high = rw (← layer-mask (s.layer i) low high) (stretch-fields limit)

-- ---- the stretches of a wire begin at its entries but the last
module _ (s : Stage) (list : List ℕ) (n : ℕ) (free : EntriesFree s list n) (rising : Rising list n) (i a b : ℕ) (w : OfWire list n i a b) where
  pub stretch_names_are : stretch_names s (listed list n) i ≡ gather (b - a - 1) (λ d. name i (entry_position list (a + d)) ∷ [])
  unfolding stretch_names
  stretch_names_are =
      gather-rising (λ t. name i t) (b - a - 1) (s.len i) T (λ d. entry_position list (a + d))
      (λ d l. (position-inside s list n free rising i a b w (a + d) (omega arith) (omega arith)).1)
      (λ d e l k. positions-rise s list n free rising i a b w (a + d) (a + e) (omega arith) (omega arith) (omega arith))
      (λ t l. same_test (T t) (any (b - a - 1) (λ d. eqb (entry_position list (a + d)) t)) (to t) (from t))
    where
      J : Points
      J = listed list n

      T : ℕ → Bool
      T t = s.present i && (J i t && ltb t (last_jumper s J i))

      to : (t : ℕ) → T t ≡ true → any (b - a - 1) (λ d. eqb (entry_position list (a + d)) t) ≡ true
      to t y =
          let u = and_right (s.present i) (J i t && ltb t (last_jumper s J i)) y in
          let r = jumper-entry s list n free rising i a b w t (and_left (J i t) (ltb t (last_jumper s J i)) u) in
          let e = r.0 in
          let lt = ltb-true t (last_jumper s J i) (and_right (J i t) (ltb t (last_jumper s J i)) u) in
          let last = of_wire_last s list n free rising i a b w (omega (arith, r.1, r.2)) in
          let ne : e ≡ b - 1 → ⊥ = λ z. let v = ap (λ (k : ℕ). entry_position list k) z in native.Mathlib.Nat.lt_irrefl 0 (omega (arith, r.3)) in
          let back : a + (e - a) ≡ e = omega (arith, r.1) in
          any-yes (b - a - 1) (e - a) (λ d. eqb (entry_position list (a + d)) t) (omega (arith, r.1, r.2))
          (eq-eqb (entry_position list (a + (e - a))) t (rw back r.3))

      from : (t : ℕ) → any (b - a - 1) (λ d. eqb (entry_position list (a + d)) t) ≡ true → T t ≡ true
      from t y =
          let r = any_some (b - a - 1) (λ d. eqb (entry_position list (a + d)) t) y in
          let d = r.0 in
          let l = r.1 in
          let e = eqb-true (entry_position list (a + d)) t r.2 in
          let j : listed list n i (entry_position list (a + d)) ≡ true = entry-jumper s list n free rising i a b w (a + d) (omega arith) (omega arith) in
          let last = of_wire_last s list n free rising i a b w (omega arith) in
          let rise = positions-rise s list n free rising i a b w (a + d) (b - 1) (omega arith) (omega arith) (omega arith) in
          let f = free (a + d) (omega (arith, w.inside)) in
          and_intro (rw (w.here (a + d) (omega arith) (omega arith)) at f.present)
          (and_intro (rw e at j) (lt-ltb t (last_jumper s J i) (omega arith)))
