-- How a piece is named, as document 01 says it: a piece with nodes by its lowest node and position 0, another by its wire and the lower of its two jumper positions.
-- Assumes nothing.
use Rattle.std.specs.Prelude.{ℕ, ◌≤◌, ◌<◌, ◌≡◌, refl, Bool, true, false, ◌&&◌, leb, ltb, eqb}
use Rattle.std.proofs.Common.{sym, ◌∙◌, ap, arith, ltb-true, ltb-false, leb-true, lt-ltb, le-leb, eq-eqb, eqb-true}
use Rattle.laws.specs.Sum.{highest, lowest}
use Rattle.laws.specs.Sums.{by, no_both, same_test, not_true_false, and_left, and_right, and_intro, any-yes, lowest-passes, lowest-least, highest-most, highest-≥, highest-last}
use Rattle.net.specs.Stage.{Stage}
use Rattle.net.specs.Formed.{Formed}
use Rattle.pieces.specs.Piece.{Points, Element, node, step, Group, Piece}
use Rattle.pieces.specs.Real.{Real, a_node, a_step, is_real_lem}
use Rattle.pieces.specs.Inside.{Inside}
use Rattle.pieces.specs.Name.{Name, name, name_of, named, first_jumper, last_jumper, lowest_node}
use Rattle.pieces.specs.Lowest.{lowest_node-≤, lowest_node-inside, lowest_node_again}
use Rattle.pieces.specs.Jumpers.{first-least, last-jumper, last-most, above_first_cut, step-cases, number-low, position-low, number-high, position-high, number_mid, position_mid, below_mid}
use Rattle.pieces.specs.Named.{named-yes, named-number, piece-named, named-stretch}

-- a stretch: the steps of a wire between two jumpers that have none between them; its name is the wire and the lower of the two
pub record Stretch (s : Stage) (J : Points) (P : Group) : Type 0 where
  pub wire : ℕ
  pub low : ℕ
  pub high : ℕ
  pub present : s.present wire ≡ true
  pub below : low < high
  pub at_low : J wire low ≡ true
  pub at_high : J wire high ≡ true
  pub none_between : (t : ℕ) → low < t → t < high → J wire t ≡ false
  pub steps : (i t : ℕ) → P (step i t) ≡ (eqb i wire && (ltb low t && leb t high))
  pub by_name : (e : Element) → P e ≡ named s J (name wire low) e

-- a step between two jumpers of its wire: the nearest below it and the nearest above
module _ (s : Stage) (J : Points) (formed : Formed s) (inside : Inside s J) (i t : ℕ) (present : s.present i ≡ true) (l : t ≤ s.len i)
    (f : first_jumper s J i < t) (h : t ≤ last_jumper s J i) where
  abbrev lower : ℕ
  lower = highest t (λ x. J i x)

  abbrev above : ℕ → Bool
  above x = J i x && leb t x

  abbrev upper : ℕ
  upper = lowest (s.len i) above

  lower_is : (lower < t) × (J i lower ≡ true)
  lower_is = below_mid s J inside i t l f

  upper_is : (upper < s.len i) × (above upper ≡ true)
  upper_is =
      let last = last-jumper s J inside i (above_first_cut s J inside i t l f) in
      lowest-passes (s.len i) above (any-yes (s.len i) (last_jumper s J i) above (inside i (last_jumper s J i) last).1 (and_intro last (le-leb t (last_jumper s J i) h)))

  upper-jumper : J i upper ≡ true
  upper-jumper = and_left (J i upper) (leb t upper) upper_is.1

  upper-above : t ≤ upper
  upper-above = leb-true t upper (and_right (J i upper) (leb t upper) upper_is.1)

  between : (x : ℕ) → lower < x → x < upper → J i x ≡ false
  between x a b =
      by (ltb x t)
      (λ y. highest-most t x (λ z. J i z) (ltb-true x t y) a)
      (λ z.
      not_true_false (J i x) (λ y. no_both (and_intro y (le-leb t x (ltb-false x t z))) (lowest-least (s.len i) x above b)))

  step_in : (u : ℕ) → lower < u → u ≤ upper → named s J (name i lower) (step i u) ≡ true
  step_in u a b =
      let low = lower_is in
      let high = upper_is.0 in
      let first = first-least s J inside i lower low.1 in
      let last = last-most s J inside i upper upper-jumper in
      let f' : first_jumper s J i < u = omega arith in
      let h' : u ≤ last_jumper s J i = omega arith in
      named-yes s J (step i u) (a_step {t = u} present (omega arith) (omega arith)) (number_mid s J inside i u f' h')
      (position_mid s J inside i u f' h' ∙ highest-last u lower (λ x. J i x) a low.1 (λ x c d. between x c (omega arith)))

  in_step : (j u : ℕ) → named s J (name i lower) (step j u) ≡ true → (j ≡ i) × (lower < u) × (u ≤ upper)
  in_step j u y =
      let n = named-stretch s J formed inside i lower j u (inside i lower lower_is.1).0 y in
      at (sym n.0) n.1 n.2 n.3
    where
      at : j ≡ i → first_jumper s J j < u → u ≤ last_jumper s J j → highest u (λ x. J j x) ≡ lower → (j ≡ i) × (lower < u) × (u ≤ upper)
      at e a b c =
          let a' : first_jumper s J i < u = rw e at a in
          let b' : u ≤ last_jumper s J i = rw e at b in
          let c' : highest u (λ x. J i x) ≡ lower = ap (λ (k : ℕ). highest u (λ x. J k x)) (sym e) ∙ c in
          let cut = above_first_cut s J inside i t l f in
          let last = inside i (last_jumper s J i) (last-jumper s J inside i cut) in
          let d = below_mid s J inside i u (omega arith) a' in (
            e,
            omega (arith, d.0),
            by (ltb upper u)
                (λ y. let g = highest-≥ u upper (λ x. J i x) (ltb-true upper u y) upper-jumper in let m = lower_is.0 in let k = upper-above in absurd (native.Mathlib.Nat.lt_irrefl 0 (omega arith)))
                (λ z. ltb-false upper u z),
          )

  stretch_of : (P : Group) → ((e : Element) → P e ≡ named s J (name i lower) e) → Stretch s J P
  stretch_of P same =
      record {
        wire = i;
        low = lower;
        high = upper;
        present = present;
        below = omega (arith, lower_is.0, upper-above);
        at_low = lower_is.1;
        at_high = upper-jumper;
        none_between = between;
        steps = λ j u.
            same (step j u)
            ∙ same_test (named s J (name i lower) (step j u)) (eqb j i && (ltb lower u && leb u upper))
            (λ y. let r = in_step j u y in and_intro (eq-eqb j i r.0) (and_intro (lt-ltb lower u r.1) (le-leb u upper r.2)))
            (λ y.
            let r = and_right (eqb j i) (ltb lower u && leb u upper) y in
            rw (eqb-true j i (and_left (eqb j i) (ltb lower u && leb u upper) y))
            (step_in u (ltb-true lower u (and_left (ltb lower u) (leb u upper) r)) (leb-true u upper (and_right (ltb lower u) (leb u upper) r))));
        by_name = same;
      }

module _ (s : Stage) (J : Points) (formed : Formed s) (inside : Inside s J) (P : Group) (piece : Piece s J P) where
  -- a piece with nodes: its name is the lowest node in it
  pub named_by_node : (i : ℕ) → P (node i) ≡ true →
      (h : ℕ) × (P (node h) ≡ true) × ((k : ℕ) → P (node k) ≡ true → h ≤ k) × ((e : Element) → P e ≡ named s J (name h 0) e)
  named_by_node i has =
      let h = lowest_node s J i in
      let same = piece-named s J formed inside P piece (node i) has in (
        h,
        same (node h) ∙ named-yes s J (node h) (a_node (lowest_node-inside s J formed i (real-node i has))) (lowest_node_again s J formed i) refl,
        λ k y.
            let e : lowest_node s J k ≡ h = named-number s J h 0 (node k) (sym (same (node k)) ∙ y) in
            let l = lowest_node-≤ s J formed k in
            omega arith,
        same,
      )
    where
      real-node : (k : ℕ) → P (node k) ≡ true → k < s.nodes
      real-node k y = ltb-true k s.nodes (piece.real (node k) y)

  -- another: a stretch, named by its wire and the lower of its two jumper positions
  pub named_by_stretch : ((k : ℕ) → P (node k) ≡ false) → Stretch s J P
  named_by_stretch none = go piece.one piece.has_one
    where
      at-step : (i t : ℕ) → P (step i t) ≡ true → Real s (step i t) → Stretch s J P
      at-step i t has (a_step present one l) =
          step-cases s J inside i t
          (λ low.
          absurd (no_both (same (node i) ∙ named-yes s J (node i) (a_node (formed.inside i present)) (sym (number-low s J inside i t low)) (sym (position-low s J inside i t low))) (none i)))
          (λ f h.
          let b = formed.below i present in
          let n = formed.inside i present in
          absurd (no_both (same (node (s.parent i)) ∙ named-yes s J (node (s.parent i)) (a_node {i = s.parent i} (omega arith)) (sym (number-high s J inside i t f h)) (sym (position-high s J inside i t f h))) (none (s.parent i))))
          (λ f h.
          let same_name : name_of s J (step i t) ≡ name i (highest t (λ x. J i x)) = λ k. record { number = number_mid s J inside i t f h k; position = position_mid s J inside i t f h k } in
          stretch_of s J formed inside i t present l f h P (λ e. same e ∙ ap (λ (n : Name). named s J n e) same_name))
        where
          same : (e : Element) → P e ≡ named s J (name_of s J (step i t)) e
          same = piece-named s J formed inside P piece (step i t) has

      go : (e : Element) → P e ≡ true → Stretch s J P
      go (node k) has = absurd (no_both has (none k))
      go (step i t) has = at-step i t has (is_real_lem s (step i t) (piece.real (step i t) has))
