-- The record of a piece with nodes, from what all nodes and wires give to it.
-- Assumes nothing.
use Prim.Native.Nat.{ℕ, suc, ◌+◌, ◌-◌, ◌^◌, ◌≤◌, ◌<◌}
use Rattle.std.specs.Prelude.{◌≡◌, refl, true, false, ◌&&◌, ◌||◌}
use Rattle.std.proofs.Math.Path.{sym, ap}
use Rattle.std.proofs.Common.{◌∙◌, ⊎_elim, arith}
use Rattle.std.proofs.Math.Bool.{Bool}
use Rattle.std.proofs.Math.Dec.{ltb, eqb}
use Rattle.std.specs.Int.Count.{ones}
use borrow.Author.Tests.{ltb-true, lt-ltb, eqb-true, eq-eqb, ne_eqb}
use Rattle.laws.specs.Sum.{χ, sum, any}
use Rattle.laws.specs.Sums.{by, and_left, and_right, and_intro, or_left, or_right, or_cases, any-yes, any_some, same_test, any_ap, and_true, and_comm}
use Rattle.laws.specs.Masks.{mask, mask_ap, mask_one, mask_ones, mask-lowest, mask-none, mask-some}
use Rattle.net.specs.Layout.{most_layers}
use Rattle.net.specs.Net.{is_gate, is_source}
use Rattle.net.specs.Stage.{Stage}
use Rattle.pieces.specs.Piece.{Points, node, step, Group, weight_of, has_gate, has_source, is_harmful}
use Rattle.pieces.specs.Real.{a_step}
use Rattle.pieces.specs.Inside.{Inside}
use Rattle.pieces.specs.Name.{cut_at, first_jumper, last_jumper, lowest_node, named, Name, name}
use Rattle.pieces.specs.Weight.{node_weight}
use Rattle.pieces.specs.Weights.{class_weight}
use Rattle.pieces.specs.Jumpers.{first-≤, first-last, above_first_cut, step-cases, number-low, number-high, position-low, position-high, position_mid, below_mid}
use Rattle.pieces.specs.Named.{named-yes, named-number, named-position}
use Rattle.pieces.specs.Report.{flags_of, has_layer, layers_of, layer_count, lowest_layer, record_of}
use Rattle.records.specs.Record.{lowest_of, fields, with_harm}
use Rattle.records.specs.WireSums.{flag, steps_in, weight_below, flags_below, layers_below, record_below}

-- ---- layers of any group: how many they are and the lowest follow from the mask
module _ (s : Stage) (P : Group) where
  pub layer-count : layer_count s P ≡ ones (layers_of s P)
  unfolding layer_count layers_of
  layer-count = sym (mask_ones most_layers (has_layer s P))

  pub lowest-layer : lowest_layer s P ≡ lowest_of (layers_of s P)
  unfolding lowest_layer layers_of
  lowest-layer =
      by (any most_layers (has_layer s P))
      (λ y.
      rw (y, ne_eqb (mask most_layers (has_layer s P)) 0 (mask-some most_layers (has_layer s P) y))
      (ap suc (sym (mask-lowest most_layers (has_layer s P) y))))
      (λ z. rw (z, mask-none most_layers (has_layer s P) z))

-- the mask of one layer
pub layer-mask : (l : ℕ) → 1 ≤ l → l ≤ most_layers → mask most_layers (λ b. eqb l (suc b)) ≡ 2 ^ (l - 1)
layer-mask l low high = mask_ap most_layers (λ b p. same_test (eqb l (suc b)) (eqb (l - 1) b) (to b) (from b)) ∙ mask_one most_layers (l - 1) (omega arith)
  where
    to : (b : ℕ) → eqb l (suc b) ≡ true → eqb (l - 1) b ≡ true
    to b y = let e = eqb-true l (suc b) y in eq-eqb (l - 1) b (omega arith)

    from : (b : ℕ) → eqb (l - 1) b ≡ true → eqb l (suc b) ≡ true
    from b y = let e = eqb-true (l - 1) b y in eq-eqb l (suc b) (omega arith)

-- a record is made of its fields
pub record_fields : (s : Stage) (limit : ℕ) (J : Points) (n : Name) →
    record_of s limit J n ≡ fields n.number n.position (weight_of s (named s J n)) (flags_of s limit (named s J n)) (layers_of s (named s J n))
unfolding record_of fields
record_fields s limit J n = rw (layer-count s (named s J n), lowest-layer s (named s J n))

-- ---- flags
pub two-flags : (f : ℕ → Bool) → mask 2 f ≡ χ (f 0) 1 + χ (f 1) 2
unfolding sum
two-flags f = omega arith

gate-bit : (a b : Bool) → is_gate (χ a 1 + χ b 2) ≡ a
gate-bit true true = refl
gate-bit true false = refl
gate-bit false true = refl
gate-bit false false = refl

source-bit : (a b : Bool) → is_source (χ a 1 + χ b 2) ≡ b
source-bit true true = refl
source-bit true false = refl
source-bit false true = refl
source-bit false false = refl

module _ (s : Stage) (J : Points) where
  node_in : (h k : ℕ) → k < s.nodes → named s J (name h 0) (node k) ≡ eqb (lowest_node s J k) h
  unfolding named
  node_in h k p = rw (lt-ltb k s.nodes p) (and_true (eqb (lowest_node s J k) h))

  class_gate : (h : ℕ) → has_gate s (named s J (name h 0)) ≡ any s.nodes (λ k. s.gate k && eqb (lowest_node s J k) h)
  unfolding has_gate
  class_gate h = any_ap s.nodes (λ k p. ap (λ (t : Bool). s.gate k && t) (node_in h k p))

  class_source : (h : ℕ) → has_source s (named s J (name h 0)) ≡ any s.nodes (λ k. s.source k && eqb (lowest_node s J k) h)
  unfolding has_source
  class_source h = any_ap s.nodes (λ k p. ap (λ (t : Bool). s.source k && t) (node_in h k p))

  pub flags_are : (h : ℕ) → flags_below s J s.nodes h ≡ χ (has_gate s (named s J (name h 0))) 1 + χ (has_source s (named s J (name h 0))) 2
  unfolding flags_below
  flags_are h =
      rw (class_gate h, class_source h) (two-flags (λ b. any s.nodes (λ k. flag s b k && eqb (lowest_node s J k) h)))

module _ (s : Stage) (J : Points) (inside : Inside s J) (h : ℕ) where
  pub class_weighs : weight_below s J s.nodes h ≡ weight_of s (named s J (name h 0))
  unfolding weight_below node_weight
  class_weighs = sym (class_weight s J inside h)

  pub class_flags : (limit : ℕ) → with_harm limit (weight_below s J s.nodes h) (flags_below s J s.nodes h) ≡ flags_of s limit (named s J (name h 0))
  unfolding flags_of is_harmful
  class_flags limit =
      let g = has_gate s (named s J (name h 0)) in
      let o = has_source s (named s J (name h 0)) in
      rw (class_weighs, flags_are s J h, gate-bit g o, source-bit g o)

  -- ---- layers
  steps_in_lem : (k : ℕ) → s.present k ≡ true → any (s.len k) (λ t. named s J (name h 0) (step k (suc t))) ≡ steps_in s J h k
  unfolding steps_in
  steps_in_lem k present = same_test (any (s.len k) (λ t. named s J (name h 0) (step k (suc t)))) _ to from
    where
      low : Bool
      low = eqb (lowest_node s J k) h && ltb 0 (first_jumper s J k)

      high : Bool
      high = eqb (lowest_node s J (s.parent k)) h && cut_at s J k

      to : any (s.len k) (λ t. named s J (name h 0) (step k (suc t))) ≡ true → (low || high) ≡ true
      to y =
          let r = any_some (s.len k) (λ t. named s J (name h 0) (step k (suc t))) y in
          let t = suc r.0 in
          let num = named-number s J h 0 (step k t) r.2 in
          let pos = named-position s J h 0 (step k t) r.2 in
          step-cases s J inside k t
          (λ l. or_left high (and_intro (eq-eqb (lowest_node s J k) h (sym (number-low s J inside k t l) ∙ num)) (lt-ltb 0 (first_jumper s J k) (omega arith))))
          (λ f g.
          or_right low
          (and_intro (eq-eqb (lowest_node s J (s.parent k)) h (sym (number-high s J inside k t f g) ∙ num))
          (above_first_cut s J inside k t (omega (arith, r.1)) f)))
          (λ f g.
          let b = below_mid s J inside k t (omega (arith, r.1)) f in
          let c = inside k _ b.1 in
          let e = position_mid s J inside k t f g in
          absurd (native.Mathlib.Nat.lt_irrefl 0 (omega arith)))

      from : (low || high) ≡ true → any (s.len k) (λ t. named s J (name h 0) (step k (suc t))) ≡ true
      from y =
          ⊎_elim
          (λ a.
          let f = first-≤ s J inside k in
          let n = ltb-true 0 (first_jumper s J k) (and_right (eqb (lowest_node s J k) h) (ltb 0 (first_jumper s J k)) a) in
          let e = eqb-true (lowest_node s J k) h (and_left (eqb (lowest_node s J k) h) (ltb 0 (first_jumper s J k)) a) in
          any-yes (s.len k) 0 (λ t. named s J (name h 0) (step k (suc t))) (omega arith)
          (named-yes s J (step k 1) (a_step {t = 1} present (omega arith) (omega arith)) (number-low s J inside k 1 n ∙ e) (position-low s J inside k 1 n)))
          (λ a.
          let cut = and_right (eqb (lowest_node s J (s.parent k)) h) (cut_at s J k) a in
          let e = eqb-true (lowest_node s J (s.parent k)) h (and_left (eqb (lowest_node s J (s.parent k)) h) (cut_at s J k) a) in
          let b = first-last s J inside k cut in
          let m = s.len k - 1 in
          let f : first_jumper s J k < suc m = omega arith in
          let g : last_jumper s J k < suc m = omega arith in
          any-yes (s.len k) m (λ t. named s J (name h 0) (step k (suc t))) (omega arith)
          (named-yes s J (step k (suc m)) (a_step {t = suc m} present (omega arith) (omega arith)) (number-high s J inside k (suc m) f g ∙ e) (position-high s J inside k (suc m) f g)))
          (or_cases low high y)

  class_layer : (b : ℕ) → has_layer s (named s J (name h 0)) b ≡ any s.nodes (λ k. s.present k && (steps_in s J h k && eqb (s.layer k) (suc b)))
  unfolding has_layer
  class_layer b = any_ap s.nodes (λ k p. by (s.present k) (λ y. rw (y, steps_in_lem k y) (and_comm (eqb (s.layer k) (suc b)) (steps_in s J h k))) (λ z. rw z))

  pub class_layers : layers_below s J s.nodes h ≡ layers_of s (named s J (name h 0))
  unfolding layers_below layers_of
  class_layers = mask_ap most_layers (λ b p. sym (class_layer b))

  -- the record of the piece
  pub node_record_lem : (limit : ℕ) →
      record_of s limit J (name h 0) ≡ record_below s limit J s.nodes h
  node_record_lem limit = rw (class_flags limit, class_layers, class_weighs) (record_fields s limit J (name h 0))
