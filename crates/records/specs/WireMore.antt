-- What one node with its wire more gives to a piece with nodes.
-- Assumes nothing.
use Prim.Native.Nat.{ℕ, zero, suc, ◌+◌, ◌-◌, ◌*◌, ◌^◌, ◌≤◌, ◌<◌}
use Rattle.std.specs.Prelude.{◌≡◌, refl, true, false, ◌&&◌, ◌||◌, ◌≢◌}
use Rattle.std.proofs.Math.Path.{sym}
use Rattle.std.proofs.Common.{◌∙◌, ap, arith}
use Rattle.std.proofs.Math.Bool.{Bool}
use Rattle.std.proofs.Math.Dec.{ltb, eqb}
use Rattle.std.specs.Int.Bits.{bit_or, or_zero_r}
use borrow.Author.Tests.{lt-ltb, ne_eqb}
use Rattle.laws.specs.Sum.{χ, any}
use Rattle.laws.specs.Sums.{by, and_no_right, and_false, sum-next, sum-zero, any_next, any_none, and_comm, or_false}
use Rattle.laws.specs.Masks.{mask, mask_ap, mask-test, mask-or, mask-none}
use Rattle.net.specs.Layout.{most_layers}
use Rattle.net.specs.Net.{is_gate, is_source}
use Rattle.net.specs.Stage.{Stage}
use Rattle.net.specs.Formed.{Formed}
use Rattle.pieces.specs.Piece.{Points}
use Rattle.pieces.specs.Inside.{Inside}
use Rattle.pieces.specs.Name.{cut_at, first_jumper, last_jumper, lowest_node}
use Rattle.pieces.specs.Weight.{wire_adds}
use Rattle.pieces.specs.Lowest.{lowest_node-≤}
use Rattle.pieces.specs.Jumpers.{first-uncut, first-last}
use Rattle.records.specs.WireSums.{flag, steps_in, weight_below, flags_below, layers_below}
use Rattle.records.specs.NodeRecords.{layer-mask, two-flags}

-- masks joined under a test
pub or-test : (n : ℕ) (f : ℕ → Bool) (t : Bool) (g : ℕ → Bool) → bit_or (mask n f) (χ t (mask n g)) ≡ mask n (λ b. f b || (t && g b))
or-test n f t g = ap (bit_or (mask n f)) (sym (mask-test n t g)) ∙ mask-or n f (λ b. t && g b)

-- the flags of a node, bit by bit
pub flags_bits : (f : ℕ) → f ≤ 3 → f ≡ χ (is_gate f) 1 + χ (is_source f) 2
flags_bits zero h = refl
flags_bits (suc zero) h = refl
flags_bits (suc (suc zero)) h = refl
flags_bits (suc (suc (suc zero))) h = refl
flags_bits (suc (suc (suc (suc f)))) h = absurd (native.Mathlib.Nat.lt_irrefl 0 (omega arith))

module _ (s : Stage) (J : Points) where
  -- ---- one wire more
  pub weight-next : (i h : ℕ) → weight_below s J (i + 1) h ≡ weight_below s J i h + χ (s.present i) (wire_adds s J h i)
  unfolding weight_below
  weight-next i h = sum-next i (λ k. χ (s.present k) (wire_adds s J h k))

  pub flags-next : (i h f : ℕ) → f ≡ χ (s.gate i) 1 + χ (s.source i) 2 → flags_below s J (i + 1) h ≡ bit_or (flags_below s J i h) (χ (eqb (lowest_node s J i) h) f)
  unfolding flags_below
  flags-next i h f e =
      let t = eqb (lowest_node s J i) h in
      sym
      (rw (e ∙ sym (two-flags (λ b. flag s b i)))
      (or-test 2 (λ b. any i (λ k. flag s b k && eqb (lowest_node s J k) h)) t (λ b. flag s b i)
      ∙ mask_ap 2 {f = λ b. any i (λ k. flag s b k && eqb (lowest_node s J k) h) || (t && flag s b i)}
      {g = λ b. any (i + 1) (λ k. flag s b k && eqb (lowest_node s J k) h)}
      (λ b p. rw (any_next i (λ k. flag s b k && eqb (lowest_node s J k) h), and_comm (flag s b i) t))))

  pub layers_next : (i h : ℕ) → (s.present i ≡ true → (1 ≤ s.layer i) × (s.layer i ≤ most_layers)) →
      layers_below s J (i + 1) h ≡ bit_or (layers_below s J i h) (χ (s.present i && steps_in s J h i) (2 ^ (s.layer i - 1)))
  unfolding layers_below
  layers_next i h range =
      by (s.present i)
      (λ y.
      rw (y, ← layer-mask (s.layer i) (range y).0 (range y).1)
      (sym
      (or-test most_layers (λ b. any i (has b)) (steps_in s J h i) (λ b. eqb (s.layer i) (suc b))
      ∙ mask_ap most_layers {f = λ b. any i (has b) || (steps_in s J h i && eqb (s.layer i) (suc b))} {g = λ b. any (i + 1) (has b)}
      (λ b p. rw (any_next i (has b), y)))))
      (λ z.
      rw (z, or_zero_r (mask most_layers (λ b. any i (has b))))
      (mask_ap most_layers {f = λ b. any (i + 1) (has b)} {g = λ b. any i (has b)} (λ b p. any_next i (has b) ∙ or_false (any i (has b)) (rw z))))
    where
      has : ℕ → ℕ → Bool
      has b k = s.present k && (steps_in s J h k && eqb (s.layer k) (suc b))

  -- what a wire without a jumper adds, and what a wire with jumpers adds
  module _ (inside : Inside s J) (i h : ℕ) where
    pub uncut-adds : cut_at s J i ≡ false → wire_adds s J h i ≡ χ (eqb (lowest_node s J i) h) (s.len i * s.factor i)
    unfolding wire_adds
    uncut-adds u = rw (u, first-uncut s J inside i u) (omega arith)

    pub uncut-steps : cut_at s J i ≡ false → steps_in s J h i ≡ (eqb (lowest_node s J i) h && ltb 0 (s.len i))
    unfolding steps_in
    uncut-steps u =
        rw (first-uncut s J inside i u)
        (or_false (eqb (lowest_node s J i) h && ltb 0 (s.len i)) (and_no_right (eqb (lowest_node s J (s.parent i)) h) u))

    pub cut-adds : cut_at s J i ≡ true →
        wire_adds s J h i
        ≡ χ (eqb (lowest_node s J i) h) (first_jumper s J i * s.factor i)
        + χ (eqb (lowest_node s J (s.parent i)) h) ((s.len i - last_jumper s J i) * s.factor i)
    unfolding wire_adds
    cut-adds c = rw c

    pub cut-steps : cut_at s J i ≡ true →
        steps_in s J h i
        ≡ ((eqb (lowest_node s J i) h && ltb 0 (first_jumper s J i)) || (eqb (lowest_node s J (s.parent i)) h && ltb 0 (s.len i - last_jumper s J i)))
    unfolding steps_in
    cut-steps c = let b = first-last s J inside i c in rw (c, lt-ltb 0 (s.len i - last_jumper s J i) (omega arith))

  -- a wire with neither end in the piece
  module _ (i h : ℕ) (own : lowest_node s J i ≢ h) (above : lowest_node s J (s.parent i) ≢ h) where
    pub other_adds : wire_adds s J h i ≡ 0
    unfolding wire_adds
    other_adds = rw (ne_eqb (lowest_node s J i) h own, ne_eqb (lowest_node s J (s.parent i)) h above, and_false (cut_at s J i))

    pub other_steps : steps_in s J h i ≡ false
    unfolding steps_in
    other_steps = rw (ne_eqb (lowest_node s J i) h own, ne_eqb (lowest_node s J (s.parent i)) h above)

  -- a piece has nothing from the nodes and wires below its lowest node
  module _ (formed : Formed s) (h : ℕ) where
    not-below : (k : ℕ) → k < h → lowest_node s J k ≢ h
    not-below k p e = let l = lowest_node-≤ s J formed k in omega arith

    not-above : (k : ℕ) → k < h → s.present k ≡ true → lowest_node s J (s.parent k) ≢ h
    not-above k p y = not-below (s.parent k) (let b = formed.below k y in omega arith)

    pub weight-none : weight_below s J h h ≡ 0
    unfolding weight_below
    weight-none = sum-zero h (λ k p. by (s.present k) (λ y. rw y (other_adds k h (not-below k p) (not-above k p y))) (λ z. rw z))

    pub flags-none : flags_below s J h h ≡ 0
    unfolding flags_below
    flags-none =
        mask-none 2 (λ b. any h (λ k. flag s b k && eqb (lowest_node s J k) h))
        (any_none 2 (λ b. any h (λ k. flag s b k && eqb (lowest_node s J k) h))
        (λ b p. any_none h (λ k. flag s b k && eqb (lowest_node s J k) h) (λ k q. and_no_right (flag s b k) (ne_eqb (lowest_node s J k) h (not-below k q)))))

    pub layers_none : layers_below s J h h ≡ 0
    unfolding layers_below
    layers_none =
        mask-none most_layers (λ b. any h (has b))
        (any_none most_layers (λ b. any h (has b))
        (λ b p.
        any_none h (has b)
        (λ k q. by (s.present k) (λ y. rw (y, other_steps k h (not-below k q) (not-above k q y))) (λ z. rw z))))
      where
        has : ℕ → ℕ → Bool
        has b k = s.present k && (steps_in s J h k && eqb (s.layer k) (suc b))
