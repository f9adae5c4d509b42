-- The record of each piece of the net restricted to its first n nodes: of a piece with nodes, from the nodes and wires below n; of a stretch, that of the whole net.
-- Assumes nothing.
use Prim.Native.Nat.{ℕ, zero, suc, ◌<◌}
use Rattle.std.specs.Prelude.{◌≡◌, true, false, ◌&&◌, eqb}
use Rattle.std.proofs.Math.Path.{sym}
use Rattle.std.proofs.Common.{◌∙◌, arith}
use Rattle.std.proofs.Math.Bool.{Bool}
use Rattle.std.proofs.Math.Dec.{ltb}
use borrow.Author.Tests.{ltb-true, lt-ltb}
use Rattle.laws.specs.Sum.{lowest}
use Rattle.laws.specs.Sums.{by, no_both, not_true_false, and_left, and_right, and_intro, χ_ap, sum_ap, any_ap, any-yes, lowest-passes, lowest-least}
use Rattle.laws.specs.Masks.{mask_ap}
use Rattle.net.specs.Layout.{most_layers}
use Rattle.net.specs.Stage.{Stage}
use Rattle.net.specs.Formed.{Formed}
use Rattle.pieces.specs.Piece.{Points}
use Rattle.pieces.specs.Inside.{Inside}
use Rattle.pieces.specs.Name.{last_jumper, lowest_node, name}
use Rattle.pieces.specs.Weight.{wire_adds}
use Rattle.pieces.specs.Jumpers.{jumper-cuts, last-jumper, first-last}
use Rattle.pieces.specs.Report.{record_of}
use Rattle.pieces.specs.FirstNodes.{first_nodes, on_first_wires}
use Rattle.pieces.specs.FirstNodesLaws.{kept-present, kept_jumpers, kept-cut, kept-first, kept-last, kept-formed, kept-inside, kept-lowest}
use Rattle.records.specs.WireSums.{flag, steps_in, weight_below, flags_below, layers_below, record_below}
use Rattle.records.specs.NodeRecords.{node_record_lem}
use Rattle.records.specs.StretchRecords.{stretch-fields}

module _ (s : Stage) (J : Points) (formed : Formed s) (n : ℕ) where
  kept-parent : (k : ℕ) → k < n → s.present k ≡ true → lowest_node (first_nodes n s) (on_first_wires n J) (s.parent k) ≡ lowest_node s J (s.parent k)
  kept-parent k p y = let b = formed.below k y in kept-lowest s J n formed (s.parent k) (omega arith)

  -- ---- the piece whose lowest node is h
  module _ (h : ℕ) where
    kept-adds : (k : ℕ) → k < n → s.present k ≡ true → wire_adds (first_nodes n s) (on_first_wires n J) h k ≡ wire_adds s J h k
    unfolding first_nodes wire_adds
    kept-adds k p y = rw (kept-lowest s J n formed k p, kept-first s J n k p, kept-cut s J n k p, kept-parent k p y, kept-last s J n k p)

    kept-weight : weight_below (first_nodes n s) (on_first_wires n J) n h ≡ weight_below s J n h
    unfolding weight_below
    kept-weight = sum_ap n (λ k p. rw (kept-present s J n k p) (χ_ap (s.present k) (λ y. kept-adds k p y)))

    kept-flag : (b k : ℕ) → k < n → (flag (first_nodes n s) b k && eqb (lowest_node (first_nodes n s) (on_first_wires n J) k) h) ≡ (flag s b k && eqb (lowest_node s J k) h)
    unfolding first_nodes
    kept-flag zero k p = rw (kept-lowest s J n formed k p)
    kept-flag (suc b) k p = rw (kept-lowest s J n formed k p)

    kept-flags : flags_below (first_nodes n s) (on_first_wires n J) n h ≡ flags_below s J n h
    unfolding flags_below
    kept-flags = mask_ap 2 (λ b l. any_ap n (λ k p. kept-flag b k p))

    kept-steps : (k : ℕ) → k < n → s.present k ≡ true → steps_in (first_nodes n s) (on_first_wires n J) h k ≡ steps_in s J h k
    unfolding first_nodes steps_in
    kept-steps k p y = rw (kept-lowest s J n formed k p, kept-first s J n k p, kept-parent k p y, kept-cut s J n k p)

    kept-layer : (b k : ℕ) → k < n →
        ((first_nodes n s).present k && (steps_in (first_nodes n s) (on_first_wires n J) h k && eqb ((first_nodes n s).layer k) (suc b)))
        ≡ (s.present k && (steps_in s J h k && eqb (s.layer k) (suc b)))
    unfolding first_nodes
    kept-layer b k p = rw (kept-present s J n k p) (by (s.present k) (λ y. rw (kept-steps k p y)) (λ z. rw z))

    kept_layers : layers_below (first_nodes n s) (on_first_wires n J) n h ≡ layers_below s J n h
    unfolding layers_below
    kept_layers = mask_ap most_layers (λ b l. any_ap n (λ k p. kept-layer b k p))

  module _ (limit : ℕ) (inside : Inside s J) where
    pub kept_node_record : (h : ℕ) → record_of (first_nodes n s) limit (on_first_wires n J) (name h 0) ≡ record_below s limit J n h
    unfolding first_nodes
    kept_node_record h =
        node_record_lem (first_nodes n s) (on_first_wires n J) (kept-inside s J n inside) h limit ∙ rw (kept-weight h, kept-flags h, kept_layers h)

    -- ---- the stretch that begins at jumper t of wire k
    pub kept_stretch_record : (k t : ℕ) → k < n → s.present k ≡ true → J k t ≡ true → t < last_jumper s J k →
        record_of (first_nodes n s) limit (on_first_wires n J) (name k t) ≡ record_of s limit J (name k t)
    unfolding first_nodes
    kept_stretch_record k t p present at-t less =
        let cut = jumper-cuts s J inside k t at-t in
        let some = any-yes (s.len k) (last_jumper s J k) above (first-last s J inside k cut).2 (and_intro (last-jumper s J inside k cut) (lt-ltb t (last_jumper s J k) less)) in
        let r = lowest-passes (s.len k) above some in
        let q = lowest (s.len k) above in
        let at-q = and_left (J k q) (ltb t q) r.1 in
        let t-q = ltb-true t q (and_right (J k q) (ltb t q) r.1) in
        stretch-fields (first_nodes n s) (on_first_wires n J) (kept-formed s J n formed) (kept-inside s J n inside) k t q (kept-present s J n k p ∙ present)
        (kept_jumpers s J n k p t ∙ at-t) (kept_jumpers s J n k p q ∙ at-q) t-q (λ u a b. kept_jumpers s J n k p u ∙ none u a b) limit
        ∙ sym (stretch-fields s J formed inside k t q present at-t at-q t-q none limit)
      where
        above : ℕ → Bool
        above q = J k q && ltb t q

        none : (u : ℕ) → t < u → u < lowest (s.len k) above → J k u ≡ false
        none u a b = not_true_false (J k u) (λ y. no_both (and_intro y (lt-ltb t u a)) (lowest-least (s.len k) u above b))
