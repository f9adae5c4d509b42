-- What the tests of a group say: a gate is in it, no source is in it, it is harmful.
-- Assumes nothing.
use Rattle.std.specs.Prelude.{ℕ, ◌<◌, ◌≡◌, true, false, ◌&&◌}
use Rattle.std.proofs.Common.{ap}
use Rattle.std.proofs.Math.Bool.{not}
use Rattle.std.proofs.Math.Dec.{ltb}
use borrow.Author.Tests.{ltb-true, lt-ltb, not-true}
use Rattle.laws.specs.Sum.{any}
use Rattle.laws.specs.Sums.{no_both, not_true_false, and_left, and_right, and_intro, any-yes, any_some}
use Rattle.net.specs.Stage.{Stage}
use Rattle.pieces.specs.Piece.{node, Group, weight_of, has_gate, has_source, is_harmful}

pub record HasGate (s : Stage) (P : Group) : Type 0 where
  pub at : ℕ
  pub inside : at < s.nodes
  pub is_gate_lem : s.gate at ≡ true
  pub in_it : P (node at) ≡ true

abbrev pub NoSource : Stage → Group → Type 0
NoSource s P = (i : ℕ) → i < s.nodes → s.source i ≡ true → P (node i) ≡ true → ⊥

pub record Harmful (s : Stage) (limit : ℕ) (P : Group) : Type 0 where
  pub gated : HasGate s P
  pub sourceless : NoSource s P
  pub heavy : limit < weight_of s P

module _ (s : Stage) (P : Group) where
  pub gate-bit : has_gate s P ≡ true → HasGate s P
  unfolding has_gate
  gate-bit h =
      let r = any_some s.nodes (λ i. s.gate i && P (node i)) h in
      record { at = r.0; inside = r.1; is_gate_lem = and_left (s.gate r.0) (P (node r.0)) r.2; in_it = and_right (s.gate r.0) (P (node r.0)) r.2 }

  pub bit-gate : HasGate s P → has_gate s P ≡ true
  unfolding has_gate
  bit-gate g = any-yes s.nodes g.at (λ i. s.gate i && P (node i)) g.inside (and_intro g.is_gate_lem g.in_it)

  pub no_source_bit : has_source s P ≡ false → NoSource s P
  unfolding has_source
  no_source_bit h i p src has = no_both (any-yes s.nodes i (λ i. s.source i && P (node i)) p (and_intro src has)) h

  pub bit_no_source : NoSource s P → has_source s P ≡ false
  unfolding has_source
  bit_no_source none =
      not_true_false (any s.nodes (λ i. s.source i && P (node i))) (λ h.
      let r = any_some s.nodes (λ i. s.source i && P (node i)) h in
      none r.0 r.1 (and_left (s.source r.0) (P (node r.0)) r.2) (and_right (s.source r.0) (P (node r.0)) r.2))

  pub harmful-bit : (limit : ℕ) → is_harmful s limit P ≡ true → Harmful s limit P
  unfolding is_harmful
  harmful-bit limit h =
      let r = and_right (has_gate s P) (not (has_source s P) && ltb limit (weight_of s P)) h in
      record {
        gated = gate-bit (and_left (has_gate s P) (not (has_source s P) && ltb limit (weight_of s P)) h);
        sourceless = no_source_bit (not-true (has_source s P) (and_left (not (has_source s P)) (ltb limit (weight_of s P)) r));
        heavy = ltb-true limit (weight_of s P) (and_right (not (has_source s P)) (ltb limit (weight_of s P)) r);
      }

  pub bit-harmful : (limit : ℕ) → Harmful s limit P → is_harmful s limit P ≡ true
  unfolding is_harmful
  bit-harmful limit h =
      and_intro (bit-gate h.gated) (and_intro (ap not (bit_no_source h.sourceless)) (lt-ltb limit (weight_of s P) h.heavy))
