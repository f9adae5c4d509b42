-- A jumper set is legal exactly when every piece with nodes that has a gate and no source weighs at most the limit: a piece without nodes has no gate.
-- Assumes nothing.
use Rattle.std.specs.Prelude.{ℕ, ◌≤◌, ◌<◌, ◌≡◌, refl, true, ltb}
use Rattle.std.proofs.Common.{◌∙◌, arith, ltb-true, ltb-false}
use Rattle.laws.specs.Sums.{by, no_both, not_true_false}
use Rattle.net.specs.Stage.{Stage}
use Rattle.net.specs.Formed.{Formed}
use Rattle.pieces.specs.Piece.{Points, node, Group, Piece, is_harmful}
use Rattle.pieces.specs.Real.{a_node}
use Rattle.pieces.specs.Harmful.{Harmful, harmful-bit, bit-harmful}
use Rattle.pieces.specs.Legal.{Free, Legal}
use Rattle.pieces.specs.Inside.{Inside}
use Rattle.pieces.specs.Name.{lowest_node, named, name}
use Rattle.pieces.specs.Weight.{node_weight}
use Rattle.pieces.specs.Lowest.{lowest_node-inside, lowest_node_again}
use Rattle.pieces.specs.Named.{named-yes, named-number, named-piece, piece-named}
use Rattle.pieces.specs.Weights.{class_weight, weight-same}

-- every piece with nodes that has a gate and no source weighs at most the limit; h is its lowest node, i the gate
abbrev pub LightNodes : Stage → ℕ → Points → Type 0
LightNodes s limit J =
    (h : ℕ) → h < s.nodes → lowest_node s J h ≡ h → (i : ℕ) → i < s.nodes → s.gate i ≡ true → lowest_node s J i ≡ h →
    ((k : ℕ) → k < s.nodes → s.source k ≡ true → lowest_node s J k ≡ h → ⊥) → node_weight s J h ≤ limit

pub free-inside : (s : Stage) (J : Points) → ((i t : ℕ) → J i t ≡ true → Free s i t) → Inside s J
free-inside s J free i t h = let f = free i t h in (f.low, f.high)

module _ (s : Stage) (formed : Formed s) (limit : ℕ) (J : Points) where
  pub legal→nodes : Legal s limit J → LightNodes s limit J
  legal→nodes legal h p e i q g low none =
      by (ltb limit (node_weight s J h))
      (λ y. absurd (no_both (bit-harmful s P limit (record { gated = record { at = i; inside = q; is_gate_lem = g; in_it = named-yes s J (node i) (a_node q) low refl }; sourceless = λ k r src has. none k r src (named-number s J h 0 (node k) has); heavy = rw (class_weight s J within h) (ltb-true limit (node_weight s J h) y) })) (legal.harmless P piece)))
      (λ z. ltb-false limit (node_weight s J h) z)
    where
      within : Inside s J
      within = free-inside s J legal.free

      P : Group
      P = named s J (name h 0)

      piece : Piece s J P
      piece = rw e at (named-piece s J formed within (node h) (a_node p))

  pub nodes→legal : ((i t : ℕ) → J i t ≡ true → Free s i t) → LightNodes s limit J → Legal s limit J
  nodes→legal free light = record { free = free; harmless = λ P piece. not_true_false (is_harmful s limit P) (λ h. harmless P piece (harmful-bit s P limit h)) }
    where
      within : Inside s J
      within = free-inside s J free

      harmless : (P : Group) → Piece s J P → Harmful s limit P → ⊥
      harmless P piece bad =
          let g = bad.gated in
          let h = lowest_node s J g.at in
          let same = piece-named s J formed within P piece (node g.at) g.in_it in
          let weighs = weight-same s P (named s J (name h 0)) same ∙ class_weight s J within h in
          let most =
          light h (lowest_node-inside s J formed g.at g.inside) (lowest_node_again s J formed g.at) g.at g.inside g.is_gate_lem refl
          (λ k r src low. bad.sourceless k r src (same (node k) ∙ named-yes s J (node k) (a_node r) low refl)) in
          omega (arith, bad.heavy)
