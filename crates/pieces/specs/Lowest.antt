-- Laws of the lowest node of a node's piece: following joining wires to their parents ends there.
-- Assumes nothing.
use Prim.Native.Nat.{ℕ, zero, suc, ◌≤◌, ◌<◌}
use Rattle.std.specs.Prelude.{◌≡◌, true, false, not}
use Rattle.std.proofs.Math.Path.{refl}
use Rattle.std.proofs.Common.{◌∙◌, ap}
use Rattle.std.proofs.Math.Bool.{cond}
use native.Mathlib.Omega.{arith}
use Rattle.std.proofs.lemmas.Bool.{not-true}
use Rattle.laws.specs.Sums.{by, and_left, and_right, and_intro, and_no_left, and_no_right}
use Rattle.net.specs.Stage.{Stage}
use Rattle.net.specs.Formed.{Formed}
use Rattle.pieces.specs.Piece.{Points}
use Rattle.pieces.specs.Name.{cut_at, joins, follow, lowest_node}

pub joins-present : (s : Stage) (J : Points) (i : ℕ) → joins s J i ≡ true → s.present i ≡ true
unfolding joins
joins-present s J i h = and_left (s.present i) (not (cut_at s J i)) h

pub joins-uncut : (s : Stage) (J : Points) (i : ℕ) → joins s J i ≡ true → cut_at s J i ≡ false
unfolding joins
joins-uncut s J i h = not-true (cut_at s J i) (and_right (s.present i) (not (cut_at s J i)) h)

pub joins-yes : (s : Stage) (J : Points) (i : ℕ) → s.present i ≡ true → cut_at s J i ≡ false → joins s J i ≡ true
unfolding joins
joins-yes s J i p c = and_intro p (ap not c)

pub cut_apart : (s : Stage) (J : Points) (i : ℕ) → cut_at s J i ≡ true → joins s J i ≡ false
unfolding joins
cut_apart s J i c = and_no_right (s.present i) (ap not c)

pub absent-apart : (s : Stage) (J : Points) (i : ℕ) → s.present i ≡ false → joins s J i ≡ false
unfolding joins
absent-apart s J i a = and_no_left (not (cut_at s J i)) a

module _ (s : Stage) (J : Points) (formed : Formed s) where
  pub joins-below : (i : ℕ) → joins s J i ≡ true → s.parent i < i
  joins-below i h = formed.below i (joins-present s J i h)

  -- more fuel changes nothing
  follow-more : (k m i : ℕ) → i ≤ k → i ≤ m → follow s J k i ≡ follow s J m i
  unfolding follow
  follow-more zero zero i p q = refl
  follow-more zero (suc m) i p q =
      by (joins s J i) (λ yes. absurd (native.Mathlib.Nat.lt_irrefl 0 (omega (arith, joins-below i yes)))) (λ no. rw no)
  follow-more (suc k) zero i p q =
      by (joins s J i) (λ yes. absurd (native.Mathlib.Nat.lt_irrefl 0 (omega (arith, joins-below i yes)))) (λ no. rw no)
  follow-more (suc k) (suc m) i p q =
      by (joins s J i)
      (λ yes. let b = joins-below i yes in rw yes (follow-more k m (s.parent i) (omega arith) (omega arith)))
      (λ no. rw no)

  follow-≤ : (k i : ℕ) → follow s J k i ≤ i
  unfolding follow
  follow-≤ zero i = omega arith
  follow-≤ (suc k) i =
      by (joins s J i)
      (λ yes. let b = joins-below i yes in let r = follow-≤ k (s.parent i) in rw yes (omega arith))
      (λ no. rw no (omega arith))

  follow-end : (k i : ℕ) → i ≤ k → joins s J (follow s J k i) ≡ false
  unfolding follow
  follow-end zero i p =
      by (joins s J i) (λ yes. absurd (native.Mathlib.Nat.lt_irrefl 0 (omega (arith, joins-below i yes)))) (λ no. no)
  follow-end (suc k) i p =
      by (joins s J i)
      (λ yes. let b = joins-below i yes in rw yes (follow-end k (s.parent i) (omega arith)))
      (λ no. rw no no)

  -- a joining wire's two nodes have one lowest node
  pub lowest_node-up : (i : ℕ) → joins s J i ≡ true → lowest_node s J i ≡ lowest_node s J (s.parent i)
  unfolding lowest_node follow
  lowest_node-up i j =
      let b = joins-below i j in
      let more : follow s J i i ≡ cond (joins s J i) (follow s J i (s.parent i)) i = follow-more i (suc i) i (omega arith) (omega arith) in
      more ∙ rw j (follow-more i (s.parent i) (s.parent i) (omega arith) (omega arith))

  pub lowest_node-stop : (i : ℕ) → joins s J i ≡ false → lowest_node s J i ≡ i
  unfolding lowest_node follow
  lowest_node-stop i j =
      let more : follow s J i i ≡ cond (joins s J i) (follow s J i (s.parent i)) i = follow-more i (suc i) i (omega arith) (omega arith) in
      more ∙ rw j

  pub lowest_node-≤ : (i : ℕ) → lowest_node s J i ≤ i
  unfolding lowest_node
  lowest_node-≤ i = follow-≤ i i

  pub lowest_node-inside : (i : ℕ) → i < s.nodes → lowest_node s J i < s.nodes
  lowest_node-inside i p = let r = lowest_node-≤ i in omega arith

  -- the wire above a lowest node is absent or cut
  pub lowest_node-end : (i : ℕ) → joins s J (lowest_node s J i) ≡ false
  unfolding lowest_node
  lowest_node-end i = follow-end i i (omega arith)

  pub lowest_node_again : (i : ℕ) → lowest_node s J (lowest_node s J i) ≡ lowest_node s J i
  lowest_node_again i = lowest_node-stop (lowest_node s J i) (lowest_node-end i)

  pub head_apart : (h : ℕ) → lowest_node s J h ≡ h → joins s J h ≡ false
  head_apart h e = rw e at (lowest_node-end h)
