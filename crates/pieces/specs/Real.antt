-- The elements that are there, by cases: a node, or a step of a present wire.
-- Assumes nothing.
use Rattle.std.specs.Prelude.{ℕ, ◌≤◌, ◌<◌, ◌≡◌, true, ◌&&◌, leb}
use Rattle.std.proofs.Common.{ltb-true, leb-true, lt-ltb, le-leb}
use Rattle.laws.specs.Sums.{and_left, and_right, and_intro}
use Rattle.net.specs.Stage.{Stage}
use Rattle.pieces.specs.Piece.{Element, node, step, is_real}

pub data Real (s : Stage) : Element → Type 0 where
  a_node : {i : ℕ} → i < s.nodes → Real s (node i)
  a_step : {i t : ℕ} → s.present i ≡ true → 1 ≤ t → t ≤ s.len i → Real s (step i t)

pub real_is : (s : Stage) {e : Element} → Real s e → is_real s e ≡ true
real_is s (a_node {i} p) = lt-ltb i s.nodes p
real_is s (a_step {i} {t} p l h) = and_intro p (and_intro (le-leb 1 t l) (le-leb t (s.len i) h))

pub is_real_lem : (s : Stage) (e : Element) → is_real s e ≡ true → Real s e
is_real_lem s (node i) h = a_node (ltb-true i s.nodes h)
is_real_lem s (step i t) h =
    let r = and_right (s.present i) (leb 1 t && leb t (s.len i)) h in
    a_step
    (and_left (s.present i) (leb 1 t && leb t (s.len i)) h)
    (leb-true 1 t (and_left (leb 1 t) (leb t (s.len i)) r))
    (leb-true t (s.len i) (and_right (leb 1 t) (leb t (s.len i)) r))
