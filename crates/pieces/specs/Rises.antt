-- Two entries of a jumper list rise, by cases: by wire, or on one wire by position.
-- Assumes nothing.
use Rattle.std.specs.Prelude.{ℕ, ◌<◌, ◌≡◌, true, ◌&&◌, List, ltb, eqb}
use Rattle.std.proofs.Common.{⊎_elim, ltb-true, lt-ltb, eqb-true, eq-eqb}
use Rattle.laws.specs.Sums.{and_left, and_right, and_intro, or_cases, or_left, or_right}
use Rattle.pieces.specs.Legal.{entry_wire, entry_position, after}

pub data Rises (list : List ℕ) (d e : ℕ) : Type 0 where
  by-wire : entry_wire list d < entry_wire list e → Rises list d e
  by-position : entry_wire list d ≡ entry_wire list e → entry_position list d < entry_position list e → Rises list d e

pub after-rises : (list : List ℕ) (d e : ℕ) → after list d e ≡ true → Rises list d e
unfolding after
after-rises list d e h =
    ⊎_elim (λ a. by-wire (ltb-true (entry_wire list d) (entry_wire list e) a))
    (λ b.
    let w = eqb (entry_wire list d) (entry_wire list e) in
    let p = ltb (entry_position list d) (entry_position list e) in
    by-position (eqb-true _ _ (and_left w p b)) (ltb-true _ _ (and_right w p b)))
    (or_cases (ltb (entry_wire list d) (entry_wire list e)) (eqb (entry_wire list d) (entry_wire list e) && ltb (entry_position list d) (entry_position list e)) h)

pub rises-after : {list : List ℕ} {d e : ℕ} → Rises list d e → after list d e ≡ true
unfolding after
rises-after {list} {d} {e} (by-wire p) =
    or_left (eqb (entry_wire list d) (entry_wire list e) && ltb (entry_position list d) (entry_position list e)) (lt-ltb (entry_wire list d) (entry_wire list e) p)
rises-after {list} {d} {e} (by-position p q) =
    or_right (ltb (entry_wire list d) (entry_wire list e)) (and_intro (eq-eqb (entry_wire list d) (entry_wire list e) p) (lt-ltb (entry_position list d) (entry_position list e) q))
