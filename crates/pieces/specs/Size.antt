-- The number of points of a set: of a list, of a set less a point, of none and of one.
-- Assumes nothing.
use Rattle.std.specs.Prelude.{ℕ, zero, suc, ◌+◌, ◌≤◌, ◌<◌, ◌≡◌, Bool, not, ◌&&◌, ◌||◌, List, eqb}
use Rattle.std.proofs.Math.Path.{refl, fun_ext}
use Rattle.std.proofs.Common.{◌∙◌, eqb-true, eq-eqb}
use Rattle.std.proofs.Math.Bool.{true, false}
use native.Mathlib.Omega.{arith}
use native.Mathlib.Nat.{le_trans}
use Rattle.laws.specs.Sum.{χ, sum, any}
use Rattle.laws.specs.Sums.{by, and_left, and_right, and_intro, sum-zero, sum_ap, sum-≤, sum-+, sum_pick-≤, sum-some, term-≤, χ-yes, not_true_false}
use Rattle.net.specs.Stage.{Stage}
use Rattle.net.specs.Formed.{Formed}
use Rattle.pieces.specs.Piece.{Points}
use Rattle.pieces.specs.Legal.{Free, size, listed, entry_wire, entry_position}

-- a point is counted once
one_point : (s : Stage) (i t : ℕ) → sum s.nodes (λ j. sum (s.len j) (λ p. χ (eqb i j && eqb t p) 1)) ≤ 1
one_point s i t = le_trans (sum-≤ s.nodes (λ j lt. row j)) (sum_pick-≤ s.nodes i 1)
  where
    row : (j : ℕ) → sum (s.len j) (λ p. χ (eqb i j && eqb t p) 1) ≤ χ (eqb i j) 1
    row j = by (eqb i j) (λ e. rw e (sum_pick-≤ (s.len j) t 1)) (λ e. rw e (let z = sum-zero (s.len j) {f = λ p. 0} (λ p lt. refl) in omega arith))

pub either : (a b : Bool) → χ (a || b) 1 ≤ χ a 1 + χ b 1
either true b = omega arith
either false b = omega arith

-- a list of n entries has at most n points
pub listed-size : (s : Stage) (list : List ℕ) (n : ℕ) → size s (listed list n) ≤ n
unfolding size listed any
listed-size s list zero = let z = sum-zero s.nodes {f = λ i. sum (s.len i) (λ t. 0)} (λ i lt. sum-zero (s.len i) (λ t lt'. refl)) in omega arith
listed-size s list (suc n) =
    let a = listed-size s list n in
    let b = one_point s (entry_wire list n) (entry_position list n) in
    let more =
    sum-≤ s.nodes
    {f = λ i. sum (s.len i) (λ t. χ (any n (λ e. eqb (entry_wire list e) i && eqb (entry_position list e) t) || (eqb (entry_wire list n) i && eqb (entry_position list n) t)) 1)}
    {g = λ i. sum (s.len i) (λ t. χ (any n (λ e. eqb (entry_wire list e) i && eqb (entry_position list e) t)) 1) + sum (s.len i) (λ t. χ (eqb (entry_wire list n) i && eqb (entry_position list n) t) 1)}
    (λ i lt.
    let c = sum-≤ (s.len i)
    {f = λ t. χ (any n (λ e. eqb (entry_wire list e) i && eqb (entry_position list e) t) || (eqb (entry_wire list n) i && eqb (entry_position list n) t)) 1}
    {g = λ t. χ (any n (λ e. eqb (entry_wire list e) i && eqb (entry_position list e) t)) 1 + χ (eqb (entry_wire list n) i && eqb (entry_position list n) t) 1}
    (λ t lt'. either (any n (λ e. eqb (entry_wire list e) i && eqb (entry_position list e) t)) (eqb (entry_wire list n) i && eqb (entry_position list n) t)) in
    let d = sum-+ (s.len i) (λ t. χ (any n (λ e. eqb (entry_wire list e) i && eqb (entry_position list e) t)) 1) (λ t. χ (eqb (entry_wire list n) i && eqb (entry_position list n) t) 1) in
    omega arith) in
    let apart =
    sum-+ s.nodes
    (λ i. sum (s.len i) (λ t. χ (any n (λ e. eqb (entry_wire list e) i && eqb (entry_position list e) t)) 1))
    (λ i. sum (s.len i) (λ t. χ (eqb (entry_wire list n) i && eqb (entry_position list n) t) 1)) in
    omega arith

-- no point, one point, a point more, a point less
abbrev pub empty : Points
empty i t = false

abbrev pub single : ℕ → ℕ → Points
single i t j p = eqb i j && eqb t p

abbrev pub with : Points → ℕ → ℕ → Points
with J i t j p = single i t j p || J j p

abbrev pub without : Points → ℕ → ℕ → Points
without J i t j p = not (single i t j p) && J j p

-- every point may be cut
abbrev pub AllFree : Stage → Points → Type 0
AllFree s J = (i t : ℕ) → J i t ≡ true → Free s i t

counted_point : (s : Stage) (J : Points) (i t : ℕ) → i < s.nodes → t < s.len i → J i t ≡ true → 1 ≤ size s J
unfolding size
counted_point s J i t p q h =
    let a = term-≤ (s.len i) t (λ x. χ (J i x) 1) q in
    let b = term-≤ s.nodes i (λ j. sum (s.len j) (λ x. χ (J j x) 1)) p in
    let c = χ-yes 1 h in
    omega arith

module _ (s : Stage) (formed : Formed s) (J : Points) (free : AllFree s J) where
  -- a set of no points is empty
  pub none-empty : size s J ≡ 0 → J ≡ empty
  none-empty e =
      fun_ext (λ i. fun_ext (λ t. not_true_false (J i t) (λ h. let f = free i t h in let c = counted_point s J i t (formed.inside i f.present) f.high h in omega arith)))

  -- a set less one of its points has one point less
  pub one_less : (i t : ℕ) → J i t ≡ true → size s J ≡ size s (without J i t) + 1
  unfolding size
  one_less i t h =
      let f = free i t h in
      let lt = formed.inside i f.present in
      let split =
      sum_ap s.nodes
      {f = λ j. sum (s.len j) (λ p. χ (J j p) 1)}
      {g = λ j. sum (s.len j) (λ p. χ (without J i t j p) 1) + sum (s.len j) (λ p. χ (single i t j p) 1)}
      (λ j q. sum_ap (s.len j) {g = λ p. χ (without J i t j p) 1 + χ (single i t j p) 1} (λ p r. at j p) ∙ sum-+ (s.len j) (λ p. χ (without J i t j p) 1) (λ p. χ (single i t j p) 1)) in
      let apart = sum-+ s.nodes (λ j. sum (s.len j) (λ p. χ (without J i t j p) 1)) (λ j. sum (s.len j) (λ p. χ (single i t j p) 1)) in
      let most = one_point s i t in
      let least = counted_point s (single i t) i t lt f.high (and_intro (eq-eqb i i refl) (eq-eqb t t refl)) in
      omega arith
    where
      one : (a b : Bool) → (a ≡ true → b ≡ true) → χ b 1 ≡ χ (not a && b) 1 + χ a 1
      one true b k = rw (k refl)
      one false b k = omega arith

      at : (j p : ℕ) → χ (J j p) 1 ≡ χ (without J i t j p) 1 + χ (single i t j p) 1
      at j p = one (single i t j p) (J j p) (λ k. rw (← eqb-true i j (and_left (eqb i j) (eqb t p) k), ← eqb-true t p (and_right (eqb i j) (eqb t p) k)) h)

  -- a set with points has one
  pub has_point : (n : ℕ) → size s J ≡ suc n → (i : ℕ) × (t : ℕ) × (J i t ≡ true)
  unfolding size
  has_point n e = go (sum-some s.nodes (λ j. sum (s.len j) (λ p. χ (J j p) 1)) (omega arith))
    where
      test : (b : Bool) → 0 < χ b 1 → b ≡ true
      test true h = refl
      test false h = absurd (native.Mathlib.Nat.lt_irrefl 0 (omega arith))

      go : (i : ℕ) × (i < s.nodes) × (0 < sum (s.len i) (λ p. χ (J i p) 1)) → (i : ℕ) × (t : ℕ) × (J i t ≡ true)
      go r = let w = sum-some (s.len r.0) (λ p. χ (J r.0 p) 1) r.2 in (r.0, w.0, test (J r.0 w.0) w.2)
