-- Laws of the points of a wire: signed differences and directions against document 01's definitions.
-- Assumes nothing.
use Rattle.std.specs.Prelude.{ℕ, zero, suc, ◌+◌, ◌-◌, ◌*◌, ◌^◌, ◌<◌, ◌≤◌, ◌≡◌, refl, ◌⊎◌, Bool, true, false, ◌&&◌, cond, List, get_or, ℤ, pos, negsuc, neg_ℤ, ◌+ℤ◌, ◌-ℤ◌, ◌*ℤ◌, leb, ltb}
use Rattle.std.proofs.Common.{sym, ◌∙◌, ap, arith, SFits, to_z, of_z, to_z-of_z, ltb-true, ltb-false, lt-ltb, le-ltb, leb-true, le-leb}
use Rattle.std.proofs.Math.Logic.{inl, inr, ⊎_elim}
use Rattle.std.proofs.Math.IntN.{sub_ℕ}
use Rattle.std.specs.Int.Signed.{lt_z, mag}
use Rattle.std.specs.Int.{w32}
use Rattle.std.specs.Ordering.{match_ordering, int_cmp}
use Rattle.laws.specs.Sums.{by, no_both, and_left, and_right, and_intro}
use Rattle.net.specs.Layout.{node_bytes}
use Rattle.net.specs.Limits.{length_bound}
use Rattle.net.specs.Net.{distance, toward, node_count, node_x, node_y, wire_parent, wire_length, point_x, point_y}
use Rattle.net.specs.Accepted.{NetRight}
use Rattle.points.specs.Cuttable.{Checked, LastBelow, FirstAbove}

-- the direction from one coordinate towards another
abbrev pub heading : ℕ → ℕ → ℤ
heading from to = cond (ltb from to) (pos 1) (cond (ltb to from) (negsuc 0) (pos 0))

-- one of three numbers by a direction: falling, none or rising
abbrev pub by_direction : ℤ → ℕ → ℕ → ℕ → ℕ
by_direction (negsuc d) falling none rising = falling
by_direction (pos zero) falling none rising = none
by_direction (pos (suc d)) falling none rising = rising

-- the coordinate t steps in a direction
unfoldable pub stepped : ℕ → ℤ → ℕ → ℕ
stepped from d t = by_direction d (from - t) from (from + t)

-- every coordinate up to t steps in a direction is a number of 16 bits
pub data Reach (from : ℕ) : ℤ → ℕ → Type 0 where
  still : {t : ℕ} → from < length_bound → t < length_bound → Reach from (pos 0) t
  rising : {t : ℕ} → from + t < length_bound → Reach from (pos 1) t
  falling : {t : ℕ} → from < length_bound → t ≤ from → Reach from (negsuc 0) t

-- a signed difference
pub difference_is : (a b : ℕ) → pos a -ℤ pos b ≡ sub_ℕ a b
difference_is a zero = rw (le-ltb a 0 (omega arith)) (ap pos (omega arith))
difference_is a (suc b) = refl

pub difference_fits : (a b : ℕ) → a < length_bound → b < length_bound → mag (sub_ℕ a b) < length_bound
difference_fits a b ha hb =
    by (ltb a b) (λ h. rw h (omega arith)) (λ h. rw h (omega arith))

-- its sign
pub difference_negative : (a b : ℕ) → lt_z (sub_ℕ a b) (pos 0) ≡ ltb a b
difference_negative a b = sign (ltb a b) (b - suc a) (a - b)
  where
    sign : (t : Bool) (n m : ℕ) → lt_z (cond t (negsuc n) (pos m)) (pos 0) ≡ t
    sign true n m = refl
    sign false n m = le-ltb m 0 (omega arith)

pub difference_positive : (a b : ℕ) → lt_z (pos 0) (sub_ℕ a b) ≡ ltb b a
difference_positive a b =
    by (ltb a b) (λ h. rw h (sym (le-ltb b a (omega (arith, ltb-true a b h)))))
    (λ h. rw h (by (ltb b a) (λ g. rw g (lt-ltb 0 (a - b) (omega (arith, ltb-true b a g)))) (λ g. rw g (le-ltb 0 (a - b) (omega (arith, ltb-false b a g))))))

-- the same of a difference read back from its bits
pub difference_read : {d : ℤ} → mag d < 2 ^ 31 → to_z w32 (of_z w32 d) ≡ d
difference_read f = to_z-of_z {w = w32} (record { sfits = f })

pub negative_read : {d : ℤ} (a b : ℕ) → mag d < 2 ^ 31 → d ≡ sub_ℕ a b → lt_z (to_z w32 (of_z w32 d)) (pos 0) ≡ ltb a b
negative_read a b f e = rw (difference_read f, e) (difference_negative a b)

pub positive_read : {d : ℤ} (a b : ℕ) → mag d < 2 ^ 31 → d ≡ sub_ℕ a b → lt_z (pos 0) (to_z w32 (of_z w32 d)) ≡ ltb b a
positive_read a b f e = rw (difference_read f, e) (difference_positive a b)

-- where it is negative, and where it is not
pub difference_below : (a b : ℕ) → a < b → neg_ℤ (sub_ℕ a b) ≡ pos (b - a)
difference_below a b h = rw (lt-ltb a b h) (ap pos (omega arith))

pub difference_above : (a b : ℕ) → b ≤ a → sub_ℕ a b ≡ pos (a - b)
difference_above a b h = rw (le-ltb a b h)

-- the coordinate t steps in a direction, as signed numbers
pub steps-down : (t : ℕ) → negsuc 0 *ℤ pos t ≡ neg_ℤ (pos t)
steps-down t = let e : suc 0 * t ≡ t = omega arith in ap (λ (n : ℕ). neg_ℤ (pos n)) e

pub steps-fit : {from t : ℕ} {d : ℤ} → Reach from d t → mag (d *ℤ pos t) < length_bound
steps-fit (still h g) = omega arith
steps-fit (rising h) = omega arith
steps-fit {t = t} (falling h g) = rw (steps-down t) (small t (omega arith))
  where
    small : (n : ℕ) → n < length_bound → mag (neg_ℤ (pos n)) < length_bound
    small zero f = omega arith
    small (suc n) f = omega arith

pub stepped_is : {from t : ℕ} {d : ℤ} → Reach from d t → pos from +ℤ d *ℤ pos t ≡ pos (stepped from d t)
unfolding stepped
stepped_is (still h g) = ap pos (omega arith)
stepped_is (rising h) = ap pos (omega arith)
stepped_is {from} {t} (falling h g) = rw (steps-down t) (difference_is from t ∙ difference_above from t g)

pub stepped-fits : {from t : ℕ} {d : ℤ} → Reach from d t → stepped from d t < length_bound
unfolding stepped
stepped-fits (still h g) = h
stepped-fits (rising h) = h
stepped-fits (falling h g) = omega arith

pub reach-steps : {from t : ℕ} {d : ℤ} → Reach from d t → t < length_bound
reach-steps (still h g) = g
reach-steps (rising h) = omega arith
reach-steps (falling h g) = omega arith

-- fewer steps reach no further
pub reach_less : {from t s : ℕ} {d : ℤ} → Reach from d t → s ≤ t → Reach from d s
reach_less {s = s} (still h g) l = still {t = s} h (omega arith)
reach_less {s = s} (rising h) l = rising {t = s} (omega arith)
reach_less {s = s} (falling h g) l = falling {t = s} h (omega arith)

-- towards another coordinate, as far as that
pub stepped-toward : (from to t : ℕ) → stepped from (heading from to) t ≡ toward from to t
unfolding stepped
stepped-toward from to t = pick (ltb from to) (ltb to from)
  where
    pick : (up down : Bool) → stepped from (cond up (pos 1) (cond down (negsuc 0) (pos 0))) t ≡ cond up (from + t) (cond down (from - t) from)
    pick true down = refl
    pick false true = refl
    pick false false = refl

pub reach-toward : (from to t : ℕ) → from < length_bound → to < length_bound → t < length_bound → (from ≡ to) ⊎ (t ≤ distance from to) → Reach from (heading from to) t
reach-toward from to t hf ht h = ⊎_elim same apart
  where
    same : from ≡ to → Reach from (heading from to) t
    same e = rw (le-ltb from to (omega arith), le-ltb to from (omega arith)) (still hf h)

    apart : t ≤ distance from to → Reach from (heading from to) t
    apart l =
        by (ltb from to) (λ u. rw u (rising {t = t} (omega (arith, ltb-true from to u))))
        (λ u. by (ltb to from) (λ v. rw (u, v) (falling {t = t} hf (omega (arith, ltb-true to from v)))) (λ v. rw (u, v) (still hf h)))

-- an obstacle's stretch of a wire on one axis, where it covers the coordinates low to high: the last position below it and the first above
unfoldable pub last_below : ℕ → ℤ → ℕ → ℕ → ℕ
last_below from d low high = by_direction d (from - high - 1) 0 (low - from - 1)

unfoldable pub first_above : ℕ → ℤ → ℕ → ℕ → ℕ → ℕ
first_above from d low high end = by_direction d (from - low + 1) end (high - from + 1)

-- a coordinate between two, as a test
abbrev pub between : ℕ → ℕ → ℕ → Bool
between low high x = leb low x && leb x high

within : (low high x : ℕ) → between low high x ≡ true → (low ≤ x) × (x ≤ high)
within low high x h =
    (leb-true low x (and_left (leb low x) (leb x high) h), leb-true x high (and_right (leb low x) (leb x high) h))

is_between : (low high x : ℕ) → (low ≤ x) × (x ≤ high) → between low high x ≡ true
is_between low high x h = and_intro (le-leb low x h.0) (le-leb x high h.1)

pub axis_below : (from : ℕ) (d : ℤ) (low high : ℕ) → LastBelow (λ t. between low high (stepped from d t)) (last_below from d low high)
unfolding stepped last_below
axis_below from (pos zero) low high t p h = (p, λ s l m. h)
axis_below from (pos (suc d)) low high t p h =
    let b = within low high (from + t) h in
    (omega arith, λ s l m. is_between low high (from + s) (omega arith, omega arith))
axis_below from (negsuc d) low high t p h =
    let b = within low high (from - t) h in
    (omega arith, λ s l m. is_between low high (from - s) (omega arith, omega arith))

pub axis_above : {from end : ℕ} {d : ℤ} (low high : ℕ) → Reach from d end → FirstAbove (λ t. between low high (stepped from d t)) end (first_above from d low high end)
unfolding stepped first_above
axis_above low high (still f g) t p h = (p, λ s l m. h)
axis_above {from} low high (rising f) t p h =
    let b = within low high (from + t) h in
    (omega arith, λ s l m. is_between low high (from + s) (omega arith, omega arith))
axis_above {from} low high (falling f g) t p h =
    let b = within low high (from - t) h in
    (omega arith, λ s l m. is_between low high (from - s) (omega arith, omega arith))

-- where two tests both pass: the later of two positions below, the earlier of two above
pub both_below : {p q : ℕ → Bool} {a b r : ℕ} → LastBelow p a → LastBelow q b → a ≤ r → b ≤ r → (r ≡ a) ⊎ (r ≡ b) → LastBelow (λ t. p t && q t) r
both_below {p} {q} {a} {b} {r} f g l m o t z h =
    let x = f t z (and_left (p t) (q t) h) in
    let y = g t z (and_right (p t) (q t) h) in
    (⊎_elim {C = r < t} (λ e. omega arith) (λ e. omega arith) o, λ s u v. and_intro (x.1 s (omega arith) v) (y.1 s (omega arith) v))

pub both-above : {p q : ℕ → Bool} {end a b r : ℕ} → FirstAbove p end a → FirstAbove q end b → r ≤ a → r ≤ b → (r ≡ a) ⊎ (r ≡ b) → FirstAbove (λ t. p t && q t) end r
both-above {p} {q} {end} {a} {b} {r} f g l m o t z h =
    let x = f t z (and_left (p t) (q t) h) in
    let y = g t z (and_right (p t) (q t) h) in
    (⊎_elim {C = t < r} (λ e. omega arith) (λ e. omega arith) o, λ s u v. and_intro (x.1 s u (omega arith)) (y.1 s u (omega arith)))

-- the three cases by the tests of a direction that is read from its bits
pub falls_read : {d : ℤ} (a b c : ℕ) → SFits w32 d → lt_z (to_z w32 (of_z w32 d)) (pos 0) ≡ true → by_direction d a b c ≡ a
falls_read {d} a b c f h = cases d (rw (to_z-of_z f) at h)
  where
    cases : (d : ℤ) → lt_z d (pos 0) ≡ true → by_direction d a b c ≡ a
    cases (pos n) g = let z = ltb-true n 0 g in omega arith
    cases (negsuc n) g = refl

pub rises_read : {d : ℤ} (a b c : ℕ) → SFits w32 d → lt_z (pos 0) (to_z w32 (of_z w32 d)) ≡ true → by_direction d a b c ≡ c
rises_read {d} a b c f h = cases d (rw (to_z-of_z f) at h)
  where
    cases : (d : ℤ) → lt_z (pos 0) d ≡ true → by_direction d a b c ≡ c
    cases (pos zero) g = let z = ltb-true 0 0 g in omega arith
    cases (pos (suc n)) g = refl
    cases (negsuc n) g = absurd (no_both g refl)

pub still_read : {d : ℤ} (a b c : ℕ) → SFits w32 d → lt_z (to_z w32 (of_z w32 d)) (pos 0) ≡ false → lt_z (pos 0) (to_z w32 (of_z w32 d)) ≡ false → by_direction d a b c ≡ b
still_read {d} a b c f h g = cases d (rw (to_z-of_z f) at h) (rw (to_z-of_z f) at g)
  where
    cases : (d : ℤ) → lt_z d (pos 0) ≡ false → lt_z (pos 0) d ≡ false → by_direction d a b c ≡ b
    cases (pos zero) u v = refl
    cases (pos (suc n)) u v = let z = ltb-false 0 (suc n) v in omega arith
    cases (negsuc n) u v = absurd (no_both refl u)

-- and by its comparison with 0
pub by_cmp : (d : ℤ) (a b c : ℕ) → match_ordering (int_cmp d (pos 0)) a b c ≡ by_direction d a b c
by_cmp (negsuc n) a b c = refl
by_cmp (pos zero) a b c = refl
by_cmp (pos (suc n)) a b c = rw (le-ltb (suc n) 0 (omega arith), lt-ltb 0 (suc n) (omega arith))

-- an accepted wire: its length, and the points up to it
module _ (nodes wires : List ℕ) (i : ℕ) (bytes : (k : ℕ) → get_or nodes k 0 < 256) (w : Checked nodes wires i) where
  x-small : (k : ℕ) → node_x nodes k < length_bound
  x-small k = omega (arith, bytes (node_bytes * k), bytes (node_bytes * k + 1))

  y-small : (k : ℕ) → node_y nodes k < length_bound
  y-small k = omega (arith, bytes (node_bytes * k + 2), bytes (node_bytes * k + 2 + 1))

  pub length-small : wire_length nodes wires i < length_bound
  unfolding wire_length
  length-small =
      let p = wire_parent wires i in
      ⊎_elim {C = wire_length nodes wires i < length_bound}
      (λ e. omega (arith, x-small i, y-small i, x-small p, y-small p))
      (λ e. omega (arith, x-small i, y-small i, x-small p, y-small p))
      w.straight

  pub reach-x : {t : ℕ} → t ≤ wire_length nodes wires i → Reach (node_x nodes i) (heading (node_x nodes i) (node_x nodes (wire_parent wires i))) t
  unfolding wire_length
  reach-x {t} l =
      let p = wire_parent wires i in
      reach-toward (node_x nodes i) (node_x nodes p) t (x-small i) (x-small p) (omega (arith, length-small))
      (⊎_elim (λ e. inl e) (λ e. inr (omega arith)) w.straight)

  pub reach-y : {t : ℕ} → t ≤ wire_length nodes wires i → Reach (node_y nodes i) (heading (node_y nodes i) (node_y nodes (wire_parent wires i))) t
  unfolding wire_length
  reach-y {t} l =
      let p = wire_parent wires i in
      reach-toward (node_y nodes i) (node_y nodes p) t (y-small i) (y-small p) (omega (arith, length-small))
      (⊎_elim (λ e. inr (omega arith)) (λ e. inl e) w.straight)

pub point_x_is : (nodes wires : List ℕ) (i t : ℕ) → stepped (node_x nodes i) (heading (node_x nodes i) (node_x nodes (wire_parent wires i))) t ≡ point_x nodes wires i t
unfolding point_x
point_x_is nodes wires i t = stepped-toward (node_x nodes i) (node_x nodes (wire_parent wires i)) t

pub point_y_is : (nodes wires : List ℕ) (i t : ℕ) → stepped (node_y nodes i) (heading (node_y nodes i) (node_y nodes (wire_parent wires i))) t ≡ point_y nodes wires i t
unfolding point_y
point_y_is nodes wires i t = stepped-toward (node_y nodes i) (node_y nodes (wire_parent wires i)) t

-- a wire of a net that meets none of 4 to 11 and 20
pub checked_of : {version : ℕ} {nodes wires obstacles : List ℕ} → NetRight version nodes wires obstacles → (i : ℕ) → 0 < i → i < node_count nodes → Checked nodes wires i
checked_of net i p l =
    let w = net.wire i p l in
    record { numbered = p; stored = omega (arith, net.sized.wires_length); node = l; parent = omega (arith, w.below); straight = w.straight }
