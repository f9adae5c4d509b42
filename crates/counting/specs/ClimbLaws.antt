-- Why the highest open position up to a bound is the last within the limit, and the endings of a climb.
-- Assumes nothing.
use Rattle.std.specs.Prelude.{ℕ, ◌+◌, ◌-◌, ◌*◌, ◌/◌, ◌≤◌, ◌<◌, ◌≡◌, refl, true, false, ◌&&◌, List, leb, ltb, Option, None, Some, IsSomeAnd}
use Rattle.std.proofs.Math.Bool.{not}
use Rattle.std.proofs.Common.{arith, mul-le-mul_left}
use Rattle.std.proofs.Math.Nat.{mul-div-le, lt-mul-div-succ, lt_of_mul-lt-mul_left}
use borrow.Author.Tests.{leb-true, ltb-true, le-leb, lt-ltb, lt-leb, not-true}
use Rattle.laws.specs.Sums.{by, no_both, and_left, and_right}
use Rattle.laws.specs.Numbers.{Bytes}
use Rattle.net.specs.Layout.{newest}
use Rattle.net.specs.Limits.{length_bound}
use Rattle.points.specs.Geometry.{length-small}
use Rattle.net.specs.Net.{wire_factor, wire_length, barred}
use Rattle.points.specs.Cuttable.{Highest}
use Rattle.cuts.specs.Passes.{without-gate, within_limit, with-jumper}
use Rattle.clusters.specs.declared.work.Jumper.{Jumper}
use Rattle.clusters.specs.Stretch.{stretch_weight}
use Rattle.counting.specs.declared.close.Closing.{Closing}
use Rattle.counting.specs.declared.climb.Climbing.{Climbing}
use Rattle.counting.specs.Close.{any_weight, ungated_ok, ungated_weight}
use Rattle.counting.specs.Climb.{open_at, Branch, LastWithin, Climbs}

module _ (ns ws os : List ℕ) (i : ℕ) where
  pub open_low : (t : ℕ) → open_at ns ws os i t ≡ true → 1 ≤ t
  unfolding open_at
  open_low t e = leb-true 1 t (and_left (leb 1 t) (ltb t (wire_length ns ws i) && not (barred newest 0 ns ws os i t)) e)

  inner : (t : ℕ) → open_at ns ws os i t ≡ true → (ltb t (wire_length ns ws i) && not (barred newest 0 ns ws os i t)) ≡ true
  unfolding open_at
  inner t e = and_right (leb 1 t) (ltb t (wire_length ns ws i) && not (barred newest 0 ns ws os i t)) e

  pub open_high : (t : ℕ) → open_at ns ws os i t ≡ true → t < wire_length ns ws i
  open_high t e = ltb-true t (wire_length ns ws i) (and_left (ltb t (wire_length ns ws i)) (not (barred newest 0 ns ws os i t)) (inner t e))

  pub open_clear : (t : ℕ) → open_at ns ws os i t ≡ true → barred newest 0 ns ws os i t ≡ false
  open_clear t e = not-true (barred newest 0 ns ws os i t) (and_right (ltb t (wire_length ns ws i)) (not (barred newest 0 ns ws os i t)) (inner t e))

  pub open_if : (t : ℕ) → 1 ≤ t → t < wire_length ns ws i → barred newest 0 ns ws os i t ≡ false → open_at ns ws os i t ≡ true
  unfolding open_at
  open_if t a b c = rw (le-leb 1 t a, lt-ltb t (wire_length ns ws i) b, c)

-- so the highest one is below each length
pub hi-short : {ns ws os : List ℕ} {i lo hi : ℕ} → Bytes ns → Branch ns ws os i lo hi → hi < length_bound
hi-short {ns} {ws} {os} {i} {lo} {hi} bytes b = let high = open_high ns ws os i hi b.hi_open in omega (arith, length-small ns ws i bytes b.checked)

-- so many steps of one factor are within a number
steps-within : (x f k : ℕ) → 0 < f → k ≤ x / f → f * k ≤ x
steps-within x f k p h = let a = mul-le-mul_left f h in let b = mul-div-le x f in omega arith

within-steps : (x f k : ℕ) → 0 < f → f * k ≤ x → k ≤ x / f
within-steps x f k p h =
    let a = lt-mul-div-succ x p in
    let b = lt_of_mul-lt-mul_left f {m = k} {n = x / f + 1} (omega arith) in
    omega arith

-- fewer steps than would pass the limit
pub steps-fewer : (x f k : ℕ) → 0 < f → x < f * k → x / f < k
steps-fewer x f k p h = lt_of_mul-lt-mul_left f {m = x / f} {n = k} (let b = mul-div-le x f in omega arith)

pub last_within :
    (ns ws os : List ℕ) (i lo hi weight limit : ℕ) (found : Option ℕ) →
    Branch ns ws os i lo hi →
    weight ≤ limit →
    limit < weight + stretch_weight ws i lo hi →
    Highest (barred newest 0 ns ws os i) (lo + (limit - weight) / wire_factor ws i) found →
    IsSomeAnd found (LastWithin ns ws os i lo hi weight limit)
last_within ns ws os i lo hi weight limit None b w l h =
    let one = open_low ns ws os i lo b.lo_open in
    absurd (no_both (h lo (omega arith) (omega arith)) (open_clear ns ws os i lo b.lo_open))
last_within ns ws os i lo hi weight limit (Some near) b w l h =
    let f = wire_factor ws i in
    let x = limit - weight in
    let pos : 0 < f = omega (arith, b.factor) in
    let fewer : x / f < hi - lo = steps-fewer x f (hi - lo) pos (omega arith) in
    let low : lo ≤ near =
    by (ltb near lo)
    (λ e. absurd (no_both (h.above lo (ltb-true near lo e) (omega arith)) (open_clear ns ws os i lo b.lo_open)))
    (λ e. borrow.Author.Tests.ltb-false near lo e) in
    let one = open_low ns ws os i lo b.lo_open in
    let end = open_high ns ws os i hi b.hi_open in
    record {
      is_open = open_if ns ws os i near (omega arith) (omega (arith, h.within)) h.free;
      within = let z = steps-within x f (near - lo) pos (omega (arith, h.within)) in omega arith;
      highest = λ t o y.
          by (ltb near t)
          (λ e.
          let z = within-steps x f (t - lo) pos (omega arith) in
          absurd (no_both (h.above t (ltb-true near t e) (omega arith)) (open_clear ns ws os i t o)))
          (λ e. borrow.Author.Tests.ltb-false near t e);
      before_hi = omega (arith, h.within);
    }

-- so the search begins below hi
pub steps-inside :
    (ns ws os : List ℕ) (i lo hi weight limit : ℕ) →
    Branch ns ws os i lo hi →
    weight ≤ limit →
    limit < weight + stretch_weight ws i lo hi →
    lo + (limit - weight) / wire_factor ws i < hi
steps-inside ns ws os i lo hi weight limit b w l =
    let z = steps-fewer (limit - weight) (wire_factor ws i) (hi - lo) (omega (arith, b.factor)) (omega arith) in omega arith

-- ---- the endings of a climb
module _ (ns ws os : List ℕ) (i lo hi limit : ℕ) (x : Closing) (y : Climbing) where
  pub climbs_light :
      ungated_ok x.options ≡ true →
      any_weight x.options + stretch_weight ws i lo hi ≤ limit →
      y ≡ record { count = x.fewest; lightest = any_weight x.options + stretch_weight ws i lo hi; ungated = Some (ungated_weight x.options + stretch_weight ws i lo hi); near = None } →
      Climbs ns ws os i lo hi limit x y
  climbs_light o h e = rw e (without-gate o refl refl refl refl (rw (le-leb _ _ h)))

  pub climbs_ungated :
      ungated_ok x.options ≡ true →
      limit < any_weight x.options + stretch_weight ws i lo hi →
      y ≡ record { count = x.fewest; lightest = ungated_weight x.options + stretch_weight ws i lo hi; ungated = Some (ungated_weight x.options + stretch_weight ws i lo hi); near = None } →
      Climbs ns ws os i lo hi limit x y
  climbs_ungated o h e = rw e (without-gate o refl refl refl refl (rw (lt-leb _ _ h)))

  pub climbs_within :
      ungated_ok x.options ≡ false →
      any_weight x.options + stretch_weight ws i lo hi ≤ limit →
      y ≡ record { count = x.fewest; lightest = any_weight x.options + stretch_weight ws i lo hi; ungated = None; near = None } →
      Climbs ns ws os i lo hi limit x y
  climbs_within o h e = rw e (within_limit o h refl refl refl refl)

  pub climbs_jumper :
      (near : Jumper) →
      ungated_ok x.options ≡ false →
      limit < any_weight x.options + stretch_weight ws i lo hi →
      LastWithin ns ws os i lo hi (any_weight x.options) limit near.position →
      y ≡ record { count = x.fewest + 1; lightest = stretch_weight ws i near.position hi; ungated = Some (stretch_weight ws i near.position hi); near = Some near } →
      Climbs ns ws os i lo hi limit x y
  climbs_jumper near o h l e = rw e (with-jumper o h refl l.is_open l.within l.highest refl refl refl)
