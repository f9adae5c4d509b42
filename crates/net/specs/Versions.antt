-- Laws of the versions of net files, and of the records that obstacles take in each.
-- Assumes nothing.
use Rattle.std.specs.Prelude.{ℕ, ◌+◌, ◌*◌, ◌/◌, ◌%◌, ◌<◌, ◌≤◌, ◌≡◌, Bool, true, false, cond, List, ◌⊎◌, length, eqb}
use Rattle.std.proofs.Common.{inl, inr, arith, eqb-true, ne_eqb}
use Rattle.laws.specs.Sums.{by}
use Rattle.net.specs.Layout.{newest, obstacle_bytes}
use Rattle.net.specs.Net.{obstacle_count}
use Rattle.net.specs.Refusal.{is_version}

-- a version is 1 or 2
version_cases : (v : ℕ) → is_version v ≡ true → (v ≡ 1) ⊎ (v ≡ newest)
unfolding is_version
version_cases v e = by (eqb v 1) (λ h. inl (eqb-true v 1 h)) (λ h. inr (eqb-true v newest (rw h at e)))

pub version_low : (v : ℕ) → is_version v ≡ true → v ≤ newest
version_low v e = small (version_cases v e)
  where
    small : (v ≡ 1) ⊎ (v ≡ newest) → v ≤ newest
    small (inl h) = omega arith
    small (inr h) = omega arith

-- an obstacle has eight or nine bytes: what holds of both widths holds of every version's
pub of_width : (P : ℕ → Type 0) → P 8 → P 9 → (v : ℕ) → P (obstacle_bytes v)
of_width P eight nine v = pick (eqb v 1)
  where
    pick : (b : Bool) → P (cond b 8 9)
    pick true = eight
    pick false = nine

pub bytes_low : (v : ℕ) → 8 ≤ obstacle_bytes v
bytes_low v = of_width (λ w. 8 ≤ w) (omega arith) (omega arith) v

pub bytes_high : (v : ℕ) → obstacle_bytes v ≤ 9
bytes_high v = of_width (λ w. w ≤ 9) (omega arith) (omega arith) v

-- it ends with its layer where the version is not 1
bytes_nine : (v : ℕ) → (v ≡ 1 → ⊥) → obstacle_bytes v ≡ 9
bytes_nine v n = rw (ne_eqb v 1 n)

module _ (v : ℕ) (os : List ℕ) where
  -- a section is whole records exactly if their length divides its length
  pub section_whole : length os % obstacle_bytes v ≡ 0 → length os ≡ obstacle_bytes v * obstacle_count v os
  section_whole = of_width (λ w. length os % w ≡ 0 → length os ≡ w * (length os / w)) (λ e. omega arith) (λ e. omega arith) v

  pub whole_section : length os ≡ obstacle_bytes v * obstacle_count v os → length os % obstacle_bytes v ≡ 0
  whole_section = of_width (λ w. length os ≡ w * (length os / w) → length os % w ≡ 0) (λ e. omega arith) (λ e. omega arith) v

  -- the records lie in their section
  pub records-inside : obstacle_bytes v * obstacle_count v os ≤ length os
  records-inside = of_width (λ w. w * (length os / w) ≤ length os) (omega arith) (omega arith) v

  -- few obstacles take few bytes
  pub section_short : (n : ℕ) → length os ≡ obstacle_bytes v * obstacle_count v os → obstacle_count v os ≤ n → length os ≤ 9 * n
  section_short n = of_width (λ w. length os ≡ w * (length os / w) → length os / w ≤ n → length os ≤ 9 * n) (λ e h. omega arith) (λ e h. omega arith) v

  -- each record lies in its section
  module _ (k : ℕ) where
    record_inside : k < obstacle_count v os → obstacle_bytes v * k + obstacle_bytes v ≤ length os
    record_inside = of_width (λ w. k < length os / w → w * k + w ≤ length os) (λ h. omega arith) (λ h. omega arith) v

    -- and so do its corners, its first eight bytes
    pub corners-inside : (b : ℕ) → b ≡ obstacle_bytes v → k < obstacle_count v os → b * k + 8 ≤ length os
    corners-inside b e h = rw e (omega (arith, record_inside h, bytes_low v))

    -- and its layer, where it has one
    pub layer-inside : (v ≡ 1 → ⊥) → k < obstacle_count v os → 9 * k + 8 < length os
    layer-inside n h = omega (arith, rw (bytes_nine v n) at (record_inside h))
