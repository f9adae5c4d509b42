-- The points of a text in order: each `(` stands behind the one before, and before the word that leaves the form or the end.
-- Assumes nothing.
use Prim.Native.Nat.{ℕ, zero, suc, ◌+◌, ◌≤◌}
use Rattle.std.specs.Prelude.{◌≡◌, List, [], ◌∷◌, Result, Ok, Err, length}
use native.Mathlib.Omega.{arith}
use Rattle.paths.specs.declared.Point.{Point}
use Rattle.paths.specs.declared.Wrong.{Wrong}
use Rattle.paths.specs.declared.Read.{Read}
use Rattle.paths.specs.declared.Read.TheVariants.{End, Whole}
use Rattle.paths.specs.Form.{behind, beginning, point_in, onward, read_points, read_ending, start, points_of, ending_of}
use Rattle.paths.specs.FormLaws.{Sound, beginning-sound, behind-sound, start-within}

-- the places of the points rise strictly: the first is not below `from`, the last is below `to`
unfoldable pub RisingTo : ℕ → List Point → ℕ → Type 0
RisingTo from [] to = from ≤ to
RisingTo from (p ∷ points) to = (from ≤ p.at) × RisingTo (p.at + 1) points to

pub rising-≤ : (from : ℕ) (points : List Point) (to : ℕ) → RisingTo from points to → from ≤ to
unfolding RisingTo
rising-≤ from [] to h = h
rising-≤ from (p ∷ points) to h = omega (arith, rising-≤ (p.at + 1) points to h.1)

-- where reading stops
abbrev stop : Result Read Wrong → ℕ
stop (Err w) = w.0
stop (Ok (End next)) = next
stop (Ok (Whole p next)) = next

module _ (text : List ℕ) where
  read_rise : (n from place : ℕ) (r : Result Read Wrong) → from ≤ place → Sound text place r → RisingTo from (read_points n text r) (stop (read_ending n text r))
  unfolding RisingTo read_points read_ending point_in onward
  read_rise zero from place (Err w) h s = omega arith
  read_rise zero from place (Ok (End next)) h s = omega arith
  read_rise zero from place (Ok (Whole p next)) h s = omega arith
  read_rise (suc n) from place (Err w) h s = read_rise n from place (Err w) h s
  read_rise (suc n) from place (Ok (End next)) h s = read_rise n from place (Ok (End next)) h s
  read_rise (suc n) from place (Ok (Whole p next)) h s =
      (omega arith, read_rise n (p.at + 1) next (behind text next p) (omega arith) (behind-sound text next p s.2 s.3))

  -- from where reading starts to where the text leaves the form, or to the place after its end
  module _ (place : ℕ) where
    points-rise : RisingTo (start text place) (points_of text place) (stop (ending_of text place))
    unfolding points_of ending_of
    points-rise =
        let from = start text place in
        read_rise (suc (length text)) from from (beginning text from) (omega arith) (beginning-sound text from (start-within text place))

    pub points_before_wrong : (w : Wrong) → ending_of text place ≡ Err w → RisingTo (start text place) (points_of text place) w.0
    points_before_wrong w e = rw e at points-rise

    pub points_before_end : (next : ℕ) → ending_of text place ≡ Ok (End next) → RisingTo (start text place) (points_of text place) next
    points_before_end next e = rw e at points-rise
