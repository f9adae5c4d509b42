-- The points of a text read again: the first of some that stands at a place.
-- Assumes nothing.
use Rattle.std.specs.Prelude.{ℕ, zero, suc, Bool, not, ◌&&◌, cond, List, [], ◌∷◌, Option, Some, None, eqb, ltb}
use Rattle.std.specs.Option.{option_map}
use Rattle.paths.specs.declared.Point.{Point}
use Rattle.paths.specs.Form.{points_of}

-- the point stands at x, y in a path of a layer from low to high
unfoldable pub stands_within : ℕ → ℕ → ℕ → ℕ → Point → Bool
stands_within x y low high p = eqb p.x x && (eqb p.y y && (not (ltb p.layer low) && not (ltb high p.layer)))

-- which of at most n points is the first that passes a test
unfoldable pub first_point : (Point → Bool) → ℕ → List Point → Option ℕ
first_point test zero points = None
first_point test (suc n) [] = None
first_point test (suc n) (p ∷ points) = cond (test p) (Some zero) (option_map suc (first_point test n points))

unfoldable pub first_read : List ℕ → ℕ → ℕ → ℕ → ℕ → ℕ → ℕ → Option ℕ
first_read text place n x y low high = first_point (stands_within x y low high) n (points_of text place)
