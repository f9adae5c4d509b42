-- `points::line::Axis::at` meets its contract. Assumes nothing.
use Rattle.std.proofs.Common.{ℕ, ℤ, pos, ◌+ℤ◌, ◌*ℤ◌, ◌≡◌, ap, nat_abs, w32, SFits, to_z, of_z, to_z-of_z, arith}
use mir.Facts.{to_z_pos}
use Rattle.points.specs.Geometry.{Reach, still, rising, falling, stepped, steps-fit, stepped_is, stepped-fits, reach-steps}
use Rattle.points.proofs.line.Axis.at.Goals as goal

step-fits : {from t : ℕ} {d : ℤ} → Reach from d t → SFits w32 d
step-fits (still h g) = record { sfits = omega arith }
step-fits (rising h) = record { sfits = omega arith }
step-fits (falling h g) = record { sfits = omega arith }

from-fits : {from t : ℕ} {d : ℤ} → Reach from d t → SFits w32 (pos from)
from-fits (still h g) = record { sfits = omega arith }
from-fits (rising h) = record { sfits = omega arith }
from-fits (falling h g) = record { sfits = omega arith }

module _ {from t : ℕ} {d : ℤ} (r : Reach from d t) where
  product : to_z w32 (of_z w32 d) *ℤ to_z w32 t ≡ d *ℤ pos t
  product = rw (to_z-of_z (step-fits r), to_z_pos w32 {n = t} (omega (arith, reach-steps r)))

  product-fits : SFits w32 (d *ℤ pos t)
  product-fits = record { sfits = omega (arith, steps-fit r) }

  sum-fits : SFits w32 (pos from +ℤ d *ℤ pos t)
  sum-fits = rw (stepped_is r) (record { sfits = omega (arith, stepped-fits r) })

  sum : to_z w32 (of_z w32 (to_z w32 (of_z w32 (pos from)) +ℤ to_z w32 (of_z w32 (to_z w32 (of_z w32 d) *ℤ to_z w32 t)))) ≡ pos (stepped from d t)
  sum = rw (product, to_z-of_z product-fits, to_z-of_z (from-fits r), to_z-of_z sum-fits) (stepped_is r)

pub overflow_cast-result-2 : goal.overflow_cast-result-2
overflow_cast-result-2 c = rw (c.from.ensures, sum c.requires) (tt, record { fits = omega (arith, stepped-fits c.requires) })

pub returns : goal.returns
returns c = rw c.from.ensures (ap nat_abs (sum c.requires))
