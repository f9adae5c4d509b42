-- Obstacles of a version in the form of the newest version, grown by a clearance.
-- Assumes nothing.
use Rattle.std.specs.Prelude.{ℕ, ◌+◌, ◌-◌, List, [], ◌∷◌, ◌++◌, min}
use Rattle.laws.specs.Bytes.{bytes16}
use Rattle.laws.specs.Gather.{gather}
use Rattle.net.specs.Net.{obstacle_count, obstacle_x1, obstacle_y1, obstacle_x2, obstacle_y2, obstacle_layer}
use Rattle.net.specs.declared.fields.Obstacle.{Obstacle}

-- the bytes of an obstacle
abbrev pub obstacle_record : Obstacle → List ℕ
obstacle_record o = bytes16 o.x1 ++ bytes16 o.y1 ++ bytes16 o.x2 ++ bytes16 o.y2 ++ o.layer ∷ []

-- each side moved out by a clearance, as far as coordinates go
abbrev pub grown : Obstacle → ℕ → Obstacle
grown o clearance =
    record {
      x1 = o.x1 - clearance;
      y1 = o.y1 - clearance;
      x2 = min (o.x2 + clearance) 65535;
      y2 = min (o.y2 + clearance) 65535;
      layer = o.layer;
    }

abbrev pub obstacle_of : ℕ → List ℕ → ℕ → Obstacle
obstacle_of version obstacles k =
    record {
      x1 = obstacle_x1 version obstacles k;
      y1 = obstacle_y1 version obstacles k;
      x2 = obstacle_x2 version obstacles k;
      y2 = obstacle_y2 version obstacles k;
      layer = obstacle_layer version obstacles k;
    }

-- obstacle k so grown
abbrev pub prepared_record : ℕ → ℕ → List ℕ → ℕ → List ℕ
prepared_record version clearance obstacles k = obstacle_record (grown (obstacle_of version obstacles k) clearance)

-- all of them, one behind the other
abbrev pub prepared : ℕ → ℕ → List ℕ → List ℕ
prepared version clearance obstacles = gather (obstacle_count version obstacles) (λ k. prepared_record version clearance obstacles k)
