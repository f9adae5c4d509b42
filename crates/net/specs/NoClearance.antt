-- A net at a stage without a clearance, as document 01 has it (`barred_none`). The passes speak of it: those of repair see obstacles already grown, those of
-- report read none.
-- Assumes nothing.
use Rattle.std.specs.Prelude.{ℕ, List}
use Rattle.net.specs.Stage.{Stage, stage_under}

unfoldable pub stage_of : ℕ → List ℕ → List ℕ → List ℕ → ℕ → Stage
stage_of version ns ws os k = stage_under version ns ws os k 0
