-- What report and repair try first, and the net at a stage that they then judge.
-- Assumes nothing.
use Rattle.std.specs.Prelude.{ℕ, List}
use Rattle.net.specs.File.{version_of}
use Rattle.net.specs.Stage.{Stage, stage_under}
use Rattle.net.specs.Refusal.{Verdict, or_else, stage_refusal, read_refusal, nodes_of, wires_of, obstacles_of}

-- the net of a file at a stage under a clearance
abbrev pub net_at : List ℕ → ℕ → ℕ → Stage
net_at file stage clearance = stage_under (version_of file) (nodes_of file) (wires_of file) (obstacles_of file) stage clearance

-- 1, then 2 to 11 and 20
abbrev pub call_refusal : ℕ → List ℕ → Verdict
call_refusal stage file = or_else (stage_refusal stage) (read_refusal file)
