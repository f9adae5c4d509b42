-- An accepted net as a value: the parts of a file that it holds, and its stage, without and with a clearance.
-- Assumes nothing.
use Rattle.std.specs.Prelude.{ℕ, List, ◌≡◌}
use Rattle.net.specs.declared.Net.{Net}
use Rattle.net.specs.File.{version_of}
use Rattle.net.specs.Refusal.{nodes_of, wires_of, obstacles_of}
use Rattle.net.specs.Stage.{Stage, stage_under}
use Rattle.net.specs.NoClearance.{stage_of}

abbrev pub IsNetOf : List ℕ → Net → Type 0
IsNetOf file net =
    (net.version ≡ version_of file)
    × (net.nodes.now ≡ nodes_of file)
    × (net.wires.now ≡ wires_of file)
    × (net.obstacles.now ≡ obstacles_of file)

abbrev pub stage_of_net : Net → ℕ → Stage
stage_of_net net k = stage_of net.version net.nodes.now net.wires.now net.obstacles.now k

abbrev pub stage_of_net_under : Net → ℕ → ℕ → Stage
stage_of_net_under net k clearance = stage_under net.version net.nodes.now net.wires.now net.obstacles.now k clearance
