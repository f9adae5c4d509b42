-- An accepted net at a stage with an accepted jumper list as a value: what holds of it whatever obstacles they are accepted with.
-- Assumes nothing.
use Rattle.std.specs.Prelude.{ℕ, ◌≤◌, List, length}
use Rattle.net.specs.Stage.{Stage}
use Rattle.pieces.specs.JumperList.{set_of}
use Rattle.pieces.specs.Report.{report_of}
use Rattle.records.specs.declared.NetWithJumpers.{NetWithJumpers}
use Rattle.records.specs.ListRight.{ListAccepted, AtAccepted}
use Rattle.records.specs.NoObstacles.{accepted_with}
use Rattle.records.specs.Held.{HeldBelow}

pub accepted_of : (net : NetWithJumpers) → ListAccepted net.nodes.now net.wires.now net.stage net.jumpers.now
accepted_of net = accepted_with net.accepted

abbrev pub AtNet : NetWithJumpers → (Stage → Type 0) → Type 0
AtNet net P = AtAccepted net.nodes.now net.wires.now net.stage net.jumpers.now P

-- the records held after the wires below n
abbrev pub HeldAtNet : NetWithJumpers → ℕ → ℕ → List ℕ → ℕ → List ℕ → Type 0
HeldAtNet net limit n places at out = HeldBelow net.nodes.now net.wires.now net.stage net.jumpers.now limit n places at out

-- the buffer has room for the records of all pieces
abbrev pub RecordsFit : NetWithJumpers → ℕ → List ℕ → Type 0
RecordsFit net limit out = AtNet net (λ s. length (report_of s limit (set_of net.jumpers.now)) ≤ length out)
