-- `net::read::wires_refusal` meets its contract.
-- Assumes nothing.
use native.Mathlib.Omega.{arith}
use Rattle.laws.specs.Results.{err_passed}
use Rattle.net.specs.Numbers.{checked}
use Rattle.net.specs.Reading.{wires-more, wires-here}
use Rattle.net.specs.First.{first-start}
use Rattle.net.specs.Answered.{met_refusal}
use Rattle.net.proofs.read.wires_refusal.Goals as goal

pub loop-i-init : goal.loop-i-init
loop-i-init c = (omega arith, omega arith, first-start _)

pub returns-in_err-wire_refusal : goal.returns-in_err-wire_refusal
returns-in_err-wire_refusal c =
    err_passed checked _ c.from_residual.ensures.1 (wires-here _ _ _ (omega arith) c.loop-i.invariant.2 _ _ (omega arith) c.in_err-wire_refusal.ensures (met_refusal _))

pub loop-i-preserved : goal.loop-i-preserved
loop-i-preserved c = (omega arith, omega arith, wires-more _ _ _ c.loop-i.invariant.0 c.loop-i.invariant.2 c.in_ok-wire_refusal.ensures)
