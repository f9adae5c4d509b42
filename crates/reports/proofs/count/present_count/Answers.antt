-- `reports::count::present_count` meets its contract.
-- Assumes nothing.
use mathlib.Core.Path.{◌≡◌, refl, sym, ◌∙◌}
use mathlib.Core.Bool.{◌&&◌}
use native.Mathlib.Omega.{arith}
use lib.Dec.{ltb, leb}
use Rattle.laws.specs.Sums.{sum-next, χ-yes, χ-no}
use Rattle.laws.specs.Sum.{χ, sum}
use Rattle.net.specs.Net.{wire_layer}
use Rattle.reports.proofs.count.present_count.Goals as goal
use Rattle.reports.proofs.count.present_count.Goals.{then-is_present, else-is_present}

pub loop-i-init : goal.loop-i-init
unfolding sum
loop-i-init c = (refl, omega arith)

pub loop-i-preserved : goal.loop-i-preserved
loop-i-preserved c =
    let a = c.args in
    let i = c.loop-i.i in
    let v = c.loop-i.invariant in
    let n = sum-next i (λ k. χ (ltb 0 k && leb (wire_layer a.wires.now k) a.stage) 1) in
    elim c.if-is_present.branch [
      | then-is_present w ↦
          let y = χ-yes 1 (sym c.is_present.ensures ∙ w.if-is_present.true) in
          (omega (arith, v.0, w.count-is), omega (arith, v.1, w.count-is))
      | else-is_present w ↦
          let y = χ-no 1 (sym c.is_present.ensures ∙ w.if-is_present.false) in
          (omega (arith, v.0, w.count-is), omega (arith, v.1, w.count-is))
    ]

pub returns : goal.returns
returns c =
    let a = c.args in
    let v = c.loop-i.invariant in
    let q : c.loop-i.i ≡ a.n = omega arith in
    (rw q at v.0, omega arith)
