-- `net::write::copy` meets its contract.
-- Assumes nothing.
use Prim.Native.Nat.{ℕ}
use mathlib.Core.Path.{◌∙◌, refl, ap}
use native.Mathlib.Omega.{arith}
use mathlib.Core.List.{List}
use lib.ListN.{set, get_or, length-set}
use Rattle.laws.specs.Lists.{over_copy, over_copied}
use Rattle.net.proofs.write.copy.Goals as goal

pub loop-i-init : goal.loop-i-init
loop-i-init c = (refl, refl)

pub loop-i-preserved : goal.loop-i-preserved
loop-i-preserved c =
    let v = c.loop-i in
    let a = c.args in (
      simp length-set v.invariant.0,
      ap (λ (l : List ℕ). set l v.i (get_or a.source.now v.i 0)) v.invariant.1
          ∙ over_copy a.source.now a.out.now v.i (omega arith) (omega arith),
    )

pub returns : goal.returns
returns c = let a = c.args in c.loop-i.invariant.1 ∙ over_copied a.source.now a.out.now c.loop-i.i (omega arith)
