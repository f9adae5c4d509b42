-- `def::sections::write_wires` meets its contract: the wires below `i` are written.
-- Assumes nothing.
use Prim.Native.Nat.{◌+◌, ◌-◌}
use mathlib.Core.Path.{◌≡◌, refl, ◌∙◌, ap}
use native.Mathlib.Omega.{arith}
use lib.ListN.{length}
use Rattle.laws.specs.Lists.{over}
use Rattle.laws.specs.Gather.{gather}
use Rattle.laws.specs.Written.{written_next}
use Rattle.net.specs.Layout.{wire_bytes}
use borrow.Author.Rules.{rules}
use Rattle.routes.specs.Nodes.{node_at}
use Rattle.def.specs.Sections.{wire_record, wire_section}
use Rattle.def.proofs.sections.write_wires.Goals as goal

pub loop-i-init : goal.loop-i-init
unfolding gather
loop-i-init c = (refl, refl)

pub loop-i-preserved : goal.loop-i-preserved
loop-i-preserved c =
    let l = c.loop-i in
    let a = c.args in
    let e : l.i - 1 + 1 ≡ l.i = omega arith in
    let n : l.i + 1 - 1 ≡ l.i - 1 + 1 = omega arith in (
      search rules,
      rw n (written_next wire_bytes (λ j. wire_record (node_at a.nodes.now (j + 1))) (λ j. refl) (l.i - 1) _ a.out.now _ _ refl (omega arith) l.invariant.1 (rw e c.write_wire.ensures)),
    )

pub returns : goal.returns
unfolding wire_section
returns c =
    let a = c.args in
    let l = c.loop-i in
    let e : l.i - 1 ≡ length a.nodes.now - 1 = omega arith in
    l.invariant.1 ∙ ap (λ n. over (gather n (λ j. wire_record (node_at a.nodes.now (j + 1)))) a.out.now) e
