-- `clusters::marks::mark_components` meets its contract: the components below i are marked by the nodes below i. Assumes nothing.
use Rattle.std.proofs.Common.{ℕ, ◌≡◌, ◌+◌, true, false, set, get_or, refl, sym, ap, ◌∙◌, arith}
use Rattle.laws.specs.Sum.{any}
use Rattle.laws.specs.Sums.{any_next, or_right, or_false}
use Rattle.clusters.specs.FirstPasses.{Falling}
use Rattle.clusters.specs.Turns.{mark_here, mark_not}
use Rattle.clusters.proofs.marks.mark_components.Goals as goal
use Rattle.clusters.proofs.marks.mark_components.Goals.{then-passes, else-passes}

pub loop-i-init : goal.loop-i-init
unfolding any
loop-i-init g c = λ test h. (refl, λ k p. absurd (omega arith))

pub loop-i-preserved : goal.loop-i-preserved
loop-i-preserved g c = λ test h.
    let a = c.args in
    let l = c.loop-i in
    let before = l.invariant test h in
    let more = any_next l.i test in
    let is = h l.i c.passes.result (omega arith) c.passes.ensures in
    let falling : Falling (l.i + 1) a.component.now = λ j p. c.requires.falling j (omega arith) in
    elim c.if-passes.branch [
      | then-passes w ↦
          let here = sym is ∙ w.if-passes.true in
          let marks_is = w.marks-is ∙ ap (λ (k : ℕ). set (set l.marks l.i false) k true) {y = get_or a.component.now l.i 0} (omega arith) in
          rw (marks_is, w.some-is)
          (sym (more ∙ or_right (any l.i test) here), mark_here a.component.now test l.i l.marks (omega arith) falling before.1 here)
      | else-passes w ↦
          let not = sym is ∙ w.if-passes.false in
          rw (w.marks-is, w.some-is)
          (before.0 ∙ sym (more ∙ or_false (any l.i test) not), mark_not a.component.now test l.i l.marks (omega arith) falling before.1 not)
    ]

pub returns : goal.returns
returns g c = λ test h.
    let i = c.loop-i.invariant test h in
    let all : c.loop-i.i ≡ c.args.n = omega arith in
    rw (← all) i
