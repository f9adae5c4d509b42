-- `points::line::Axis::first_above` meets its contract. Assumes nothing.
use Rattle.std.proofs.Common.{◌∙◌, ◌+◌, ◌-◌, sym, arith}
use Rattle.points.specs.Geometry.{first_above, by_cmp}
use Rattle.points.proofs.line.Axis.first_above.Goals.{in-Greater, in-Less}
use Rattle.points.proofs.line.Axis.first_above.Goals as goal

pub returns-in-Equal : goal.returns-in-Equal
unfolding first_above
returns-in-Equal c =
    let a = c.args in
    rw (← by_cmp a.self.step (a.self.from - a.low + 1) a.end (a.high - a.self.from + 1), sym c.cmp.ensures ∙ c.in-Equal.is)

pub returns : goal.returns
unfolding first_above
returns c =
    let a = c.args in
    let e = sym c.cmp.ensures in
    rw (← by_cmp a.self.step (a.self.from - a.low + 1) a.end (a.high - a.self.from + 1))
    (elim c.match-cmp.branch [
      | in-Greater w ↦ rw (e ∙ w.in-Greater.is) (omega (arith, w.last-is, w.saturating_sub-last.ensures))
      | in-Less w ↦ rw (e ∙ w.in-Less.is) (omega (arith, w.last-is, w.saturating_sub-last-in-Less.ensures))
    ])
