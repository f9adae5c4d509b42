-- `points::line::Axis::last_below` meets its contract. Assumes nothing.
use Rattle.std.proofs.Common.{◌∙◌, ◌-◌, sym}
use Rattle.points.specs.Geometry.{last_below, by_cmp}
use Rattle.points.proofs.line.Axis.last_below.Goals.{in-Greater, in-Equal, in-Less}
use Rattle.points.proofs.line.Axis.last_below.Goals as goal

pub returns : goal.returns
unfolding last_below
returns c =
    let a = c.args in
    let e = sym c.cmp.ensures in
    rw (c.from.ensures, c.saturating_sub.ensures, ← by_cmp a.self.step (a.self.from - a.high - 1) 0 (a.low - a.self.from - 1))
    (elim c.match-cmp.branch [
      | in-Greater w ↦ rw (e ∙ w.in-Greater.is, w.past-is, w.saturating_sub-past.ensures)
      | in-Equal w ↦ rw (e ∙ w.in-Equal.is, w.past-is)
      | in-Less w ↦ rw (e ∙ w.in-Less.is, w.past-is, w.saturating_sub-past-in-Less.ensures)
    ])
