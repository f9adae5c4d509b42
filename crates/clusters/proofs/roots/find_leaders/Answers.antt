-- `clusters::roots::find_leaders` meets its contract: below i the array has what nodes lead to. Assumes nothing.
use Rattle.std.proofs.Common.{◌≡◌, cond, get_or, ap, ◌∙◌, arith}
use Rattle.net.specs.Net.{wire_parent}
use Rattle.clusters.specs.Turns.{leads_next}
use Rattle.clusters.proofs.roots.find_leaders.Goals as goal
use Rattle.clusters.proofs.roots.find_leaders.Goals.{then-joined, else-joined}

pub loop-i-preserved : goal.loop-i-preserved
loop-i-preserved g c =
    let l = c.loop-i in
    let a = c.args in
    let leads : c.if-joined.leader ≡ cond c.joined.result (get_or l.leader (wire_parent a.wires.now l.i) 0) l.i =
    elim c.if-joined.branch [
      | then-joined w ↦ rw w.if-joined.true (w.leader-is ∙ ap (λ p. get_or l.leader p 0) w.wire_at.ensures.parent)
      | else-joined w ↦ rw w.if-joined.false w.leader-is
    ] in
    leads_next (wire_parent a.wires.now) (goal.F-post g a.joined) l.i c.if-joined.leader l.leader c.joined.result (omega arith) c.joined.ensures leads
    (λ k p t. c.requires.wired.below k (c.requires.wires_only k (omega arith) t) (omega arith))
    l.invariant

pub returns : goal.returns
returns g c = λ i p. c.loop-i.invariant i (omega arith)
