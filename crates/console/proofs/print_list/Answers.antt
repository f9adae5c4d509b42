use Rattle.std.proofs.Common.{◌*◌, ◌/◌, length, take, drop, rules, subst}
use Rattle.std.specs.Io.KnownBytes.{Appends}
use Rattle.std.proofs.lemmas.Result.{IfOk-weaker}
use Rattle.laws.specs.Gathers.{gather_ap}
use Rattle.net.specs.Layout.{entry_bytes}
use Rattle.console.specs.Lines.{entry_line}
use Rattle.console.proofs.Printed.{entry_there}
use Rattle.console.proofs.print_list.Goals as goal

pub returns : goal.returns
returns g c =
    let l = c.args.list.now in
    IfOk-weaker c.print_lines.result _ _
    (λ _ p.
    subst (Appends (g.W.Write.contents c.args.to.now) (g.W.Write.contents c.print_lines.new.to))
    (gather_ap (length l / entry_bytes) {f = λ k. entry_line (take entry_bytes (drop (entry_bytes * k) l)) 0} {g = λ k. entry_line l (entry_bytes * k)} (λ k h. entry_there l (entry_bytes * k))) p)
    (c.print_lines.ensures (λ chunk. entry_line chunk 0) (λ t chunk r u said. search rules))
