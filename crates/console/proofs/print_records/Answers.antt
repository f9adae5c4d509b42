use Rattle.std.proofs.Common.{◌*◌, ◌/◌, length, take, drop, rules, subst}
use Rattle.std.specs.Io.KnownBytes.{Appends}
use Rattle.std.proofs.lemmas.Result.{IfOk-weaker}
use Rattle.laws.specs.Gathers.{gather_ap}
use Rattle.net.specs.Layout.{record_bytes}
use Rattle.console.specs.Lines.{record_line}
use Rattle.console.proofs.Printed.{record_there}
use Rattle.console.proofs.print_records.Goals as goal

pub returns : goal.returns
returns g c =
    let l = c.args.records.now in
    IfOk-weaker c.print_lines.result _ _
    (λ _ p.
    subst (Appends (g.W.Write.contents c.args.to.now) (g.W.Write.contents c.print_lines.new.to))
    (gather_ap (length l / record_bytes) {f = λ k. record_line (take record_bytes (drop (record_bytes * k) l)) 0} {g = λ k. record_line l (record_bytes * k)} (λ k h. record_there l (record_bytes * k))) p)
    (c.print_lines.ensures (λ chunk. record_line chunk 0) (λ t chunk r u said. search rules))
