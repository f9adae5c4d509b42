use Rattle.std.proofs.Common.{append_assoc, subst}
use Rattle.std.specs.Io.KnownBytes.{Appends}
use Rattle.std.proofs.lemmas.Result.{IfOk-weaker}
use Rattle.console.proofs.print_record.Goals as goal

pub returns : goal.returns
returns g c = IfOk-weaker c.writeln.result _ _ (λ _ b. subst (Appends (g.W.Write.contents c.args.to.now) (g.W.Write.contents c.writeln.new.self)) (rw (c.u16_at.ensures, c.u32_at.ensures, c.u16_at-2.ensures) (simp append_assoc)) b) c.writeln.ensures.bytes
