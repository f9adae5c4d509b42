use Rattle.std.proofs.Common.{◌≡◌, refl, take, arith}
use Rattle.std.proofs.lemmas.Result.{on_ok_weaker, IfOk-weaker}
use Rattle.net.specs.Numbers.{answered}
use Rattle.report.specs.Printed.{answer_lines, printed}
use Rattle.report.proofs.Lines.{reported_lines, records-room, read_lines}
use Rattle.report.proofs.run.Goals as goal

pub print_answer-requires : goal.print_answer-requires
print_answer-requires g c =
    let a = c.antenna_report-answer in
    IfOk-weaker a.result _ _ (λ n room. omega (arith, room)) (records-room _ _ _ _ _ a.result a.ensures.0)

pub returns : goal.returns
returns g c =
    let a = c.antenna_report-answer in
    let text = take c.in_ok-n.n c.read_input.new.input in
    let lines : answer_lines (answered a.result) a.new.out ≡ printed text =
    rw (← c.stage_of-stage.ensures, ← c.limit_of-limit.ensures, ← c.file_of-file.ensures) (reported_lines _ _ _ _ _ _ _ refl (omega arith) a.ensures.0 a.ensures.1) in
    on_ok_weaker c.print_answer.result (read_lines _ _ _ text (answer_lines (answered a.result) a.new.out) c.in_ok-n.ensures.bytes lines) c.print_answer.ensures
