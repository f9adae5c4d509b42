use Rattle.std.proofs.Common.{arith, take}
use Rattle.std.proofs.lemmas.Result.{on_ok_weaker, IfOk-weaker}
use Rattle.net.specs.Numbers.{answered}
use Rattle.repair.specs.Printed.{answer_lines, Printed}
use Rattle.repair.proofs.Lines.{repaired_lines, jumpers-room, read_lines}
use Rattle.repair.proofs.run.Goals as goal

pub print_answer-requires : goal.print_answer-requires
print_answer-requires g c =
    let a = c.antenna_repair-answer in
    IfOk-weaker a.result _ _ (λ n room. omega (arith, room)) (jumpers-room a.result a.ensures)

pub returns : goal.returns
returns g c =
    let a = c.antenna_repair-answer in
    let text = take c.in_ok-n.n c.read_input.new.input in
    let printed : Printed text (answer_lines (answered a.result) a.new.out) =
    rw (← c.stage_of-stage.ensures, ← c.limit_of-limit.ensures, ← c.file_of-file.ensures) (repaired_lines _ _ _ _ _ _ a.ensures (omega arith)) in
    on_ok_weaker c.print_answer.result (read_lines _ _ _ text (answer_lines (answered a.result) a.new.out) c.in_ok-n.ensures.bytes printed) c.print_answer.ensures
