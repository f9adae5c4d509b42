-- `repairs::repair` meets its contract: the first refusals as they are tried, then what repair on an accepted net promises.
-- Assumes nothing.
use Rattle.std.proofs.Common.{sym, ap, refl, ◌∙◌, arith}
use Rattle.std.proofs.lemmas.Result.{err_from_is_err_and}
use Rattle.laws.specs.Numbers.{Bytes}
use Rattle.laws.specs.Sums.{no_both}
use Rattle.net.specs.Answered.{met_refusal, answered_err}
use Rattle.net.specs.Refusal.{Verdict, answer, met}
use Rattle.net.specs.Calls.{call_stage}
use Rattle.net.specs.Parts.{bytes_section}
use Rattle.repairs.proofs.repair.Goals as goal

pub returns-in_err-net : goal.returns-in_err-net
returns-in_err-net c =
    let r = c.in_err-net.field-0.0 in
    let e = c.in_err-net.ensures.verdict in
    let p = err_from_is_err_and c.from_residual.result c.from_residual.ensures.1 in
    rw (p.1, p.2)
    (record {
      refused = λ h. (answered_err r 0 ∙ ap (λ (x : Verdict). answer x 0) e, refl);
      judged = λ h. absurd (no_both (sym (ap met e) ∙ met_refusal r) h);
    })

pub overflow_cast-stage : goal.overflow_cast-stage
overflow_cast-stage c =
    let a = c.args in
    record { fits = omega (arith, call_stage a.stage a.file.now (sym (ap (λ (x : Verdict). x.number) c.in_ok-net.ensures.verdict))) }

pub repair_under-requires : goal.repair_under-requires
repair_under-requires c =
    let n = c.in_ok-net.ensures.net in
    let file : Bytes c.args.file.now = λ i. omega (arith, c.type_inv.file i) in
    (rw n.1 (bytes_section c.args.file.now file 0), rw n.3 (bytes_section c.args.file.now file 2))
