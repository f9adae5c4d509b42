-- `reports::report::report` meets its contract.
-- Assumes nothing.
use Rattle.std.proofs.Common.{◌*◌, ◌<◌, ◌≤◌, ◌≡◌, refl, sym, ap, ◌∙◌, length, arith}
use Rattle.net.specs.declared.refusal.Refusal.TheVariants.{LentBuffer}
use Rattle.net.specs.Layout.{record_bytes}
use Rattle.net.specs.NoClearance.{stage_of}
use Rattle.net.specs.Refusal.{Verdict, none, met, answer}
use Rattle.net.specs.Call.{net_at}
use Rattle.net.specs.Calls.{call_stage}
use Rattle.net.specs.Parts.{bytes_section}
use Rattle.net.specs.Numbers.{answered}
use Rattle.net.specs.Answered.{met_refusal, answered_err, answered_ok}
use Rattle.reports.specs.Promise.{piece_count}
use Rattle.laws.specs.Numbers.{Bytes}
use Rattle.laws.specs.Results.{err_passed}
use Rattle.pieces.specs.JumperList.{list_refusal}
use Rattle.reports.specs.FromFile.{list_at, listed_here, accepted_here, counted, written_here}
use Rattle.reports.specs.Reporting.{report_fits, call_refused_answer, call_refused_buffer, list_refused_answer, list_refused_buffer, short-answer, short-buffer, done-answer, done-buffer}
use Rattle.records.specs.ListRight.{AcceptedWithoutObstacles}
use Rattle.reports.proofs.report.report.Goals.{In_ok-list_refusal}
use Rattle.reports.proofs.report.report.Goals as goal

pub returns-in_err-net : goal.returns-in_err-net
returns-in_err-net c =
    let a = c.args in
    let e = c.in_err-net.ensures.verdict in
    let m = ap met (sym e) ∙ met_refusal c.in_err-net.field-0.0 in (
      err_passed answered _ c.from_residual.ensures.1
          (answered_err _ 0 ∙ ap (λ (v : Verdict). answer v 0) e ∙ call_refused_answer a.stage a.clearance a.file.now a.jumpers.now a.limit a.out.now m),
      call_refused_buffer a.stage a.clearance a.file.now a.jumpers.now a.limit a.out.now m,
    )

pub overflow_cast-k : goal.overflow_cast-k
overflow_cast-k c =
    let zero = ap (λ (v : Verdict). v.number) (sym c.in_ok-net.ensures.verdict) in
    omega (arith, call_stage c.args.stage c.args.file.now zero)

pub returns-in_err-list_refusal : goal.returns-in_err-list_refusal
returns-in_err-list_refusal c =
    let a = c.args in
    let n = c.in_ok-net.ensures.net in
    let u = sym (ap met c.in_ok-net.ensures.verdict) in
    let e = list_at a.stage a.clearance a.file.now a.jumpers.now n.1 n.2 n.0 n.3 c.in_err-list_refusal.ensures in
    let m = ap met (sym e) ∙ met_refusal c.in_err-list_refusal.field-0.0 in (
      err_passed answered _ c.from_residual-in_err-list_refusal.ensures.1
          (answered_err _ 0 ∙ ap (λ (v : Verdict). answer v 0) e ∙ list_refused_answer a.stage a.clearance a.file.now a.jumpers.now a.limit a.out.now u m),
      list_refused_buffer a.stage a.clearance a.file.now a.jumpers.now a.limit a.out.now u m,
    )

-- the list is accepted for the net
listed : (c : In_ok-list_refusal) → list_refusal (net_at c.args.file.now c.args.stage c.args.clearance) c.args.jumpers.now ≡ none
listed c =
    let a = c.args in
    let n = c.in_ok-net.ensures.net in
    listed_here a.stage a.clearance a.file.now a.jumpers.now (list_at a.stage a.clearance a.file.now a.jumpers.now n.1 n.2 n.0 n.3 c.in_ok-list_refusal.ensures) refl

-- so both are without obstacles
accepted : (c : In_ok-list_refusal) → AcceptedWithoutObstacles c.in_ok-net.net.nodes.now c.in_ok-net.net.wires.now c.args.stage c.args.jumpers.now
accepted c =
    let a = c.args in
    let n = c.in_ok-net.ensures.net in
    let zero = ap (λ (v : Verdict). v.number) (sym c.in_ok-net.ensures.verdict) in
    accepted_here a.stage a.clearance a.file.now a.jumpers.now n.1 n.2 zero (listed c)

pub invariant_of-with_jumpers : goal.invariant_of-with_jumpers
invariant_of-with_jumpers c =
    let n = c.in_ok-net.ensures.net in
    let file : Bytes c.args.file.now = λ i. omega (arith, c.type_inv.file i) in
    record {
      accepted = accepted (goal.at.invariant_of-with_jumpers c).In_ok-list_refusal;
      bytes = (rw n.1 (bytes_section c.args.file.now file 0), rw n.2 (bytes_section c.args.file.now file 1));
    }

pub returns-then-out-needed : goal.returns-then-out-needed
returns-then-out-needed c =
    let a = c.args in
    let n = c.in_ok-net.ensures.net in
    let u = sym (ap met c.in_ok-net.ensures.verdict) in
    let checked = (goal.at.returns-then-out-needed c).In_ok-list_refusal in
    let records = counted a.stage a.clearance a.file.now a.jumpers.now n.1 n.2 (accepted checked) c.piece_count-records.ensures.0 in
    let less : length a.out.now < record_bytes * piece_count (net_at a.file.now a.stage a.clearance) a.jumpers.now = omega (arith, c.if-out-needed.true) in (
      answered_err (LentBuffer _) 0 ∙ short-answer a.stage a.clearance a.file.now a.jumpers.now a.limit a.out.now u (listed checked) less _ (omega arith),
      short-buffer a.stage a.clearance a.file.now a.jumpers.now a.limit a.out.now u (listed checked) less,
    )

pub write_records-requires : goal.write_records-requires
write_records-requires c v os j =
    report_fits (stage_of v _ _ os c.args.stage) c.args.limit c.args.jumpers.now (c.piece_count-records.ensures.0 v os j) (omega (arith, c.if-out-needed.false))

pub returns : goal.returns
returns c =
    let a = c.args in
    let n = c.in_ok-net.ensures.net in
    let u = sym (ap met c.in_ok-net.ensures.verdict) in
    let checked = (goal.at.returns c).In_ok-list_refusal in
    let records = counted a.stage a.clearance a.file.now a.jumpers.now n.1 n.2 (accepted checked) c.piece_count-records.ensures.0 in
    let written =
    written_here a.stage a.clearance a.file.now a.jumpers.now n.1 n.2 (accepted checked) a.limit a.out.now c.write_records.ensures in
    let room : record_bytes * piece_count (net_at a.file.now a.stage a.clearance) a.jumpers.now ≤ length a.out.now = omega (arith, c.if-out-needed.false) in (
      answered_ok _ ∙ done-answer a.stage a.clearance a.file.now a.jumpers.now a.limit a.out.now u (listed checked) room _ records,
      written ∙ done-buffer a.stage a.clearance a.file.now a.jumpers.now a.limit a.out.now u (listed checked) room,
    )
