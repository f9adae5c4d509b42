-- Done: the records lie in the lent buffer.
-- Assumes nothing.
use Rattle.std.specs.Prelude.{ℕ, ◌*◌, ◌≤◌, ◌≡◌, List, ltb}
use Rattle.std.proofs.Common.{arith, ltb-false}
use Rattle.laws.specs.Sums.{by, no_both}
use Rattle.net.specs.declared.Answer.{Answer}
use Rattle.net.specs.Layout.{record_bytes}
use Rattle.net.specs.Refusal.{lent_refusal}
use Rattle.net.specs.Call.{net_at}
use Rattle.net.specs.First.{unmet_r}
use Rattle.pieces.specs.JumperList.{list_refusal}
use Rattle.reports.specs.Promise.{piece_count, report_answer}
use Rattle.antenna.specs.AcceptedCalls.{report_list_lent, report_count}

pub record_room :
    (stage clearance : ℕ) (file list : List ℕ) (lent : ℕ) (r : Answer) → r ≡ report_answer stage clearance file list lent → r.number ≡ 0 → record_bytes * r.count ≤ lent
record_room stage clearance file list lent r e zero =
    let need = record_bytes * piece_count (net_at file stage clearance) list in
    let l = unmet_r (list_refusal (net_at file stage clearance) list) (lent_refusal need lent) (report_list_lent stage clearance file list lent r e zero) in
    let c = report_count stage clearance file list lent r e zero in
    by (ltb lent need)
    (λ y. absurd (no_both (rw y) l))
    (λ z. let w = ltb-false lent need z in omega arith)
