-- What a clearance changes: under a larger one no more sets are legal, so 15 stays 15 and the least count never falls; the records of report are the same.
-- Assumes nothing.
use Rattle.std.specs.Prelude.{ℕ, ◌≤◌, ◌≡◌, Bool, false, List, length}
use Rattle.std.proofs.Common.{sym, ◌∙◌, ap, arith}
use Rattle.laws.specs.Sums.{no_both, not_true_false}
use Rattle.net.specs.declared.Answer.{Answer}
use Rattle.net.specs.Net.{barred}
use Rattle.net.specs.Clearance.{barred_more}
use Rattle.net.specs.File.{version_of}
use Rattle.net.specs.Refusal.{met, nodes_of, wires_of, obstacles_of}
use Rattle.net.specs.Call.{net_at, call_refusal}
use Rattle.pieces.specs.Piece.{Points}
use Rattle.pieces.specs.Legal.{Legal, Smallest}
use Rattle.pieces.specs.JumperList.{set_of}
use Rattle.pieces.specs.Report.{report_of}
use Rattle.pieces.specs.Barring.{NoMoreBarred, legal_less, none_legal_more, smallest_less}
use Rattle.pieces.specs.BarringReports.{names_same, report_same}
use Rattle.reports.specs.Promise.{piece_count, pieces_buffer, report_answer, report_buffer}
use Rattle.repairs.specs.Promise.{Repaired}
use Rattle.antenna.specs.AcceptedCalls.{report_unmet, report_count}
use Rattle.antenna.specs.Exactly.{fifteen, sixteen, sixteen-place, list_smallest}

-- what a file's obstacles bar under a clearance
abbrev pub barred_of : List ℕ → ℕ → ℕ → ℕ → Bool
barred_of file clearance i t = barred (version_of file) clearance (nodes_of file) (wires_of file) (obstacles_of file) i t

module _ (file : List ℕ) (stage limit : ℕ) {c d : ℕ} (larger : c ≤ d) where
  no_more : NoMoreBarred (net_at file stage d) (barred_of file c)
  no_more i t p low high clear =
      not_true_false (barred_of file c i t) (λ y. no_both (barred_more (version_of file) (nodes_of file) (wires_of file) (obstacles_of file) i t larger y) clear)

  -- a set that is legal under the larger one is legal under the smaller
  pub legal_smaller : (J : Points) → Legal (net_at file stage d) limit J → Legal (net_at file stage c) limit J
  legal_smaller J l = legal_less no_more l

  -- the least count never falls
  pub least_rises : {list list' : List ℕ} {m n : ℕ} → Smallest (net_at file stage c) limit list m → Smallest (net_at file stage d) limit list' n → m ≤ n
  least_rises a b = smallest_less no_more b a

  -- of the calls, on an accepted net: 15 stays 15, and neither the count of jumpers nor the bytes that 16 asks for ever fall
  module _ {out after out' after' : List ℕ} {r r' : Answer} (a : Repaired stage limit c file out after r) (b : Repaired stage limit d file out' after' r') where
    pub fifteen_stays : met (call_refusal stage file) ≡ false → r.number ≡ 15 → r'.number ≡ 15
    fifteen_stays u e = (fifteen (b.judged u)).1 (none_legal_more no_more ((fifteen (a.judged u)).0 e))

    pub place_rises : met (call_refusal stage file) ≡ false → r.number ≡ 16 → r'.number ≡ 16 → r.place ≤ r'.place
    place_rises u e e' =
        let w = (sixteen (a.judged u)).0 e in
        let w' = (sixteen (b.judged u)).0 e' in
        let p = sixteen-place (a.judged u) e w.0 w.1 w.2 in
        let q = sixteen-place (b.judged u) e' w'.0 w'.1 w'.2 in
        let less = least_rises w.2 w'.2 in
        omega arith

    pub count_rises : r.number ≡ 0 → r'.number ≡ 0 → r.count ≤ r'.count
    count_rises zero zero' = least_rises (list_smallest a zero) (list_smallest b zero')

-- report done under two clearances: the same answer, and the same bytes
module _ (stage limit c d : ℕ) (file list out : List ℕ) {r r' : Answer} (a : r ≡ report_answer stage c file list (length out)) (b : r' ≡ report_answer stage d file list (length out))
    (zero : r.number ≡ 0) (zero' : r'.number ≡ 0) where
  same_count : piece_count (net_at file stage c) list ≡ piece_count (net_at file stage d) list
  same_count = ap length (names_same (net_at file stage c) (barred_of file d) (set_of list))

  same_records : report_of (net_at file stage c) limit (set_of list) ≡ report_of (net_at file stage d) limit (set_of list)
  same_records = report_same (net_at file stage c) (barred_of file d) (set_of list) limit

  pub clearance_count : r.count ≡ r'.count
  clearance_count = report_count stage c file list (length out) r a zero ∙ same_count ∙ sym (report_count stage d file list (length out) r' b zero')

  pub clearance_buffer : report_buffer stage limit c file list out ≡ report_buffer stage limit d file list out
  unfolding report_buffer pieces_buffer
  clearance_buffer =
      rw (report_unmet stage c file list (length out) r a zero, report_unmet stage d file list (length out) r' b zero', same_count, same_records)
