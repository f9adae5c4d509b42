-- What the theorems on pieces assume holds of every accepted call: of report with its list, and of repair, the net is formed; the list's jumpers are distinct
-- points that may be cut, and lie inside their wires.
-- Assumes nothing.
use Rattle.std.specs.Prelude.{ℕ, ◌*◌, ◌≡◌, refl, Bool, true, false, not, List, eqb}
use Rattle.std.proofs.Common.{sym, ◌∙◌, eqb-true}
use Rattle.std.proofs.Math.Path.{ap}
use Rattle.laws.specs.Sums.{no_both}
use Rattle.net.specs.declared.Answer.{Answer}
use Rattle.net.specs.Formed.{Formed}
use Rattle.net.specs.File.{version_of}
use Rattle.net.specs.Refusal.{Verdict, answer, met, none, or_else, lent_refusal, nodes_of, wires_of, obstacles_of}
use Rattle.net.specs.Layout.{record_bytes}
use Rattle.net.specs.Call.{net_at, call_refusal}
use Rattle.net.specs.Calls.{call_right}
use Rattle.net.specs.Accepted.{NetRight, formed_under}
use Rattle.net.specs.First.{unmet-number, unmet_l, unmet_r}
use Rattle.pieces.specs.Legal.{size}
use Rattle.pieces.specs.Inside.{Inside}
use Rattle.pieces.specs.JumperList.{entry_count, set_of, list_refusal}
use Rattle.pieces.specs.Size.{AllFree}
use Rattle.lists.specs.Entries.{list_set_free, list_set_inside, list_set_size}
use Rattle.reports.specs.Promise.{piece_count, report_refusal, report_answer}
use Rattle.lists.specs.EntriesChecked.{list_none}

-- a call that meets none of 1 to 11 and 20: the net is formed
pub call_formed : (stage clearance : ℕ) (file : List ℕ) → met (call_refusal stage file) ≡ false → Formed (net_at file stage clearance)
call_formed stage clearance file u = formed_under (version_of file) (nodes_of file) (wires_of file) (obstacles_of file) (call_right stage file u) stage clearance

-- a refusal that is not met has number 0
unmet-zero : (r : Verdict) → met r ≡ false → r.number ≡ 0
unmet-zero r h = eqb-true r.number 0 (turned (eqb r.number 0) h)
  where
    turned : (t : Bool) → not t ≡ false → t ≡ true
    turned true e = refl
    turned false e = absurd (no_both refl e)

-- report with its list
module _ (stage clearance : ℕ) (file list : List ℕ) (lent : ℕ) (r : Answer) (e : r ≡ report_answer stage clearance file list lent) (zero : r.number ≡ 0) where
  pub report_unmet : met (report_refusal stage clearance file list lent) ≡ false
  unfolding report_answer answer
  report_unmet = unmet-number (report_refusal stage clearance file list lent) (sym (ap (λ (a : Answer). a.number) e) ∙ zero)

  pub report_call : met (call_refusal stage file) ≡ false
  unfolding report_refusal
  report_call =
      unmet_l (call_refusal stage file)
      (or_else (list_refusal (net_at file stage clearance) list) (lent_refusal (record_bytes * piece_count (net_at file stage clearance) list) lent)) report_unmet

  pub report_list_lent : met (or_else (list_refusal (net_at file stage clearance) list) (lent_refusal (record_bytes * piece_count (net_at file stage clearance) list) lent)) ≡ false
  unfolding report_refusal
  report_list_lent =
      unmet_r (call_refusal stage file)
      (or_else (list_refusal (net_at file stage clearance) list) (lent_refusal (record_bytes * piece_count (net_at file stage clearance) list) lent)) report_unmet

  report_list : list_refusal (net_at file stage clearance) list ≡ none
  report_list =
      list_none (net_at file stage clearance) list
      (unmet-zero (list_refusal (net_at file stage clearance) list) (unmet_l (list_refusal (net_at file stage clearance) list) (lent_refusal (record_bytes * piece_count (net_at file stage clearance) list) lent) report_list_lent))

  pub report_right : NetRight (version_of file) (nodes_of file) (wires_of file) (obstacles_of file)
  report_right = call_right stage file report_call

  pub report_formed : Formed (net_at file stage clearance)
  report_formed = call_formed stage clearance file report_call

  pub report_free : AllFree (net_at file stage clearance) (set_of list)
  report_free = list_set_free (net_at file stage clearance) list report_list

  pub report_inside : Inside (net_at file stage clearance) (set_of list)
  report_inside = list_set_inside (net_at file stage clearance) list report_list

  -- its entries are distinct points
  pub report_jumpers : size (net_at file stage clearance) (set_of list) ≡ entry_count list
  report_jumpers = list_set_size (net_at file stage clearance) list report_list report_formed

  pub report_count : r.count ≡ piece_count (net_at file stage clearance) list
  unfolding report_answer answer
  report_count = ap (λ (a : Answer). a.count) e ∙ rw report_unmet
