-- What the report may rely on once neither the call nor the list is refused: the sections handed out are those of the file, and the passes, which read no
-- obstacle, speak of the net at its stage under the clearance of the call.
-- Assumes nothing.
use Rattle.std.specs.Prelude.{ℕ, ◌≡◌, Bool, List, [], length}
use Rattle.std.proofs.Common.{◌∙◌, ap}
use Rattle.laws.specs.Lists.{over}
use Rattle.net.specs.Net.{barred}
use Rattle.net.specs.Stage.{Stage, stage_under}
use Rattle.net.specs.NoClearance.{stage_of}
use Rattle.net.specs.File.{version_of}
use Rattle.net.specs.Refusal.{Verdict, none, nodes_of, wires_of, obstacles_of}
use Rattle.net.specs.Call.{net_at, call_refusal}
use Rattle.net.specs.Calls.{call_unmet, call_right}
use Rattle.pieces.specs.JumperList.{set_of, list_refusal}
use Rattle.pieces.specs.Report.{report_of}
use Rattle.pieces.specs.Barring.{barred_by}
use Rattle.pieces.specs.BarringReports.{names_same, report_same}
use Rattle.lists.specs.EntriesChecked.{list_none}
use Rattle.records.specs.ListRight.{ListRight, AtAccepted, AcceptedWithoutObstacles}
use Rattle.records.specs.NoObstacles.{accepted_without, right_bare}
use Rattle.reports.specs.Promise.{piece_count, pieces_buffer}
use Rattle.reports.specs.Reporting.{pieces_over}

pub numbered : {r q : Verdict} → r ≡ q → r.number ≡ 0 → q.number ≡ 0
numbered e h = rw e at h

module _ (stage c : ℕ) (file list : List ℕ) where
  -- the list's refusal on sections equal to those of the file
  pub list_at : {ns ws os : List ℕ} {v : ℕ} {r : Verdict} → ns ≡ nodes_of file → ws ≡ wires_of file → v ≡ version_of file → os ≡ obstacles_of file →
      r ≡ list_refusal (stage_under v ns ws os stage c) list → r ≡ list_refusal (net_at file stage c) list
  list_at a b v o e = rw (a, b, v, o) at e

  -- a list whose refusal has number 0 is accepted
  pub listed_here : {r : Verdict} → r ≡ list_refusal (net_at file stage c) list → r.number ≡ 0 → list_refusal (net_at file stage c) list ≡ none
  listed_here e h = list_none (net_at file stage c) list (numbered e h)

  module _ {ns ws : List ℕ} (a : ns ≡ nodes_of file) (b : ws ≡ wires_of file) where
    -- the net is accepted and the list for it, so both are without obstacles
    pub accepted_here : (call_refusal stage file).number ≡ 0 → list_refusal (net_at file stage c) list ≡ none → AcceptedWithoutObstacles ns ws stage list
    accepted_here z listed = rw (a, b) (accepted_without (version_of file) c _ _ (obstacles_of file) stage list (call_right stage file (call_unmet stage file z)) listed)

    -- what the file's obstacles bar under the clearance
    abbrev barred_of : ℕ → ℕ → Bool
    barred_of i t = barred (version_of file) c (nodes_of file) (wires_of file) (obstacles_of file) i t

    abbrev bare : Stage
    bare = stage_of 1 ns ws [] stage

    same_net : barred_by bare barred_of ≡ net_at file stage c
    unfolding stage_of
    same_net = rw (a, b)

    -- what holds of the net whatever obstacles it is accepted with, holds of it without any
    module _ (accepted : AcceptedWithoutObstacles ns ws stage list) where
      pub counted : {n : ℕ} → AtAccepted ns ws stage list (λ s. n ≡ piece_count s list) → n ≡ piece_count (net_at file stage c) list
      counted h = h 1 [] (right_bare accepted) ∙ ap length (names_same bare barred_of (set_of list)) ∙ ap (λ (s : Stage). piece_count s list) same_net

      pub written_here : (limit : ℕ) (out : List ℕ) {after : List ℕ} → AtAccepted ns ws stage list (λ s. after ≡ over (report_of s limit (set_of list)) out)
          → after ≡ pieces_buffer (net_at file stage c) limit list out
      written_here limit out h =
          h 1 [] (right_bare accepted)
          ∙ ap (λ (l : List ℕ). over l out) (report_same bare barred_of (set_of list) limit ∙ ap (λ (s : Stage). report_of s limit (set_of list)) same_net)
          ∙ pieces_over (net_at file stage c) limit list out

-- without a clearance, the net is accepted and the list for it with the file's obstacles
module _ (stage : ℕ) (file list : List ℕ) where
  pub right_here : {r : Verdict} → (call_refusal stage file).number ≡ 0 → r ≡ list_refusal (net_at file stage 0) list → r.number ≡ 0 →
      ListRight (version_of file) (nodes_of file) (wires_of file) stage list (obstacles_of file)
  unfolding stage_of
  right_here z e h = record { right = call_right stage file (call_unmet stage file z); listed = listed_here stage 0 file list e h }

-- on sections equal to others
module _ {ns ns' ws ws' : List ℕ} (e : ns ≡ ns') (f : ws ≡ ws') (v : ℕ) (os : List ℕ) (k : ℕ) where
  pub right_of : {list : List ℕ} → ListRight v ns' ws' k list os → ListRight v ns ws k list os
  right_of r = rw (e, f) r

  pub stage-of : stage_of v ns ws os k ≡ stage_of v ns' ws' os k
  stage-of = rw (e, f)
