-- Laws of what report and repair try first: 1 on the stage, 2 to 11 and 20 on the file.
-- Assumes nothing.
use Rattle.std.specs.Prelude.{ℕ, ◌<◌, ◌≤◌, ◌≡◌, false, ◌||◌, List, eqb}
use Rattle.std.proofs.Math.Path.{refl}
use Rattle.std.proofs.Common.{sym, arith}
use Rattle.std.proofs.Math.Dec.{ltb}
use borrow.Author.Tests.{lt-ltb, le-ltb, ltb-false, ne_eqb}
use Rattle.laws.specs.Sums.{or_no_right}
use Rattle.net.specs.Layout.{most_layers}
use Rattle.net.specs.File.{version_of}
use Rattle.net.specs.Refusal.{none, refusal, met, stage_refusal, read_refusal, net_refusal, nodes_of, wires_of, obstacles_of}
use Rattle.net.specs.Call.{call_refusal}
use Rattle.net.specs.Accepted.{HeadRight, NetRight}
use Rattle.net.specs.AcceptedIf.{net-none, file_right_of}
use Rattle.net.specs.First.{unmet_if, unmet_l, unmet_r, unmet-number}

-- 1
pub stage_low : refusal 1 0 ≡ stage_refusal 0
unfolding stage_refusal
stage_low = refl

pub stage_high : (stage : ℕ) → most_layers < stage → refusal 1 0 ≡ stage_refusal stage
unfolding stage_refusal
stage_high stage h = rw (ne_eqb stage 0 (λ e. omega arith), lt-ltb most_layers stage h)

pub stage_right : (stage : ℕ) → (stage ≡ 0 → ⊥) → stage ≤ most_layers → none ≡ stage_refusal stage
unfolding stage_refusal
stage_right stage n h = rw (ne_eqb stage 0 n, le-ltb most_layers stage h)

-- a call that meets none of 1 to 11 and 20 has a right net
pub call_right : (stage : ℕ) (file : List ℕ) → met (call_refusal stage file) ≡ false → NetRight (version_of file) (nodes_of file) (wires_of file) (obstacles_of file)
call_right stage file u = (file_right_of file (unmet_r (stage_refusal stage) (read_refusal file) u)).net

module _ (stage : ℕ) (file : List ℕ) (e : (call_refusal stage file).number ≡ 0) where
  pub call_unmet : met (call_refusal stage file) ≡ false
  call_unmet = unmet-number (call_refusal stage file) e

  pub call_stage : stage ≤ most_layers
  unfolding stage_refusal
  call_stage =
      ltb-false most_layers stage
      (or_no_right (eqb stage 0) (ltb most_layers stage)
      (unmet_if (eqb stage 0 || ltb most_layers stage) 1 0 refl (unmet_l (stage_refusal stage) (read_refusal file) call_unmet)))

  -- the file has a head, of a version
  pub call_head : HeadRight file
  call_head = (file_right_of file (unmet_r (stage_refusal stage) (read_refusal file) call_unmet)).head

  pub call_net : net_refusal (version_of file) (nodes_of file) (wires_of file) (obstacles_of file) ≡ none
  call_net = sym (net-none (version_of file) (nodes_of file) (wires_of file) (obstacles_of file) (call_right stage file call_unmet))
