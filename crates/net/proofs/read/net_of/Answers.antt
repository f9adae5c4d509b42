-- `net::read::net_of` meets its contract.
-- Assumes nothing.
use Rattle.laws.specs.Results.{err_passed}
use Rattle.net.specs.Numbers.{checked}
use mathlib.Core.Path.{◌∙◌, ap, sym, refl}
use Rattle.net.specs.Refusal.{none, met}
use Rattle.net.specs.Accepted.{head_right_of}
use Rattle.net.specs.Answered.{met_refusal}
use Rattle.net.specs.Reading.{read_head, read_net, section_stretch}
use Rattle.net.proofs.read.net_of.Goals as goal

pub returns-in_err-head_and_pairs_refusal-clause-verdict : goal.returns-in_err-head_and_pairs_refusal-clause-verdict
returns-in_err-head_and_pairs_refusal-clause-verdict c =
    err_passed checked _ c.from_residual.ensures.1 (read_head _ _ c.in_err-head_and_pairs_refusal.ensures (met_refusal _))

pub version-version-requires : goal.version-version-requires
version-version-requires c = (head_right_of _ (sym (ap met c.in_ok-head_and_pairs_refusal.ensures))).long

pub returns-in_err-net_refusal-clause-verdict : goal.returns-in_err-net_refusal-clause-verdict
returns-in_err-net_refusal-clause-verdict c =
    err_passed checked _ c.from_residual-in_err-net_refusal.ensures.1 (read_net _ _ none c.in_ok-head_and_pairs_refusal.ensures refl
    (rw (← c.version-version.ensures, ← c.stretch-nodes.ensures, ← c.stretch-wires.ensures, ← c.stretch-obstacles.ensures) c.in_err-net_refusal.ensures))

pub returns-clause-verdict : goal.returns-clause-verdict
returns-clause-verdict c =
    read_net _ _ none c.in_ok-head_and_pairs_refusal.ensures refl
    (rw (← c.version-version.ensures, ← c.stretch-nodes.ensures, ← c.stretch-wires.ensures, ← c.stretch-obstacles.ensures) c.in_ok-net_refusal.ensures)

pub returns-clause-net : goal.returns-clause-net
returns-clause-net c =
    let m = sym (ap met c.in_ok-head_and_pairs_refusal.ensures) in (
      c.version-version.ensures,
      c.stretch-nodes.ensures ∙ section_stretch _ _ m,
      c.stretch-wires.ensures ∙ section_stretch _ _ m,
      c.stretch-obstacles.ensures ∙ section_stretch _ _ m,
    )
