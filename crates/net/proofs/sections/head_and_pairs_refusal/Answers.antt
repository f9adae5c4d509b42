-- `net::sections::head_and_pairs_refusal` meets its contract.
-- Assumes nothing.
use mathlib.Core.Path.{ap, sym}
use Rattle.net.specs.Refusal.{met}
use Rattle.net.specs.Accepted.{head-long}
use Rattle.net.proofs.sections.head_and_pairs_refusal.Goals as goal

pub pairs_refusal-requires : goal.pairs_refusal-requires
pairs_refusal-requires c = head-long _ (sym (ap met c.in_ok-head_refusal.ensures))
