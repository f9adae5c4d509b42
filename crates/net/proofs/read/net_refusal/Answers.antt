-- `net::read::net_refusal` meets its contract.
-- Assumes nothing.
use Rattle.std.proofs.Common.{rules, sym, ap}
use Rattle.net.specs.Refusal.{met, net_refusal}
use Rattle.net.specs.Accepted.{sized_of}
use Rattle.net.proofs.read.net_refusal.Goals as goal

pub returns-in_err-sections_refusal : goal.returns-in_err-sections_refusal
unfolding net_refusal
returns-in_err-sections_refusal c = search rules

pub returns-in_err-nodes_refusal : goal.returns-in_err-nodes_refusal
unfolding net_refusal
returns-in_err-nodes_refusal c = search rules

pub returns-in_err-wires_refusal : goal.returns-in_err-wires_refusal
unfolding net_refusal
returns-in_err-wires_refusal c = search rules

pub returns : goal.returns
unfolding net_refusal
returns c = search rules

pub wires_refusal-requires : goal.wires_refusal-requires
wires_refusal-requires c = (sized_of _ _ _ _ (sym (ap met c.in_ok-sections_refusal.ensures))).wires_length
