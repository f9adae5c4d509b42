-- `reports::count::piece_count` meets its contract.
-- Assumes nothing.
use native.Mathlib.Omega.{arith}
use Rattle.lists.specs.EntriesFew.{entries-few}
use Rattle.records.specs.NetWithJumpers.{accepted_of}
use Rattle.reports.specs.Counting.{count_is}
use Rattle.reports.proofs.count.piece_count.Goals as goal

pub present_count-requires : goal.present_count-requires
present_count-requires c = omega (arith, c.node_count-n.ensures, (accepted_of c.args.net).2.right.sized.wires_length)

pub returns : goal.returns
returns c =
    let n = c.node_count-n.ensures in
    let e = c.entry_count.ensures in
    let net = c.args.net in
    let accepted = accepted_of net in
    let few = entries-few accepted.0 net.nodes.now net.wires.now accepted.1 net.stage net.jumpers.now accepted.2.right net.bytes.0 accepted.2.listed in (
      λ v os j.
          rw (e, n)
          (count_is v net.nodes.now net.wires.now net.jumpers.now os net.stage c.present_count.result j (rw n at c.present_count.ensures.0)),
      omega (arith, accepted.2.right.sized.few_nodes, few),
    )
