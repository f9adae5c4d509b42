-- `counting::climb::climb` meets its contract: each return is an ending of `Climbed`.
-- Assumes nothing.
use Rattle.std.proofs.Common.{arith}
use Rattle.counting.specs.ClimbLaws.{hi-short}
use Rattle.counting.proofs.climb.climb.Goals as goal

pub stretch_weight-span-requires-clause-from_le_to : goal.stretch_weight-span-requires-clause-from_le_to
stretch_weight-span-requires-clause-from_le_to c =
    let short = hi-short (λ k. omega (arith, c.type_inv.nodes k)) c.requires.branch in
    (omega (arith, c.requires.branch.in_order), omega arith)

pub stretch_weight-rest-requires-clause-from_le_to : goal.stretch_weight-rest-requires-clause-from_le_to
stretch_weight-rest-requires-clause-from_le_to c =
    let short = hi-short (λ k. omega (arith, c.type_inv.nodes k)) c.requires.branch in
    (omega (arith, c.last_within-near.ensures.before_hi), omega arith)
