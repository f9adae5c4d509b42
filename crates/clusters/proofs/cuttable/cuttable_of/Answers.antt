-- `clusters::cuttable::cuttable_of` meets its contract. Assumes nothing.
use Rattle.std.proofs.Common.{None, Some, sym, ◌∙◌, arith}
use Rattle.clusters.specs.EndsLaws.{checked_present, lowest-present, lowest-absent, highest-present, highest-absent, none-highest}
use Rattle.clusters.proofs.cuttable.cuttable_of.Goals as goal

pub returns-then-not-is_present : goal.returns-then-not-is_present
returns-then-not-is_present c =
    let absent = sym c.is_present.ensures ∙ c.if-not-is_present.true in
    (lowest-absent _ _ _ _ _ c.requires.1 absent, highest-absent _ _ _ _ _ c.requires.1 absent)

pub lowest_cuttable-requires : goal.lowest_cuttable-requires
lowest_cuttable-requires c = (checked_present c.requires.0 _ _ c.requires.1 (sym c.is_present.ensures ∙ c.if-not-is_present.false), omega arith)

pub returns-in_err-lo : goal.returns-in_err-lo
returns-in_err-lo c =
    let low = lowest-present _ _ _ _ _ c.requires.1 (sym c.is_present.ensures ∙ c.if-not-is_present.false) None c.in_err-lo.ensures in
    rw c.from_residual.ensures (low, none-highest _ _ low)

pub length_of-last-requires : goal.length_of-last-requires
length_of-last-requires c = checked_present c.requires.0 _ _ c.requires.1 (sym c.is_present.ensures ∙ c.if-not-is_present.false)

pub highest_cuttable-requires : goal.highest_cuttable-requires
highest_cuttable-requires c = (checked_present c.requires.0 _ _ c.requires.1 (sym c.is_present.ensures ∙ c.if-not-is_present.false), omega (arith, c.length_of-last.ensures.0))

pub returns : goal.returns
returns c =
    let here = sym c.is_present.ensures ∙ c.if-not-is_present.false in
    let lo = c.in_ok-lo.ensures in (
      lowest-present _ _ _ _ _ c.requires.1 here (Some c.in_ok-lo.lo) lo,
      highest-present _ _ _ _ _ c.requires.1 here (Some c.in_ok-hi.hi) (omega (arith, lo.within)) (rw c.length_of-last.ensures.0 at c.in_ok-hi.ensures),
    )
