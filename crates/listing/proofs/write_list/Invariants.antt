-- `listing::write_list` meets its contract: below r every wire's entries are written, one behind the other.
-- Assumes nothing.
use Rattle.std.proofs.Common.{◌≡◌}
use Rattle.laws.specs.Lists.{over}
use Rattle.clusters.specs.Positions.{his, positions}
use Rattle.listing.specs.Listing.{list_of, count_of}
use Rattle.listing.proofs.write_list.Given as goal

abbrev pub invariant-loop-r : goal.invariant-loop-r
invariant-loop-r l = (l.count ≡ count_of l.r (positions l.near) l.cut_high) × (l.out ≡ over (list_of l.r (his l.cuttable) (positions l.near) l.cut_high) l.initial.out)
