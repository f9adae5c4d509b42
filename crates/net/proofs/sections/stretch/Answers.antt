-- `net::sections::stretch` meets its contract.
-- Assumes nothing.
use native.Mathlib.Omega.{arith}
use Rattle.net.specs.Accepted.{head_right_of, section_inside}
use Rattle.net.specs.Sections.{index-low}
use Rattle.net.specs.Reading.{stretch-part}
use Rattle.net.proofs.sections.stretch.Goals as goal

pub offset-start-requires : goal.offset-start-requires
offset-start-requires c = (head_right_of _ c.requires).long

pub end_of-end-requires : goal.end_of-end-requires
end_of-end-requires c = (head_right_of _ c.requires).long

pub slice_bounds-result-end : goal.slice_bounds-result-end
slice_bounds-result-end c = omega (arith, section_inside _ (head_right_of _ c.requires) _ (index-low c.args.of))

pub returns : goal.returns
returns c = stretch-part _ _ _ _ c.offset-start.ensures.0 c.end_of-end.ensures
