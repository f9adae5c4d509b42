-- `routes::reading::read_route` meets its contract. The invariant: `Reading`, the state after some points, with what was read behind them.
-- Assumes nothing.
use mathlib.Core.Path.{◌≡◌}
use lib.ListN.{length}
use Rattle.std.specs.Prelude.{Ok}
use Rattle.paths.specs.FormLaws.{left}
use Rattle.routes.specs.Reading.{Reading}
use Rattle.routes.proofs.reading.read_route.Given as goal

abbrev pub invariant-loop-read : goal.invariant-loop-read
invariant-loop-read l = Reading l.text l.place (Ok l.read) l.points l.found l.nodes × (length l.nodes ≡ 256)

abbrev pub decreases-loop-read : goal.decreases-loop-read
decreases-loop-read l = left l.text (Ok l.read)
