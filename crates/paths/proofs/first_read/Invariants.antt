-- `paths::first_read` meets its contract. The invariant: what is sought is found among the points still to be read.
-- Assumes nothing.
use Rattle.std.specs.Prelude.{Ok}
use Rattle.paths.specs.Again.{stands_within, first_read}
use Rattle.paths.specs.AgainLaws.{Searching}
use Rattle.paths.proofs.first_read.Given as goal

abbrev pub invariant-loop-k : goal.invariant-loop-k
invariant-loop-k l = Searching l.text (stands_within l.x l.y l.low l.high) l.points l.k (first_read l.text l.place l.points l.x l.y l.low l.high) (Ok l.read)
