-- `counting::close::heaviest` meets its contract: what holds of the branches passed holds of one more.
-- Assumes nothing.
use Rattle.std.proofs.Common.{◌<◌, ◌≡◌}
use Rattle.std.specs.Option.{IfSome}
use Rattle.clusters.specs.Positions.{los}
use Rattle.counting.specs.Close.{Heaviest}
use Rattle.counting.specs.CloseSums.{weight_at, at_of}
use Rattle.counting.proofs.close.heaviest.Given as goal

abbrev pub invariant-loop-j : goal.invariant-loop-j
invariant-loop-j g l =
    record {
      weight_is : l.weight ≡ weight_at l.b.lightest l.at;
      inside : IfSome l.at (λ j. j < l.c.n);
      heaviest : Heaviest l.j (los l.c.cuttable) l.c.host l.b.lightest l.cut_any l.r (at_of l.at) l.weight;
    }
