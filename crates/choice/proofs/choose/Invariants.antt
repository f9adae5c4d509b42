-- `choice::choose` meets its contract: the clusters passed have their options, and what is added now is at the next one.
-- Assumes nothing.
use Rattle.std.proofs.Common.{ℕ, ◌<◌, ◌≡◌, length}
use Rattle.choice.specs.Choose.{Chooses}
use Rattle.choice.proofs.choose.Given as goal

abbrev pub invariant-loop-r : goal.invariant-loop-r
invariant-loop-r g l =
    record {
      long : length l.any_mode ≡ g.row.N;
      chosen : (j : ℕ) → j < l.r → Chooses l.wires l.c l.k l.limit l.any_mode l.cut_high j;
    }
