-- `choice::by_slices::put_counts` meets its contract: below r the arrays have what the slices have there. Assumes nothing.
use Rattle.std.proofs.Common.{ℕ, ◌<◌, ◌≡◌, None, false, get_or, is_some, ltb}
use Rattle.clusters.specs.Positions.{position_of}
use Rattle.choice.proofs.by_slices.put_counts.Given as goal

abbrev pub invariant-loop-r : goal.invariant-loop-r
invariant-loop-r g l =
    record {
      cuts : (j : ℕ) → j < l.r → get_or l.k.cut_any j false ≡ get_or l.cut_any j false;
      oks : (j : ℕ) → j < l.r → get_or l.k.any_ok j false ≡ get_or l.any_ok j false;
      weights : (j : ℕ) → j < l.r → get_or l.k.any_weight j 0 ≡ get_or l.any_weight j 0;
      ungated : (j : ℕ) → j < l.r → is_some (get_or l.k.ungated j None) ≡ get_or l.has_ungated j false;
      stops : (j : ℕ) → j < l.r → ltb 0 (position_of (get_or l.k.near j None)) ≡ ltb 0 (get_or l.near j 0);
    }
