-- The work arrays of repair as the functions that the mathematics of `cuts` speaks of.
-- Assumes nothing.
use Rattle.std.specs.Prelude.{ℕ, Bool, false, List, get_or, ltb}
use Rattle.net.specs.Stage.{Stage}
use Rattle.cuts.specs.Cluster.{Clusters}
use Rattle.cuts.specs.Passes.{Down, Up}
use Rattle.cuts.specs.Fits.{free_at}

-- lo i is 0 where wire i has no point that may be cut
unfoldable pub clusters_of : Stage → List ℕ → List ℕ → List ℕ → List ℕ → List ℕ → Clusters
clusters_of s lo hi host fixed gates =
    record {
      nodes = s.nodes;
      cuttable = λ i. ltb 0 (get_or lo i 0);
      lo = λ i. get_or lo i 0;
      hi = λ i. get_or hi i 0;
      free = λ i t. free_at s i t;
      factor = λ i. s.factor i;
      host = λ i. get_or host i 0;
      fixed = λ r. get_or fixed r 0;
      gates = λ r. get_or gates r 0;
    }

-- what a closing finds of the ungated option is in no array
unfoldable pub down_of :
    List Bool → List ℕ → List Bool → List ℕ → (ℕ → Bool) → (ℕ → ℕ) → List ℕ → List ℕ → List Bool → List ℕ → List ℕ → Down
down_of cut_any fewest any_ok any_weight ungated_ok ungated_weight count lightest has_ungated ungated near =
    record {
      cut_any = λ j. get_or cut_any j false;
      fewest = λ r. get_or fewest r 0;
      any_ok = λ r. get_or any_ok r false;
      any_weight = λ r. get_or any_weight r 0;
      ungated_ok = ungated_ok;
      ungated_weight = ungated_weight;
      count = λ j. get_or count j 0;
      lightest = λ j. get_or lightest j 0;
      has_ungated = λ j. get_or has_ungated j false;
      ungated = λ j. get_or ungated j 0;
      near = λ j. get_or near j 0;
    }

unfoldable pub up_of : List Bool → List Bool → Up
up_of any_mode cut_high = record { any_mode = λ r. get_or any_mode r false; cut_high = λ j. get_or cut_high j false }
