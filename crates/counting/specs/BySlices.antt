-- What the pass down establishes, over arrays as lists of any length.
-- Assumes nothing.
use Rattle.std.specs.Prelude.{ℕ, ◌≤◌, ◌<◌, ◌≡◌, Bool, not, List, length, get_or, ltb}
use Rattle.laws.specs.Sum.{χ, sum}
use Rattle.net.specs.Layout.{most_nodes}
use Rattle.net.specs.Limits.{weight_bound}
use Rattle.net.specs.Net.{wire_factor}
use Rattle.points.specs.Cuttable.{Checked}
use Rattle.cuts.specs.Cluster.{Clusters, Sound}
use Rattle.cuts.specs.Passes.{Counted}
use Rattle.cuts.specs.Bounds.{all_weight}
use Rattle.clusters.specs.Arrays.{down_of}
use Rattle.counting.specs.Climb.{open_at}

-- m clusters by their arrays: every wire counts as made
abbrev pub work_of : ℕ → List ℕ → List ℕ → List ℕ → List ℕ → List ℕ → List ℕ → List ℕ → List ℕ → Clusters
work_of m ns ws os lo hi host fixed gates =
    record {
      nodes = m;
      cuttable = λ i. ltb 0 (get_or lo i 0);
      lo = λ i. get_or lo i 0;
      hi = λ i. get_or hi i 0;
      free = λ i t. open_at ns ws os i t;
      factor = λ i. wire_factor ws i;
      host = λ i. get_or host i 0;
      fixed = λ r. get_or fixed r 0;
      gates = λ r. get_or gates r 0;
    }

-- all of them
unfoldable pub work_clusters : ℕ → List ℕ → List ℕ → List ℕ → List ℕ → List ℕ → List ℕ → List ℕ → List ℕ → Clusters
work_clusters n ns ws os lo hi host fixed gates = work_of n ns ws os lo hi host fixed gates

-- what the passes before have established
pub record Ready (n : ℕ) (ns ws os lo hi host fixed gates : List ℕ) : Type 0 where
  pub sound : Sound (work_clusters n ns ws os lo hi host fixed gates)
  pub few : n ≤ most_nodes
  pub light : all_weight (work_clusters n ns ws os lo hi host fixed gates) < weight_bound
  pub checked : (j : ℕ) → 0 < j → j < n → Checked ns ws j
  pub factor : (j : ℕ) → 0 < j → j < n → 1 ≤ wire_factor ws j

-- no cluster with a gate has more fixed weight than the limit
abbrev pub NoneHopeless : ℕ → List ℕ → List ℕ → ℕ → Type 0
NoneHopeless n fixed gates limit = (r : ℕ) → r < n → 0 < get_or gates r 0 → get_or fixed r 0 ≤ limit

-- the clusters from r on are closed and climbed
pub record CountedFrom
    (c : Clusters) (limit : ℕ) (cut_any : List Bool) (fewest : List ℕ) (any_ok : List Bool) (any_weight count lightest : List ℕ)
    (has_ungated : List Bool) (ungated near : List ℕ) (r : ℕ) : Type 0 where
  pub ungated_ok : ℕ → Bool
  pub ungated_weight : ℕ → ℕ
  pub counted : Counted c limit (down_of cut_any fewest any_ok any_weight ungated_ok ungated_weight count lightest has_ungated ungated near) r

-- the points at the nodes below m that are no branch: the lowest node of each component, and nodes inside clusters, which have none
unfoldable pub root_sum : ℕ → List ℕ → List ℕ → ℕ
root_sum m lo fewest = sum m (λ r. χ (not (ltb 0 (get_or lo r 0))) (get_or fewest r 0))

-- all clusters are closed and climbed, and points is the sum over the components
pub record CountedAll
    (n : ℕ) (ns ws os lo hi host fixed gates : List ℕ) (limit : ℕ)
    (cut_any any_ok : List Bool) (any_weight : List ℕ) (has_ungated : List Bool) (near fewest : List ℕ) (points : ℕ) : Type 0 where
  pub count : List ℕ
  pub lightest : List ℕ
  pub ungated : List ℕ
  pub counted : CountedFrom (work_clusters n ns ws os lo hi host fixed gates) limit cut_any fewest any_ok any_weight count lightest has_ungated ungated near 0
  pub points_is : points ≡ root_sum n lo fewest

-- where branches hang
pub record Hanging (n : ℕ) (lo host : List ℕ) : Type 0 where
  pub los : n ≤ length lo
  pub hosts : n ≤ length host

-- the arrays have an entry for every node below n
pub record CountLengths
    (n : ℕ) (lo hi host fixed gates : List ℕ) (cut_any any_ok : List Bool) (any_weight : List ℕ) (has_ungated : List Bool) (near fewest : List ℕ) : Type 0 where
  pub hanging : Hanging n lo host
  pub his : n ≤ length hi
  pub fixeds : n ≤ length fixed
  pub gate_counts : n ≤ length gates
  pub cuts : n ≤ length cut_any
  pub anys : n ≤ length any_ok
  pub any_weights : n ≤ length any_weight
  pub flags : n ≤ length has_ungated
  pub nears : n ≤ length near
  pub fewests : n ≤ length fewest
