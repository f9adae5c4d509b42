-- What the pass down establishes, over its work arrays.
-- Assumes nothing.
use Rattle.std.specs.Prelude.{ℕ, ◌≤◌, ◌<◌, ◌≡◌, Bool, false, List, get_or}
use Rattle.net.specs.Layout.{most_nodes}
use Rattle.net.specs.Limits.{weight_bound}
use Rattle.net.specs.Net.{wire_factor}
use Rattle.points.specs.Cuttable.{Checked}
use Rattle.cuts.specs.Cluster.{Clusters, Sound}
use Rattle.cuts.specs.Passes.{Down}
use Rattle.cuts.specs.Bounds.{all_weight}
use Rattle.clusters.specs.declared.work.Clusters as work
use Rattle.clusters.specs.Positions.{los, his, positions}
use Rattle.clusters.specs.Arrays.{down_of}
use Rattle.counting.specs.declared.work.Counts.{Counts}
use Rattle.counting.specs.declared.work.Branches.{Branches}
use Rattle.counting.specs.Optional.{flags, weights}
use Rattle.counting.specs.BySlices as slices
unfoldable pub use Rattle.counting.specs.BySlices.{root_sum}

-- m clusters of the work arrays: every wire counts as made
abbrev pub work_of : List ℕ → List ℕ → List ℕ → {N : ℕ} → work.Clusters N → ℕ → Clusters
work_of ns ws os c m = slices.work_of m ns ws os (los c.cuttable) (his c.cuttable) c.host c.fixed c.gates

-- all of them
unfoldable pub work_clusters : List ℕ → List ℕ → List ℕ → {N : ℕ} → work.Clusters N → Clusters
work_clusters ns ws os c = work_of ns ws os c c.n

-- what the passes before have established
pub record Ready (ns ws os : List ℕ) {N : ℕ} (c : work.Clusters N) : Type 0 where
  pub sound : Sound (work_clusters ns ws os c)
  pub few : c.n ≤ most_nodes
  pub light : all_weight (work_clusters ns ws os c) < weight_bound
  pub checked : (j : ℕ) → 0 < j → j < c.n → Checked ns ws j
  pub factor : (j : ℕ) → 0 < j → j < c.n → 1 ≤ wire_factor ws j

-- no cluster with a gate has more fixed weight than the limit
abbrev pub NoneHopeless : {N : ℕ} → work.Clusters N → ℕ → Type 0
NoneHopeless c limit = slices.NoneHopeless c.n c.fixed c.gates limit

-- no branch of a cluster below r is marked
abbrev pub Unmarked : {N : ℕ} → work.Clusters N → List Bool → ℕ → Type 0
Unmarked c cut_any r = (j : ℕ) → j < c.n → 0 < get_or (los c.cuttable) j 0 → get_or c.host j 0 < r → get_or cut_any j false ≡ false

-- what the arrays hold, with what closings find of the ungated option, which is in no array
abbrev pub found : {N : ℕ} → Counts N → Branches N → (ℕ → Bool) → (ℕ → ℕ) → Down
found k b ungated_ok ungated_weight =
    down_of k.cut_any k.fewest k.any_ok k.any_weight ungated_ok ungated_weight b.count b.lightest (flags k.ungated) (weights k.ungated) (positions k.near)

-- the clusters from r on are closed and climbed
abbrev pub CountedFrom : Clusters → ℕ → {N : ℕ} → Counts N → Branches N → ℕ → Type 0
CountedFrom c limit k b r =
    slices.CountedFrom c limit k.cut_any k.fewest k.any_ok k.any_weight b.count b.lightest (flags k.ungated) (weights k.ungated) (positions k.near) r

-- all clusters are closed and climbed, and points is the sum over the components
pub record CountedAll (ns ws os : List ℕ) {N : ℕ} (c : work.Clusters N) (limit : ℕ) (k : Counts N) (points : ℕ) : Type 0 where
  pub branches : Branches N
  pub counted : CountedFrom (work_clusters ns ws os c) limit k branches 0
  pub points_is : points ≡ root_sum c.n (los c.cuttable) k.fewest
