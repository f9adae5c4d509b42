-- What the pass up puts into its arrays, over the structs of the passes before: what `BySlices` says of their lists.
-- Assumes nothing.
use Rattle.std.specs.Prelude.{ℕ, Bool, List}
use Rattle.clusters.specs.declared.work.Clusters.{Clusters}
use Rattle.clusters.specs.Positions.{los, his, positions}
use Rattle.counting.specs.declared.work.Counts.{Counts}
use Rattle.counting.specs.Optional.{flags}
use Rattle.choice.specs.BySlices as slices

abbrev pub host_mode : {N : ℕ} → Clusters N → List Bool → ℕ → Bool
host_mode c any_mode r = slices.host_mode c.host any_mode r

abbrev pub cut_here : {N : ℕ} → Clusters N → Counts N → List Bool → ℕ → Bool
cut_here c k any_mode r = slices.cut_here (los c.cuttable) c.host k.cut_any (flags k.ungated) any_mode r

abbrev pub fits_whole : List ℕ → {N : ℕ} → Clusters N → Counts N → ℕ → ℕ → Bool
fits_whole ws c k limit r = slices.fits_whole ws (los c.cuttable) (his c.cuttable) k.any_ok k.any_weight limit r

abbrev pub any_here : List ℕ → {N : ℕ} → Clusters N → Counts N → ℕ → List Bool → Bool → ℕ → Bool
any_here ws c k limit any_mode here r =
    slices.any_here ws (los c.cuttable) (his c.cuttable) c.host k.any_ok k.any_weight (positions k.near) limit any_mode here r

abbrev pub Chooses : List ℕ → {N : ℕ} → Clusters N → Counts N → ℕ → List Bool → List Bool → ℕ → Type 0
Chooses ws c k limit any_mode cut_high r =
    slices.Chooses ws (los c.cuttable) (his c.cuttable) c.host k.cut_any k.any_ok k.any_weight (flags k.ungated) (positions k.near) limit any_mode cut_high r

abbrev pub Choosable : List ℕ → {N : ℕ} → Clusters N → Counts N → Type 0
Choosable ws c k = slices.Choosable c.n ws (los c.cuttable) (his c.cuttable) c.host k.any_weight
