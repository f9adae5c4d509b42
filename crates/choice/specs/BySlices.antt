-- What the pass up puts into its arrays, as lists of any length: the option that each cluster takes, and the branches cut at their highest cuttable point.
-- Assumes nothing.
use Rattle.std.specs.Prelude.{ℕ, ◌+◌, ◌*◌, ◌≤◌, ◌<◌, ◌≡◌, Bool, false, not, ◌&&◌, ◌||◌, cond, List, length, get_or, leb, ltb}
use Rattle.net.specs.Layout.{wire_bytes}
use Rattle.net.specs.Limits.{length_bound, weight_bound}
use Rattle.clusters.specs.Positions.{positions}
use Rattle.clusters.specs.FirstPasses.{cuttable}
use Rattle.clusters.specs.Stretch.{stretch_weight}
use Rattle.counting.specs.declared.work.Counts.{Counts}
use Rattle.counting.specs.Optional.{flags}

-- the host of branch r takes the any-option
abbrev pub host_mode : List ℕ → List Bool → ℕ → Bool
host_mode host any_mode r = get_or any_mode (get_or host r 0) false

-- branch r is cut at its highest cuttable point: the option of its host cuts it
abbrev pub cut_here : List ℕ → List ℕ → List Bool → List Bool → List Bool → ℕ → Bool
cut_here lo host cut_any has_ungated any_mode r =
    cuttable lo r && cond (host_mode host any_mode r) (get_or cut_any r false) (not (get_or has_ungated r false))

-- the any-option of cluster r is within the limit with all of branch r's wire between its lowest and its highest cuttable point
abbrev pub fits_whole : List ℕ → List ℕ → List ℕ → List Bool → List ℕ → ℕ → ℕ → Bool
fits_whole ws lo hi any_ok any_weight limit r =
    get_or any_ok r false && leb (get_or any_weight r 0 + stretch_weight ws r (get_or lo r 0) (get_or hi r 0)) limit

-- cluster r takes the any-option; here: branch r is cut at its highest cuttable point
abbrev pub any_here : List ℕ → List ℕ → List ℕ → List ℕ → List Bool → List ℕ → List ℕ → ℕ → List Bool → Bool → ℕ → Bool
any_here ws lo hi host any_ok any_weight near limit any_mode here r =
    cond (cuttable lo r)
    (ltb 0 (get_or near r 0) || ((host_mode host any_mode r || here) && fits_whole ws lo hi any_ok any_weight limit r))
    (get_or any_ok r false)

-- what the arrays of the pass up hold for cluster r
pub record Chooses (ws lo hi host : List ℕ) (cut_any any_ok : List Bool) (any_weight : List ℕ) (has_ungated : List Bool) (near : List ℕ) (limit : ℕ) (any_mode cut_high : List Bool) (r : ℕ) : Type 0 where
  pub high_is : get_or cut_high r false ≡ cut_here lo host cut_any has_ungated any_mode r
  pub mode_is : get_or any_mode r false ≡ any_here ws lo hi host any_ok any_weight near limit any_mode (get_or cut_high r false) r

-- what the passes before have established, as far as the pass up uses it
pub record Choosable (n : ℕ) (ws lo hi host any_weight : List ℕ) : Type 0 where
  pub stored : (r : ℕ) → r < n → wire_bytes * r ≤ length ws
  pub below : (r : ℕ) → r < n → 0 < get_or lo r 0 → get_or host r 0 < r
  pub ordered : (r : ℕ) → r < n → 0 < get_or lo r 0 → get_or lo r 0 ≤ get_or hi r 0
  pub short : (r : ℕ) → r < n → get_or hi r 0 < length_bound
  pub light : (r : ℕ) → r < n → get_or any_weight r 0 < weight_bound

-- the work arrays of the passes before have an entry for every node below n
pub record ChoiceLengths (n : ℕ) (lo hi host : List ℕ) (cut_any any_ok : List Bool) (any_weight : List ℕ) (has_ungated : List Bool) (near : List ℕ) : Type 0 where
  pub los : n ≤ length lo
  pub his : n ≤ length hi
  pub hosts : n ≤ length host
  pub cuts : n ≤ length cut_any
  pub anys : n ≤ length any_ok
  pub any_weights : n ≤ length any_weight
  pub flags : n ≤ length has_ungated
  pub nears : n ≤ length near

-- the first n entries of k, as far as the pass up reads them
pub record SameCounts (n : ℕ) (cut_any any_ok : List Bool) (any_weight : List ℕ) (has_ungated : List Bool) (near : List ℕ) {N : ℕ} (k : Counts N) : Type 0 where
  pub cuts : (r : ℕ) → r < n → get_or k.cut_any r false ≡ get_or cut_any r false
  pub oks : (r : ℕ) → r < n → get_or k.any_ok r false ≡ get_or any_ok r false
  pub weights : (r : ℕ) → r < n → get_or k.any_weight r 0 ≡ get_or any_weight r 0
  pub ungated : (r : ℕ) → r < n → get_or (flags k.ungated) r false ≡ get_or has_ungated r false
  pub stops : (r : ℕ) → r < n → ltb 0 (get_or (positions k.near) r 0) ≡ ltb 0 (get_or near r 0)
