-- What the two passes of repair compute, as properties that their loops establish cluster by cluster.
-- Assumes nothing.
use Rattle.std.specs.Prelude.{ℕ, ◌+◌, ◌-◌, ◌*◌, ◌≤◌, ◌<◌, ◌≡◌, ◌⊎◌, Bool, true, false, not, ◌&&◌, ◌||◌, cond, leb, ltb}
use Rattle.laws.specs.Sum.{χ, sum}
use Rattle.cuts.specs.Cluster.{Clusters, Effect, hangs, span}

-- the pass down, for cluster r and for the branch j that hangs by its wire
pub record Down : Type 0 where
  -- the any-option of its host cuts branch j
  pub cut_any : ℕ → Bool
  -- closing cluster r: the fewest points below it; which options reach that number, and the weight that each leaves
  pub fewest : ℕ → ℕ
  pub any_ok : ℕ → Bool
  pub any_weight : ℕ → ℕ
  pub ungated_ok : ℕ → Bool
  pub ungated_weight : ℕ → ℕ
  -- going up branch j's wire: the fewest points below and on it; the least weight it then adds to its host; the least without a gate, if that can be had;
  -- its own jumper, or 0
  pub count : ℕ → ℕ
  pub lightest : ℕ → ℕ
  pub has_ungated : ℕ → Bool
  pub ungated : ℕ → ℕ
  pub near : ℕ → ℕ

-- the points below cluster r's branches
abbrev pub below_count : Clusters → Down → ℕ → ℕ
below_count c d r = sum c.nodes (λ j. χ (hangs c r j) (d.count j))

-- the any-option: how many branches it cuts, and the weight it leaves
abbrev pub any_cuts : Clusters → Down → ℕ → ℕ
any_cuts c d r = sum c.nodes (λ j. χ (hangs c r j && d.cut_any j) 1)

abbrev pub any_left : Clusters → Down → ℕ → ℕ
any_left c d r = c.fixed r + sum c.nodes (λ j. χ (hangs c r j && not (d.cut_any j)) (d.lightest j))

-- the ungated option: how many branches it cuts, and the weight it leaves
abbrev pub ungated_cuts : Clusters → Down → ℕ → ℕ
ungated_cuts c d r = sum c.nodes (λ j. χ (hangs c r j && not (d.has_ungated j)) 1)

abbrev pub ungated_left : Clusters → Down → ℕ → ℕ
ungated_left c d r = c.fixed r + sum c.nodes (λ j. χ (hangs c r j && d.has_ungated j) (d.ungated j))

-- the any-option cuts the heaviest branches, and no more than needed; θ lies between those cut and those kept, and is the last one cut
pub record Largest (c : Clusters) (limit : ℕ) (d : Down) (r θ : ℕ) : Type 0 where
  pub cut_heavy : (j : ℕ) → j < c.nodes → hangs c r j ≡ true → d.cut_any j ≡ true → θ ≤ d.lightest j
  pub kept_light : (j : ℕ) → j < c.nodes → hangs c r j ≡ true → d.cut_any j ≡ false → d.lightest j ≤ θ
  pub fits : any_left c d r ≤ limit
  pub no_fewer : 0 < any_cuts c d r → limit < any_left c d r + θ

-- cluster r is closed
pub data Closed (c : Clusters) (limit : ℕ) (d : Down) (r : ℕ) : Type 0 where
  only-any :
      (θ : ℕ) →
      Largest c limit d r θ →
      (0 < c.gates r) ⊎ (any_cuts c d r < ungated_cuts c d r) →
      d.fewest r ≡ below_count c d r + any_cuts c d r →
      d.any_ok r ≡ true →
      d.ungated_ok r ≡ false →
      d.any_weight r ≡ any_left c d r →
      Closed c limit d r
  both :
      (θ : ℕ) →
      Largest c limit d r θ →
      c.gates r ≡ 0 →
      any_cuts c d r ≡ ungated_cuts c d r →
      d.fewest r ≡ below_count c d r + any_cuts c d r →
      d.any_ok r ≡ true →
      d.ungated_ok r ≡ true →
      d.any_weight r ≡ any_left c d r →
      d.ungated_weight r ≡ ungated_left c d r →
      Closed c limit d r
  only-ungated :
      c.gates r ≡ 0 →
      (limit < c.fixed r) ⊎ ((θ : ℕ) × Largest c limit d r θ × (ungated_cuts c d r < any_cuts c d r)) →
      d.fewest r ≡ below_count c d r + ungated_cuts c d r →
      d.any_ok r ≡ false →
      d.ungated_ok r ≡ true →
      d.ungated_weight r ≡ ungated_left c d r →
      d.any_weight r ≡ d.ungated_weight r →
      Closed c limit d r

-- the way up branch j's wire: without a gate; with a gate and light enough; or with a jumper at the highest point that keeps the weight within the limit
pub data Climbed (c : Clusters) (limit : ℕ) (d : Down) (j : ℕ) : Type 0 where
  without-gate :
      d.ungated_ok j ≡ true →
      d.count j ≡ d.fewest j →
      d.near j ≡ 0 →
      d.has_ungated j ≡ true →
      d.ungated j ≡ d.ungated_weight j + span c j →
      d.lightest j ≡ cond (leb (d.any_weight j + span c j) limit) (d.any_weight j + span c j) (d.ungated j) →
      Climbed c limit d j
  within_limit :
      d.ungated_ok j ≡ false →
      d.any_weight j + span c j ≤ limit →
      d.count j ≡ d.fewest j →
      d.near j ≡ 0 →
      d.has_ungated j ≡ false →
      d.lightest j ≡ d.any_weight j + span c j →
      Climbed c limit d j
  with-jumper :
      d.ungated_ok j ≡ false →
      limit < d.any_weight j + span c j →
      d.count j ≡ d.fewest j + 1 →
      c.free j (d.near j) ≡ true →
      d.any_weight j + c.factor j * (d.near j - c.lo j) ≤ limit →
      ((t : ℕ) → c.free j t ≡ true → d.any_weight j + c.factor j * (t - c.lo j) ≤ limit → t ≤ d.near j) →
      d.has_ungated j ≡ true →
      d.ungated j ≡ c.factor j * (c.hi j - d.near j) →
      d.lightest j ≡ d.ungated j →
      Climbed c limit d j

-- the pass down over clusters and branches from number m on
pub record Counted (c : Clusters) (limit : ℕ) (d : Down) (m : ℕ) : Type 0 where
  pub closed : (r : ℕ) → m ≤ r → r < c.nodes → Closed c limit d r
  pub climbed : (j : ℕ) → m ≤ j → j < c.nodes → c.cuttable j ≡ true → Climbed c limit d j
  pub no_near : (j : ℕ) → m ≤ j → j < c.nodes → c.cuttable j ≡ false → d.near j ≡ 0

-- the number of points found: over the clusters that hang on none
unfoldable pub total_fewest : Clusters → Down → ℕ
total_fewest c d = sum c.nodes (λ r. χ (not (c.cuttable r)) (d.fewest r))

-- the pass up: cluster r takes the any-option (else the ungated one); branch j is cut at its highest cuttable point
pub record Up : Type 0 where
  pub any_mode : ℕ → Bool
  pub cut_high : ℕ → Bool

-- branch j has a jumper of its own
abbrev pub stops : Down → ℕ → Bool
stops d j = ltb 0 (d.near j)

pub record Chosen (c : Clusters) (limit : ℕ) (d : Down) (u : Up) (r : ℕ) : Type 0 where
  pub root_mode : c.cuttable r ≡ false → u.any_mode r ≡ d.any_ok r
  pub root_high : c.cuttable r ≡ false → u.cut_high r ≡ false
  pub branch_high : c.cuttable r ≡ true → u.cut_high r ≡ cond (u.any_mode (c.host r)) (d.cut_any r) (not (d.has_ungated r))
  pub branch_mode :
      c.cuttable r ≡ true →
      u.any_mode r ≡ (stops d r || ((u.any_mode (c.host r) || u.cut_high r) && (d.any_ok r && leb (d.any_weight r + span c r) limit)))

-- both passes
pub record Run (c : Clusters) (limit : ℕ) (d : Down) (u : Up) : Type 0 where
  pub counted : Counted c limit d 0
  pub chosen : (r : ℕ) → r < c.nodes → Chosen c limit d u r

-- what the chosen points do
abbrev pub chosen_effect : Clusters → Down → Up → Effect
chosen_effect c d u =
    record {
      cut = λ j. stops d j || u.cut_high j;
      first = λ j. cond (stops d j) (d.near j) (c.hi j);
      last = λ j. cond (u.cut_high j) (c.hi j) (d.near j);
      points = λ j. χ (stops d j) 1 + χ (u.cut_high j) 1;
    }
