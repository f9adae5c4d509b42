-- What climbing a branch's wire establishes.
-- Assumes nothing.
use Rattle.std.specs.Prelude.{ℕ, ◌+◌, ◌*◌, ◌≤◌, ◌<◌, ◌≡◌, Bool, true, false, not, ◌&&◌, None, List, leb, ltb, is_some, unwrap_or}
use Rattle.net.specs.Layout.{newest, most_nodes}
use Rattle.net.specs.Limits.{weight_bound}
use Rattle.net.specs.Net.{wire_factor, wire_length, barred}
use Rattle.points.specs.Cuttable.{Checked}
use Rattle.clusters.specs.Positions.{position_of}
use Rattle.clusters.specs.Stretch.{stretch_weight}
use Rattle.cuts.specs.Cluster.{Clusters}
use Rattle.cuts.specs.Passes.{Down, Climbed}
use Rattle.counting.specs.declared.close.Closing.{Closing}
use Rattle.counting.specs.declared.climb.Climbing.{Climbing}
use Rattle.counting.specs.Close.{any_weight, ungated_ok, ungated_weight}

-- position t lies inside wire i, and no obstacle bars it
unfoldable pub open_at : List ℕ → List ℕ → List ℕ → ℕ → ℕ → Bool
open_at ns ws os i t = leb 1 t && (ltb t (wire_length ns ws i) && not (barred newest 0 ns ws os i t))

-- wire i has an open position; lo and hi are the lowest and the highest
pub record Branch (ns ws os : List ℕ) (i lo hi : ℕ) : Type 0 where
  pub checked : Checked ns ws i
  pub factor : 1 ≤ wire_factor ws i
  pub lo_open : open_at ns ws os i lo ≡ true
  pub hi_open : open_at ns ws os i hi ≡ true
  pub in_order : lo ≤ hi

-- near is the highest open position up to which a piece that weighs weight at lo is within the limit
pub record LastWithin (ns ws os : List ℕ) (i lo hi weight limit near : ℕ) : Type 0 where
  pub is_open : open_at ns ws os i near ≡ true
  pub within : weight + stretch_weight ws i lo near ≤ limit
  pub highest : (t : ℕ) → open_at ns ws os i t ≡ true → weight + stretch_weight ws i lo t ≤ limit → t ≤ near
  pub before_hi : near ≤ hi

-- what climbing a wire looks at
abbrev pub wire_of : List ℕ → List ℕ → List ℕ → ℕ → ℕ → Clusters
wire_of ns ws os lo hi =
    record {
      nodes = 0;
      cuttable = λ i. true;
      lo = λ i. lo;
      hi = λ i. hi;
      free = λ i t. open_at ns ws os i t;
      factor = λ i. wire_factor ws i;
      host = λ i. 0;
      fixed = λ r. 0;
      gates = λ r. 0;
    }

-- what climbing a wire finds, beside what closing its cluster found
abbrev pub climbing_of : Closing → Climbing → Down
climbing_of x y =
    record {
      cut_any = λ j. false;
      fewest = λ r. x.fewest;
      any_ok = λ r. false;
      any_weight = λ r. any_weight x.options;
      ungated_ok = λ r. ungated_ok x.options;
      ungated_weight = λ r. ungated_weight x.options;
      count = λ j. y.count;
      lightest = λ j. y.lightest;
      has_ungated = λ j. is_some y.ungated;
      ungated = λ j. unwrap_or y.ungated 0;
      near = λ j. position_of y.near;
    }

-- the numbers of a closed cluster are small, and without the ungated option its weight is within the limit
pub record Closable (limit : ℕ) (x : Closing) : Type 0 where
  pub few : x.fewest ≤ 3 * most_nodes
  pub light : any_weight x.options < weight_bound
  pub ungated_light : ungated_ok x.options ≡ true → ungated_weight x.options < weight_bound
  pub within : ungated_ok x.options ≡ false → any_weight x.options ≤ limit

-- what climbing the wire of branch i establishes
abbrev pub Climbs : List ℕ → List ℕ → List ℕ → ℕ → ℕ → ℕ → ℕ → Closing → Climbing → Type 0
Climbs ns ws os i lo hi limit x y = Climbed (wire_of ns ws os lo hi) limit (climbing_of x y) i

-- the same of any wire i: without a point that may be cut it has no jumper
pub record ClimbsAt (ns ws os : List ℕ) (i lo hi limit : ℕ) (x : Closing) (y : Climbing) : Type 0 where
  pub climbed : 0 < lo → Climbs ns ws os i lo hi limit x y
  pub none : lo ≡ 0 → y.near ≡ None
