-- What closing a cluster establishes, over the work arrays of the pass down.
-- Assumes nothing.
use Rattle.std.specs.Prelude.{ℕ, ◌+◌, ◌*◌, ◌≤◌, ◌<◌, ◌≡◌, ◌⊎◌, Bool, true, false, not, ◌&&◌, Option, None, Some, List, length, get_or, ltb, eqb}
use Rattle.laws.specs.Sum.{χ, sum}
use Rattle.cuts.specs.Cluster.{Clusters}
use Rattle.net.specs.Layout.{most_nodes}
use Rattle.net.specs.Limits.{weight_bound}
use Rattle.cuts.specs.Passes.{Down, Closed}
use Rattle.counting.specs.declared.close.Options.{Options}
use Rattle.counting.specs.declared.close.Options.TheVariants.{Any, Ungated, Either}
use Rattle.counting.specs.declared.close.Closing.{Closing}

-- a cluster to be closed: its lowest node, the weight that no cut takes away, and the number of its gates
pub record Cluster : Type 0 where
  pub lowest : ℕ
  pub fixed : ℕ
  pub gates : ℕ

-- cluster r by the work arrays
abbrev pub cluster_at : List ℕ → List ℕ → ℕ → Cluster
cluster_at fixed gates r = record { lowest = r; fixed = get_or fixed r 0; gates = get_or gates r 0 }

-- branch j hangs on cluster r
abbrev pub hung : List ℕ → List ℕ → ℕ → ℕ → Bool
hung lo host r j = ltb 0 (get_or lo j 0) && eqb (get_or host j 0) r

-- the branches of cluster r have higher numbers than it
abbrev pub HungAbove : List ℕ → List ℕ → ℕ → Type 0
HungAbove lo host r = (j : ℕ) → j ≤ r → hung lo host r j ≡ false

-- no branch of cluster r is cut
abbrev pub NoneCut : ℕ → List ℕ → List ℕ → List Bool → ℕ → Type 0
NoneCut n lo host cut_any r = (j : ℕ) → j < n → hung lo host r j ≡ true → get_or cut_any j false ≡ false

-- a value's sum over the branches of cluster r
unfoldable pub branch_sum : ℕ → List ℕ → List ℕ → ℕ → List ℕ → ℕ
branch_sum n lo host r values = sum n (λ j. χ (hung lo host r j) (get_or values j 0))

-- the branches of cluster r with a flag: their number, and the sum of a value over them
unfoldable pub flagged_count : ℕ → List ℕ → List ℕ → ℕ → List Bool → ℕ
flagged_count n lo host r flags = sum n (λ j. χ (hung lo host r j && get_or flags j false) 1)

unfoldable pub flagged_sum : ℕ → List ℕ → List ℕ → ℕ → List Bool → List ℕ → ℕ
flagged_sum n lo host r flags values = sum n (λ j. χ (hung lo host r j && get_or flags j false) (get_or values j 0))

-- the same for the branches without it
unfoldable pub clear_count : ℕ → List ℕ → List ℕ → ℕ → List Bool → ℕ
clear_count n lo host r flags = sum n (λ j. χ (hung lo host r j && not (get_or flags j false)) 1)

unfoldable pub clear_sum : ℕ → List ℕ → List ℕ → ℕ → List Bool → List ℕ → ℕ
clear_sum n lo host r flags values = sum n (λ j. χ (hung lo host r j && not (get_or flags j false)) (get_or values j 0))

-- branch j of cluster r is not cut yet and heavier than weight
abbrev pub heavier_than : List ℕ → List ℕ → List ℕ → List Bool → ℕ → ℕ → ℕ → Bool
heavier_than lo host lightest cut_any r weight j = hung lo host r j && (not (get_or cut_any j false) && ltb weight (get_or lightest j 0))

-- branch at of cluster r is not cut and weighs weight
pub record Uncut (n : ℕ) (lo host lightest : List ℕ) (cut_any : List Bool) (r at weight : ℕ) : Type 0 where
  pub inside : at < n
  pub hangs : hung lo host r at ≡ true
  pub kept : get_or cut_any at false ≡ false
  pub weighs : get_or lightest at 0 ≡ weight

-- of the branches of cluster r below n that are not cut, none is heavier than weight, and one weighs it unless it is 0
pub record Heaviest (n : ℕ) (lo host lightest : List ℕ) (cut_any : List Bool) (r at weight : ℕ) : Type 0 where
  pub most : (j : ℕ) → j < n → hung lo host r j ≡ true → get_or cut_any j false ≡ false → get_or lightest j 0 ≤ weight
  pub one : (weight ≡ 0) ⊎ Uncut n lo host lightest cut_any r at weight

-- the heaviest branch of cluster r that is not cut, if one weighs more than 0
abbrev pub HeaviestBranch : ℕ → List ℕ → List ℕ → List ℕ → List Bool → ℕ → Option ℕ → Type 0
HeaviestBranch n lo host lightest cut_any r None = Heaviest n lo host lightest cut_any r 0 0
HeaviestBranch n lo host lightest cut_any r (Some at) = Heaviest n lo host lightest cut_any r at (get_or lightest at 0)

-- the heaviest branches of cluster r are cut, cuts in number, and left is the weight that stays; with one cut fewer the limit is passed
pub record Cutting (n : ℕ) (lo host lightest : List ℕ) (before cut_any : List Bool) (r fixed limit cuts left : ℕ) : Type 0 where
  pub long : length cut_any ≡ length before
  pub cuts_is : cuts ≡ flagged_count n lo host r cut_any
  pub left_is : left ≡ fixed + clear_sum n lo host r cut_any lightest
  pub others : (j : ℕ) → hung lo host r j ≡ false → get_or cut_any j false ≡ get_or before j false
  pub θ : ℕ
  pub cut_heavy : (j : ℕ) → j < n → hung lo host r j ≡ true → get_or cut_any j false ≡ true → θ ≤ get_or lightest j 0
  pub kept_light : (j : ℕ) → j < n → hung lo host r j ≡ true → get_or cut_any j false ≡ false → get_or lightest j 0 ≤ θ
  pub no_fewer : 0 < cuts → limit < left + θ

-- the numbers of a cluster's closing are small
pub record Room (n : ℕ) (lo host count lightest : List ℕ) (has_ungated : List Bool) (ungated : List ℕ) (k : Cluster) : Type 0 where
  pub few : n ≤ most_nodes
  pub counts : branch_sum n lo host k.lowest count ≤ 2 * most_nodes
  pub weights : k.fixed + branch_sum n lo host k.lowest lightest < weight_bound
  pub ungated_weights : k.fixed + flagged_sum n lo host k.lowest has_ungated ungated < weight_bound

-- which options reach the fewest points, and the weight that each leaves: the any-option's is the other one's where that alone is there, the ungated one's is 0 where it is not there
abbrev pub any_ok : Options → Bool
any_ok (Any weight) = true
any_ok (Ungated weight) = false
any_ok (Either any ungated) = true

abbrev pub any_weight : Options → ℕ
any_weight (Any weight) = weight
any_weight (Ungated weight) = weight
any_weight (Either any ungated) = any

abbrev pub ungated_ok : Options → Bool
ungated_ok (Any weight) = false
ungated_ok (Ungated weight) = true
ungated_ok (Either any ungated) = true

abbrev pub ungated_weight : Options → ℕ
ungated_weight (Any weight) = 0
ungated_weight (Ungated weight) = weight
ungated_weight (Either any ungated) = ungated

-- the any-option alone reaches the fewest points; the ungated one alone; or both
abbrev pub only_any : ℕ → ℕ → Closing
only_any fewest weight = record { fewest = fewest; options = Any weight }

abbrev pub only_ungated : ℕ → ℕ → Closing
only_ungated fewest weight = record { fewest = fewest; options = Ungated weight }

abbrev pub both_options : ℕ → ℕ → ℕ → Closing
both_options fewest any_weight ungated_weight = record { fewest = fewest; options = Either any_weight ungated_weight }

-- the options compared: with below points below the branches, the any-option cuts cuts of them and leaves left, the ungated one cuts gated and leaves weight
pub data Compared (below cuts left gated weight gates : ℕ) (x : Closing) : Type 0 where
  any-alone : (0 < gates) ⊎ (cuts < gated) → x ≡ only_any (below + cuts) left → Compared below cuts left gated weight gates x
  ungated-alone : gates ≡ 0 → gated < cuts → x ≡ only_ungated (below + gated) weight → Compared below cuts left gated weight gates x
  equal : gates ≡ 0 → cuts ≡ gated → x ≡ both_options (below + cuts) left weight → Compared below cuts left gated weight gates x

-- what closing a cluster looks at
abbrev pub branches_of : ℕ → List ℕ → List ℕ → Cluster → Clusters
branches_of n lo host k =
    record {
      nodes = n;
      cuttable = λ i. ltb 0 (get_or lo i 0);
      lo = λ i. get_or lo i 0;
      hi = λ i. 0;
      free = λ i t. false;
      factor = λ i. 0;
      host = λ i. get_or host i 0;
      fixed = λ r. k.fixed;
      gates = λ r. k.gates;
    }

-- what closing a cluster finds, beside what is known of its branches
abbrev pub closing_of : List Bool → List ℕ → List ℕ → List Bool → List ℕ → Closing → Down
closing_of cut_any count lightest has_ungated ungated x =
    record {
      cut_any = λ j. get_or cut_any j false;
      fewest = λ r. x.fewest;
      any_ok = λ r. any_ok x.options;
      any_weight = λ r. any_weight x.options;
      ungated_ok = λ r. ungated_ok x.options;
      ungated_weight = λ r. ungated_weight x.options;
      count = λ j. get_or count j 0;
      lightest = λ j. get_or lightest j 0;
      has_ungated = λ j. get_or has_ungated j false;
      ungated = λ j. get_or ungated j 0;
      near = λ j. 0;
    }

-- what closing cluster k establishes: it is closed, and the branches of others keep their marks
pub record Closes
    (n : ℕ) (lo host count lightest : List ℕ) (has_ungated : List Bool) (ungated : List ℕ) (before cut_any : List Bool) (k : Cluster) (limit : ℕ) (x : Closing) : Type 0 where
  pub long : length cut_any ≡ length before
  pub others : (j : ℕ) → hung lo host k.lowest j ≡ false → get_or cut_any j false ≡ get_or before j false
  pub closed : Closed (branches_of n lo host k) limit (closing_of cut_any count lightest has_ungated ungated x) k.lowest
