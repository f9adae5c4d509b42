-- How the clusters stand to a net at a stage: what the first passes of repair establish.
-- Assumes nothing.
use Rattle.std.specs.Prelude.{ℕ, ◌+◌, ◌-◌, ◌*◌, ◌≤◌, ◌<◌, ◌≡◌, Bool, true, false, not, ◌&&◌, ◌||◌, leb, ltb, eqb}
use Rattle.laws.specs.Sum.{χ, sum, any}
use Rattle.net.specs.Stage.{Stage}
use Rattle.pieces.specs.Piece.{Points}
use Rattle.cuts.specs.Cluster.{Clusters, Effect}

-- position t of wire i may be cut, as a test
unfoldable pub free_at : Stage → ℕ → ℕ → Bool
free_at s i t = s.present i && (leb 1 t && (ltb t (s.len i) && not (s.barred i t)))

-- some node of the uncut component k is a source
unfoldable pub sourced : Stage → (ℕ → ℕ) → ℕ → Bool
sourced s component k = any s.nodes (λ i. eqb (component i) k && s.source i)

-- node i is a gate that a piece may harm: no node of its uncut component is a source
unfoldable pub live_gate : Stage → (ℕ → ℕ) → ℕ → Bool
live_gate s component i = s.gate i && not (sourced s component (component i))

-- what wire i gives to the fixed weight of cluster r
unfoldable pub fixed_part : Stage → Clusters → (ℕ → ℕ) → ℕ → ℕ → ℕ
fixed_part s c root r i =
    χ (s.present i && (not (c.cuttable i) && eqb (root i) r)) (s.len i * s.factor i)
    + (χ (c.cuttable i && eqb i r) (c.lo i * s.factor i) + χ (c.cuttable i && eqb (c.host i) r) ((s.len i - c.hi i) * s.factor i))

-- root i: the lowest node of i's cluster; component i: the lowest node of its uncut component
pub record Fits (s : Stage) (c : Clusters) (root component : ℕ → ℕ) : Type 0 where
  pub nodes_is : c.nodes ≡ s.nodes
  pub factor_is : (i : ℕ) → i < s.nodes → c.factor i ≡ s.factor i
  pub free_is : (i t : ℕ) → i < s.nodes → c.free i t ≡ free_at s i t
  pub lo_free : (i : ℕ) → i < s.nodes → c.cuttable i ≡ true → free_at s i (c.lo i) ≡ true
  pub hi_free : (i : ℕ) → i < s.nodes → c.cuttable i ≡ true → free_at s i (c.hi i) ≡ true
  pub lo_least : (i t : ℕ) → i < s.nodes → free_at s i t ≡ true → c.lo i ≤ t
  pub hi_most : (i t : ℕ) → i < s.nodes → free_at s i t ≡ true → t ≤ c.hi i
  pub cuttable_if : (i t : ℕ) → i < s.nodes → free_at s i t ≡ true → c.cuttable i ≡ true
  pub root_up : (i : ℕ) → i < s.nodes → s.present i ≡ true → c.cuttable i ≡ false → root i ≡ root (s.parent i)
  pub root_own : (i : ℕ) → i < s.nodes → (s.present i && not (c.cuttable i)) ≡ false → root i ≡ i
  pub host_is : (i : ℕ) → i < s.nodes → c.cuttable i ≡ true → c.host i ≡ root (s.parent i)
  pub component_up : (i : ℕ) → i < s.nodes → s.present i ≡ true → component i ≡ component (s.parent i)
  pub component_own : (i : ℕ) → i < s.nodes → s.present i ≡ false → component i ≡ i
  pub fixed_is : (r : ℕ) → r < s.nodes → c.fixed r ≡ sum s.nodes (λ i. fixed_part s c root r i)
  pub gates_is : (r : ℕ) → r < s.nodes → c.gates r ≡ sum s.nodes (λ i. χ (eqb (root i) r && live_gate s component i) 1)

-- the points of a set with at most two on a wire: its lowest and its highest
unfoldable pub points_of : Clusters → Effect → Points
points_of c e i t = ltb i c.nodes && (c.cuttable i && (e.cut i && (eqb t (e.first i) || eqb t (e.last i))))
