-- Clusters: nodes that no cut can part, and the branches that hang on them by a cuttable wire. What a set of cuts does to them, and when it is good.
-- A branch is a node j whose wire is cuttable; it hangs on cluster host j. Assumes nothing.
use Rattle.std.specs.Prelude.{ℕ, ◌+◌, ◌-◌, ◌*◌, ◌≤◌, ◌<◌, ◌≡◌, Bool, true, false, not, ◌&&◌, eqb}
use Rattle.laws.specs.Sum.{χ, sum}

pub record Clusters : Type 0 where
  pub nodes : ℕ
  -- wire j has a point that may be cut; its lowest and highest such point
  pub cuttable : ℕ → Bool
  pub lo : ℕ → ℕ
  pub hi : ℕ → ℕ
  -- position t of wire j may be cut
  pub free : ℕ → ℕ → Bool
  pub factor : ℕ → ℕ
  -- the cluster, named by its lowest node, that branch j hangs on
  pub host : ℕ → ℕ
  -- the weight that no cut takes away from cluster r, and the number of its gates
  pub fixed : ℕ → ℕ
  pub gates : ℕ → ℕ

pub record Sound (c : Clusters) : Type 0 where
  pub host_below : (j : ℕ) → j < c.nodes → c.cuttable j ≡ true → c.host j < j
  pub positive : (j : ℕ) → j < c.nodes → c.cuttable j ≡ true → 1 ≤ c.lo j
  pub lo_free : (j : ℕ) → j < c.nodes → c.cuttable j ≡ true → c.free j (c.lo j) ≡ true
  pub hi_free : (j : ℕ) → j < c.nodes → c.cuttable j ≡ true → c.free j (c.hi j) ≡ true
  pub lo_least : (j t : ℕ) → j < c.nodes → c.cuttable j ≡ true → c.free j t ≡ true → c.lo j ≤ t
  pub hi_most : (j t : ℕ) → j < c.nodes → c.cuttable j ≡ true → c.free j t ≡ true → t ≤ c.hi j

-- branch j hangs on cluster r
abbrev pub hangs : Clusters → ℕ → ℕ → Bool
hangs c r j = c.cuttable j && eqb (c.host j) r

-- the weight of a branch's wire between its lowest and its highest cuttable point
abbrev pub span : Clusters → ℕ → ℕ
span c j = c.factor j * (c.hi j - c.lo j)

-- what a set does to each branch's wire: whether it cuts it, its lowest and highest point there, and how many it has there
pub record Effect : Type 0 where
  pub cut : ℕ → Bool
  pub first : ℕ → ℕ
  pub last : ℕ → ℕ
  pub points : ℕ → ℕ

-- what branch j adds to its host's piece; the weight and the gates of the part of a piece at cluster r
pub record Parts : Type 0 where
  pub adds : ℕ → ℕ
  pub weight : ℕ → ℕ
  pub gates : ℕ → ℕ

-- a set of points that may be cut after which every piece with a gate weighs at most the limit
pub record Good (c : Clusters) (limit : ℕ) (e : Effect) (p : Parts) : Type 0 where
  pub first_free : (j : ℕ) → j < c.nodes → c.cuttable j ≡ true → e.cut j ≡ true → c.free j (e.first j) ≡ true
  pub last_free : (j : ℕ) → j < c.nodes → c.cuttable j ≡ true → e.cut j ≡ true → c.free j (e.last j) ≡ true
  pub in_order : (j : ℕ) → j < c.nodes → c.cuttable j ≡ true → e.cut j ≡ true → e.first j ≤ e.last j
  pub some : (j : ℕ) → j < c.nodes → c.cuttable j ≡ true → e.cut j ≡ true → 1 ≤ e.points j
  pub alone : (j : ℕ) → j < c.nodes → c.cuttable j ≡ true → e.cut j ≡ true → e.points j ≡ 1 → e.first j ≡ e.last j
  pub adds_cut : (j : ℕ) → j < c.nodes → c.cuttable j ≡ true → e.cut j ≡ true → p.adds j ≡ c.factor j * (c.hi j - e.last j)
  pub adds_whole : (j : ℕ) → j < c.nodes → c.cuttable j ≡ true → e.cut j ≡ false → p.adds j ≡ p.weight j + span c j
  pub weight_is : (r : ℕ) → r < c.nodes → p.weight r ≡ c.fixed r + sum c.nodes (λ j. χ (hangs c r j) (p.adds j))
  pub gates_is : (r : ℕ) → r < c.nodes → p.gates r ≡ c.gates r + sum c.nodes (λ j. χ (hangs c r j && not (e.cut j)) (p.gates j))
  pub root_light : (r : ℕ) → r < c.nodes → c.cuttable r ≡ false → 0 < p.gates r → p.weight r ≤ limit
  pub cut_light : (j : ℕ) → j < c.nodes → c.cuttable j ≡ true → e.cut j ≡ true → 0 < p.gates j → p.weight j + c.factor j * (e.first j - c.lo j) ≤ limit

-- the number of points of a set
unfoldable pub point_count : Clusters → Effect → ℕ
point_count c e = sum c.nodes (λ j. χ (c.cuttable j) (e.points j))
