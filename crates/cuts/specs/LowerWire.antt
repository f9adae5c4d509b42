-- Going up a wire: if a good set's points below cluster j do no better than its closing, then those on and below its wire do no better than what the pass down says of branch j.
-- Assumes nothing.
use Rattle.std.specs.Prelude.{ℕ, ◌+◌, ◌-◌, ◌*◌, ◌≤◌, ◌<◌, ◌≡◌, Bool, true, false, not, cond, ltb}
use Rattle.std.proofs.Common.{ap, arith, lt_irrefl, mul-le-mul_left, ltb-true, ltb-false, le-leb}
use Rattle.laws.specs.Sum.{χ}
use Rattle.laws.specs.Sums.{by, no_both, χ-yes, χ-no}
use Rattle.cuts.specs.Cluster.{Clusters, Sound, Effect, Parts, Good, span}
use Rattle.cuts.specs.Passes.{Down, Climbed, without-gate, within_limit, with-jumper}
use Rattle.cuts.specs.LowerParts.{whole-light}

-- the gates of what branch j adds to its host
abbrev pub added_gates : Effect → Parts → ℕ → ℕ
added_gates e p j = χ (not (e.cut j)) (p.gates j)

-- with n points below it, cluster r has no fewer than the fewest, and no less weight if they are as few
pub record ClosesNoBetter (d : Down) (p : Parts) (n r : ℕ) : Type 0 where
  pub fewest_least : d.fewest r ≤ n
  pub any_least : n ≤ d.fewest r → 0 < p.gates r → d.any_weight r ≤ p.weight r
  pub ungated_least : n ≤ d.fewest r → p.gates r ≡ 0 → (d.ungated_ok r ≡ true) × (d.ungated_weight r ≤ p.weight r)

-- with n points on and below its wire, branch j has more than the fewest, or as few and adds no less weight
pub data ClimbsNoBetter (d : Down) (e : Effect) (p : Parts) (n j : ℕ) : Type 0 where
  more : d.count j < n → ClimbsNoBetter d e p n j
  as_few :
      d.count j ≤ n →
      (0 < added_gates e p j → d.lightest j ≤ p.adds j) →
      (added_gates e p j ≡ 0 → (d.has_ungated j ≡ true) × (d.ungated j ≤ p.adds j)) →
      ClimbsNoBetter d e p n j

-- a jumper at or above the lowest point leaves no more than the whole span
near-span : (f lo near hi : ℕ) → lo ≤ near → f * (hi - near) ≤ f * (hi - lo)
near-span f lo near hi le = mul-le-mul_left {m = hi - near} {n = hi - lo} f (omega arith)

cond_true : {t : Bool} (a b : ℕ) → t ≡ true → cond t a b ≡ a
cond_true a b e = rw e

module _ (c : Clusters) (limit : ℕ) (d : Down) (e : Effect) (p : Parts) (s : Sound c) (g : Good c limit e p) where
  -- a wire that is not cut
  climb-whole :
      (j n : ℕ) →
      j < c.nodes →
      c.cuttable j ≡ true →
      e.cut j ≡ false →
      ClosesNoBetter d p n j →
      Climbed c limit d j →
      (m : ℕ) →
      n ≤ m →
      ClimbsNoBetter d e p m j
  climb-whole j n lt cuttable whole k (without-gate ok count near has ungated lightest) m le =
      let x = g.adds_whole j lt cuttable whole in
      let z = χ-yes (p.gates j) (ap not whole) in
      by (ltb (d.count j) m)
      (λ t. more (ltb-true (d.count j) m t))
      (λ f.
      let few = ltb-false (d.count j) m f in
      let fewest = k.fewest_least in
      as_few
      (omega arith)
      (λ gated.
      let a = k.any_least (omega arith) (omega arith) in
      let b = whole-light c limit e p s g j lt cuttable whole (omega arith) in
      let t = cond_true (d.any_weight j + span c j) (d.ungated j) (le-leb (d.any_weight j + span c j) limit (omega arith)) in
      omega arith)
      (λ none. let a = k.ungated_least (omega arith) (omega arith) in (has, omega (arith, a.1))))
  climb-whole j n lt cuttable whole k (within_limit ok fits count near has lightest) m le =
      let x = g.adds_whole j lt cuttable whole in
      let z = χ-yes (p.gates j) (ap not whole) in
      by (ltb (d.count j) m)
      (λ t. more (ltb-true (d.count j) m t))
      (λ f.
      let few = ltb-false (d.count j) m f in
      let fewest = k.fewest_least in
      as_few
      (omega arith)
      (λ gated. let a = k.any_least (omega arith) (omega arith) in omega arith)
      (λ none. let a = k.ungated_least (omega arith) (omega arith) in absurd (no_both a.0 ok)))
  climb-whole j n lt cuttable whole k (with-jumper ok over count free fits most has ungated lightest) m le =
      let x = g.adds_whole j lt cuttable whole in
      let z = χ-yes (p.gates j) (ap not whole) in
      let above = near-span (c.factor j) (c.lo j) (d.near j) (c.hi j) (s.lo_least j (d.near j) lt cuttable free) in
      let above' : d.ungated j ≤ p.adds j = omega arith in
      let fewest = k.fewest_least in
      let strict : d.fewest j < n =
      by (ltb (d.fewest j) n)
      (λ t. ltb-true (d.fewest j) n t)
      (λ f.
      let few = ltb-false (d.fewest j) n f in
      by (ltb 0 (p.gates j))
      (λ t.
      let gated = ltb-true 0 (p.gates j) t in
      let a = k.any_least few gated in
      let b = whole-light c limit e p s g j lt cuttable whole gated in
      absurd (lt_irrefl 0 (omega arith)))
      (λ f'.
      let none = ltb-false 0 (p.gates j) f' in
      let a = k.ungated_least few (omega arith) in
      absurd (no_both a.0 ok))) in
      as_few (omega arith) (λ gated. omega arith) (λ none. (has, above'))

  -- a wire with a cut
  climb-cut :
      (j n : ℕ) →
      j < c.nodes →
      c.cuttable j ≡ true →
      e.cut j ≡ true →
      ClosesNoBetter d p n j →
      Climbed c limit d j →
      (m : ℕ) →
      e.points j + n ≤ m →
      ClimbsNoBetter d e p m j
  climb-cut j n lt cuttable cut k (without-gate ok count near has ungated lightest) m le =
      let fewest = k.fewest_least in let one = g.some j lt cuttable cut in more (omega arith)
  climb-cut j n lt cuttable cut k (within_limit ok fits count near has lightest) m le =
      let fewest = k.fewest_least in let one = g.some j lt cuttable cut in more (omega arith)
  climb-cut j n lt cuttable cut k (with-jumper ok over count free fits most has ungated lightest) m le =
      let fewest = k.fewest_least in
      let one = g.some j lt cuttable cut in
      let z = χ-no (p.gates j) (ap not cut) in
      let x = g.adds_cut j lt cuttable cut in
      by (ltb (d.count j) m)
      (λ t. more (ltb-true (d.count j) m t))
      (λ f.
      let few = ltb-false (d.count j) m f in
      let single = g.alone j lt cuttable cut (omega arith) in
      let least : e.last j ≤ d.near j =
      by (ltb 0 (p.gates j))
      (λ t.
      let gated = ltb-true 0 (p.gates j) t in
      let a = k.any_least (omega arith) gated in
      let b = g.cut_light j lt cuttable cut gated in
      let l = most (e.first j) (g.first_free j lt cuttable cut) (omega arith) in
      omega arith)
      (λ f'.
      let none = ltb-false 0 (p.gates j) f' in
      let a = k.ungated_least (omega arith) (omega arith) in
      absurd (no_both a.0 ok)) in
      let y = near-span (c.factor j) (e.last j) (d.near j) (c.hi j) least in
      as_few (omega arith) (λ gated. omega arith) (λ none. (has, omega arith)))

  pub climb :
      (j n : ℕ) →
      j < c.nodes →
      c.cuttable j ≡ true →
      ClosesNoBetter d p n j →
      Climbed c limit d j →
      (m : ℕ) →
      e.points j + n ≤ m →
      ClimbsNoBetter d e p m j
  climb j n lt cuttable k w m le =
      by (e.cut j)
      (λ cut. climb-cut j n lt cuttable cut k w m le)
      (λ whole. climb-whole j n lt cuttable whole k w m (omega arith))
