-- In a good set every part of a piece with a gate weighs at most the limit, since what hangs below a part is no heavier than the part. So a cluster that has a gate and a
-- fixed weight above the limit leaves no good set.
-- Assumes nothing.
use Rattle.std.specs.Prelude.{ℕ, ◌+◌, ◌≤◌, ◌<◌, ◌≡◌, refl, true, false, not, ◌&&◌}
use Rattle.std.proofs.Common.{ap, arith, lt_irrefl, eq-eqb}
use Rattle.laws.specs.Sum.{χ}
use Rattle.laws.specs.Sums.{by, and_intro, χ-yes, term-≤, up}
use Rattle.cuts.specs.Cluster.{Clusters, Sound, Effect, Parts, Good, hangs, span}

-- a branch hangs on its host
hangs-host : (c : Clusters) (j : ℕ) → c.cuttable j ≡ true → hangs c (c.host j) j ≡ true
hangs-host c j cuttable = and_intro cuttable (eq-eqb (c.host j) (c.host j) refl)

-- what a branch adds is part of its host's weight
adds-≤-weight :
    (c : Clusters) (limit : ℕ) (e : Effect) (p : Parts) →
    Good c limit e p →
    (j : ℕ) →
    j < c.nodes →
    c.host j < c.nodes →
    c.cuttable j ≡ true →
    p.adds j ≤ p.weight (c.host j)
adds-≤-weight c limit e p g j lt lt' cuttable =
    let r = c.host j in
    omega
    (arith, g.weight_is r lt', term-≤ c.nodes j (λ i. χ (hangs c r i) (p.adds i)) lt, χ-yes (p.adds j) (hangs-host c j cuttable))

-- the gates of a branch that is not cut are among its host's
gates-≤-gates :
    (c : Clusters) (limit : ℕ) (e : Effect) (p : Parts) →
    Good c limit e p →
    (j : ℕ) →
    j < c.nodes →
    c.host j < c.nodes →
    c.cuttable j ≡ true →
    e.cut j ≡ false →
    p.gates j ≤ p.gates (c.host j)
gates-≤-gates c limit e p g j lt lt' cuttable whole =
    let r = c.host j in
    omega
    (arith, g.gates_is r lt', term-≤ c.nodes j (λ i. χ (hangs c r i && not (e.cut i)) (p.gates i)) lt, χ-yes (p.gates j) (and_intro (hangs-host c j cuttable) (ap not whole)))

pub part-light :
    (c : Clusters) (limit : ℕ) (e : Effect) (p : Parts) →
    Sound c →
    Good c limit e p →
    (r : ℕ) →
    r < c.nodes →
    0 < p.gates r →
    p.weight r ≤ limit
part-light c limit e p s g =
    up c.nodes (λ r. 0 < p.gates r → p.weight r ≤ limit)
    (λ r lt below gated.
    by (c.cuttable r)
    (λ cuttable.
    by (e.cut r)
    (λ cut. let a = g.cut_light r lt cuttable cut gated in omega arith)
    (λ whole.
    let under = s.host_below r lt cuttable in
    let a = gates-≤-gates c limit e p g r lt (omega arith) cuttable whole in
    let b = adds-≤-weight c limit e p g r lt (omega arith) cuttable in
    let a' = below (c.host r) under (omega arith) in
    let x = g.adds_whole r lt cuttable whole in
    omega arith))
    (λ root. g.root_light r lt root gated))

-- with the whole of its wire, too, where the wire is not cut
pub whole-light :
    (c : Clusters) (limit : ℕ) (e : Effect) (p : Parts) →
    Sound c →
    Good c limit e p →
    (j : ℕ) →
    j < c.nodes →
    c.cuttable j ≡ true →
    e.cut j ≡ false →
    0 < p.gates j →
    p.weight j + span c j ≤ limit
whole-light c limit e p s g j lt cuttable whole gated =
    let under = s.host_below j lt cuttable in
    let a = gates-≤-gates c limit e p g j lt (omega arith) cuttable whole in
    let b = adds-≤-weight c limit e p g j lt (omega arith) cuttable in
    let h = part-light c limit e p s g (c.host j) (omega arith) (omega arith) in
    let x = g.adds_whole j lt cuttable whole in
    omega arith

-- a cluster with a gate whose fixed weight is above the limit leaves no good set
pub hopeless :
    (c : Clusters) (limit : ℕ) (e : Effect) (p : Parts) →
    Sound c →
    Good c limit e p →
    (r : ℕ) →
    r < c.nodes →
    0 < c.gates r →
    limit < c.fixed r →
    ⊥
hopeless c limit e p s g r lt gated over =
    lt_irrefl 0
    (omega (arith, g.weight_is r lt, g.gates_is r lt, part-light c limit e p s g r lt (omega (arith, g.gates_is r lt))))
