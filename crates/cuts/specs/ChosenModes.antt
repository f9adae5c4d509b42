-- The modes of the clusters in the pass up, and what a branch then adds to its host.
-- Assumes nothing.
use Rattle.std.specs.Prelude.{ℕ, ◌+◌, ◌-◌, ◌*◌, ◌≤◌, ◌<◌, ◌≡◌, refl, Bool, true, false, not, ◌&&◌, ◌||◌, cond, leb, eqb}
use Rattle.std.proofs.Common.{sym, ◌∙◌, ap, ⊎_elim, arith, lt_irrefl, lt-ltb, le-ltb, le-leb, leb-true, eqb-true}
use Rattle.std.proofs.lemmas.Bool.{eqb-false}
use Rattle.laws.specs.Sum.{χ}
use Rattle.laws.specs.Sums.{by, no_both, not_true_false, or_cases, or_no_left, or_no_right, or_left}
use Rattle.cuts.specs.Cluster.{Clusters, Sound, span}
use Rattle.cuts.specs.Passes.{Down, Up, Closed, Climbed, Run, any_left, any_cuts, ungated_left, ungated_cuts, below_count, stops, only-any, both, only-ungated, without-gate, within_limit, with-jumper}

-- what a closed cluster's options leave
module _ (c : Clusters) (limit : ℕ) (d : Down) (r : ℕ) where
  pub closed-any :
      Closed c limit d r →
      d.any_ok r ≡ true →
      (d.any_weight r ≡ any_left c d r) × (any_left c d r ≤ limit) × (d.fewest r ≡ below_count c d r + any_cuts c d r)
  closed-any (only-any θ l g f a u w) h = (w, l.fits, f)
  closed-any (both θ l g e f a u w v) h = (w, l.fits, f)
  closed-any (only-ungated g o f a u v w) h = absurd (no_both h a)

  pub closed-ungated :
      Closed c limit d r →
      d.ungated_ok r ≡ true →
      (c.gates r ≡ 0) × (d.ungated_weight r ≡ ungated_left c d r) × (d.fewest r ≡ below_count c d r + ungated_cuts c d r)
  closed-ungated (only-any θ l g f a u w) h = absurd (no_both h u)
  closed-ungated (both θ l g e f a u w v) h = (g, v, omega arith)
  closed-ungated (only-ungated g o f a u v w) h = (g, v, f)

  pub closed_not_any : Closed c limit d r → d.any_ok r ≡ false → (d.ungated_ok r ≡ true) × (d.any_weight r ≡ d.ungated_weight r)
  closed_not_any (only-any θ l g f a u w) h = absurd (no_both a h)
  closed_not_any (both θ l g e f a u w v) h = absurd (no_both a h)
  closed_not_any (only-ungated g o f a u v w) h = (u, w)

  pub closed_not_ungated : Closed c limit d r → d.ungated_ok r ≡ false → d.any_ok r ≡ true
  closed_not_ungated (only-any θ l g f a u w) h = a
  closed_not_ungated (both θ l g e f a u w v) h = absurd (no_both u h)
  closed_not_ungated (only-ungated g o f a u v w) h = absurd (no_both u h)

-- the jumper of a branch's own
module _ (c : Clusters) (limit : ℕ) (d : Down) (s : Sound c) (j : ℕ) (lt : j < c.nodes) (cj : c.cuttable j ≡ true) where
  pub no-jumper : d.near j ≡ 0 → stops d j ≡ false
  no-jumper e = le-ltb 0 (d.near j) (omega arith)

  pub jumper : c.free j (d.near j) ≡ true → stops d j ≡ true
  jumper f = lt-ltb 0 (d.near j) (omega (arith, s.positive j lt cj, s.lo_least j (d.near j) lt cj f))

  pub near-free : Climbed c limit d j → stops d j ≡ true → c.free j (d.near j) ≡ true
  near-free (without-gate g k e h u l) q = absurd (no_both q (no-jumper e))
  near-free (within_limit g w k e h l) q = absurd (no_both q (no-jumper e))
  near-free (with-jumper g w k f b t h u l) q = f

  -- the jumper of its own lies below the highest point
  pub near-below : Climbed c limit d j → stops d j ≡ true → d.near j < c.hi j
  near-below (without-gate g k e h u l) q = absurd (no_both q (no-jumper e))
  near-below (within_limit g w k e h l) q = absurd (no_both q (no-jumper e))
  near-below (with-jumper g w k f b t h u l) q =
      by (eqb (d.near j) (c.hi j))
      (λ e.
      let b' = ap (λ x. c.factor j * (x - c.lo j)) (eqb-true (d.near j) (c.hi j) e) in
      absurd (lt_irrefl limit (omega arith)))
      (λ e. let ne = eqb-false (d.near j) (c.hi j) e in omega (arith, s.hi_most j (d.near j) lt cj f))

  pub near-light : Climbed c limit d j → stops d j ≡ true → d.any_weight j + c.factor j * (d.near j - c.lo j) ≤ limit
  near-light (without-gate g k e h u l) q = absurd (no_both q (no-jumper e))
  near-light (within_limit g w k e h l) q = absurd (no_both q (no-jumper e))
  near-light (with-jumper g w k f b t h u l) q = b

  pub count_is : Climbed c limit d j → d.count j ≡ d.fewest j + χ (stops d j) 1
  count_is (without-gate g k e h u l) = rw (no-jumper e) (omega arith)
  count_is (within_limit g w k e h l) = rw (no-jumper e) (omega arith)
  count_is (with-jumper g w k f b t h u l) = rw (jumper f) k

-- a mode that holds, and one that does not
mode_holds : (q h a l : Bool) {m : Bool} → m ≡ (q || (h && (a && l))) → q ≡ false → m ≡ true → (h ≡ true) × (a ≡ true) × (l ≡ true)
mode_holds true h a l e p t = absurd (no_both refl p)
mode_holds false true true l e p t = (refl, refl, sym e ∙ t)
mode_holds false true false l e p t = absurd (no_both t e)
mode_holds false false a l e p t = absurd (no_both t e)

mode_fails : (q h a l : Bool) {m : Bool} → m ≡ (q || (h && (a && l))) → m ≡ false → (q ≡ false) × (a ≡ true → l ≡ true → h ≡ false)
mode_fails true h a l e p = absurd (no_both e p)
mode_fails false true true true e p = absurd (no_both e p)
mode_fails false true true false e p = (refl, λ x y. absurd (no_both y refl))
mode_fails false true false l e p = (refl, λ x y. absurd (no_both x refl))
mode_fails false false a l e p = (refl, λ x y. refl)

-- the weight of a cluster's part of a piece, by its mode
abbrev pub mode_weight : Down → Up → ℕ → ℕ
mode_weight d u r = cond (u.any_mode r) (d.any_weight r) (d.ungated_weight r)

-- what branch j adds to its host where it is not cut at its highest point
abbrev pub mode_adds : Clusters → Down → Up → ℕ → ℕ
mode_adds c d u j = cond (stops d j) (c.factor j * (c.hi j - d.near j)) (mode_weight d u j + span c j)

module _ (c : Clusters) (limit : ℕ) (d : Down) (u : Up) (s : Sound c) (run : Run c limit d u) where
  closed : (r : ℕ) → r < c.nodes → Closed c limit d r
  closed r lt = run.counted.closed r (omega arith) lt

  climbed : (j : ℕ) → j < c.nodes → c.cuttable j ≡ true → Climbed c limit d j
  climbed j lt cj = run.counted.climbed j (omega arith) lt cj

  module _ (j : ℕ) (lt : j < c.nodes) (cj : c.cuttable j ≡ true) where
    high_is : u.cut_high j ≡ cond (u.any_mode (c.host j)) (d.cut_any j) (not (d.has_ungated j))
    high_is = (run.chosen j lt).branch_high cj

    -- the highest point is cut by the host's mode
    pub high-any : u.any_mode (c.host j) ≡ true → u.cut_high j ≡ d.cut_any j
    high-any m = rw m at high_is

    pub high-ungated : u.any_mode (c.host j) ≡ false → u.cut_high j ≡ not (d.has_ungated j)
    high-ungated m = rw m at high_is

    mode_yes :
        stops d j ≡ false →
        u.any_mode j ≡ true →
        ((u.any_mode (c.host j) || u.cut_high j) ≡ true) × (d.any_ok j ≡ true) × (leb (d.any_weight j + span c j) limit ≡ true)
    mode_yes =
        mode_holds (stops d j) (u.any_mode (c.host j) || u.cut_high j) (d.any_ok j) (leb (d.any_weight j + span c j) limit)
        ((run.chosen j lt).branch_mode cj)

    mode_no :
        u.any_mode j ≡ false →
        (stops d j ≡ false) × (d.any_ok j ≡ true → leb (d.any_weight j + span c j) limit ≡ true → (u.any_mode (c.host j) || u.cut_high j) ≡ false)
    mode_no =
        mode_fails (stops d j) (u.any_mode (c.host j) || u.cut_high j) (d.any_ok j) (leb (d.any_weight j + span c j) limit)
        ((run.chosen j lt).branch_mode cj)

    -- a branch in mode any without a jumper of its own is light enough with the whole of its wire
    pub light-whole : stops d j ≡ false → u.any_mode j ≡ true → d.any_weight j + span c j ≤ limit
    light-whole q m = leb-true (d.any_weight j + span c j) limit (mode_yes q m).2

  -- a cluster in mode any has an any-option
  pub any_ok_lem : (r : ℕ) → r < c.nodes → u.any_mode r ≡ true → d.any_ok r ≡ true
  any_ok_lem r lt m =
      by (c.cuttable r) (λ cr. branch cr (climbed r lt cr)) (λ nc. sym ((run.chosen r lt).root_mode nc) ∙ m)
    where
      branch : c.cuttable r ≡ true → Climbed c limit d r → d.any_ok r ≡ true
      branch cr (without-gate g k e h w l) = (mode_yes r lt cr (no-jumper c limit d s r lt cr e) m).1
      branch cr (within_limit g w k e h l) = (mode_yes r lt cr (no-jumper c limit d s r lt cr e) m).1
      branch cr (with-jumper g w k f b t h v l) = closed_not_ungated c limit d r (closed r lt) g

  -- a cluster in the other mode has an ungated option
  pub ungated_ok_lem : (r : ℕ) → r < c.nodes → u.any_mode r ≡ false → d.ungated_ok r ≡ true
  ungated_ok_lem r lt m =
      by (c.cuttable r)
      (λ cr. branch cr (climbed r lt cr))
      (λ nc. (closed_not_any c limit d r (closed r lt) (sym ((run.chosen r lt).root_mode nc) ∙ m)).0)
    where
      branch : c.cuttable r ≡ true → Climbed c limit d r → d.ungated_ok r ≡ true
      branch cr (without-gate g k e h v l) = g
      branch cr (within_limit g w k e h l) =
          let a = closed_not_ungated c limit d r (closed r lt) g in
          let b = le-leb (d.any_weight r + span c r) limit w in
          let n = (mode_no r lt cr m).1 a b in
          let host = or_no_left (u.any_mode (c.host r)) (u.cut_high r) n in
          let high = or_no_right (u.any_mode (c.host r)) (u.cut_high r) n in
          absurd (no_both (high-ungated r lt cr host ∙ ap not h) high)
      branch cr (with-jumper g w k f b t h v l) = absurd (no_both (jumper c limit d s r lt cr f) (mode_no r lt cr m).0)

  module _ (j : ℕ) (lt : j < c.nodes) (cj : c.cuttable j ≡ true) where
    -- a branch that is not cut takes its host's ungated mode
    pub mode_below : u.any_mode (c.host j) ≡ false → (stops d j || u.cut_high j) ≡ false → u.any_mode j ≡ false
    mode_below m n =
        not_true_false (u.any_mode j)
        (λ y.
        let a = (mode_yes j lt cj (or_no_left (stops d j) (u.cut_high j) n) y).0 in
        ⊎_elim (λ h. no_both h m) (λ h. no_both h (or_no_right (stops d j) (u.cut_high j) n)) (or_cases (u.any_mode (c.host j)) (u.cut_high j) a))

    -- what a branch adds to a host in mode any
    pub adds-any : u.any_mode (c.host j) ≡ true → mode_adds c d u j ≡ d.lightest j
    adds-any m = go (climbed j lt cj)
      where
        go : Climbed c limit d j → mode_adds c d u j ≡ d.lightest j
        go (without-gate g k e h v l) =
            let q = no-jumper c limit d s j lt cj e in
            by (u.any_mode j)
            (λ y. rw (q, y) (sym (rw (mode_yes j lt cj q y).2 at l)))
            (λ n.
            by (leb (d.any_weight j + span c j) limit)
            (λ b.
            let l' : d.lightest j ≡ d.any_weight j + span c j = rw b at l in
            by (d.any_ok j)
            (λ o. absurd (no_both (or_left (u.cut_high j) m) ((mode_no j lt cj n).1 o b)))
            (λ o. let w = (closed_not_any c limit d j (closed j lt) o).1 in rw (q, n) (omega arith)))
            (λ b. let l' : d.lightest j ≡ d.ungated j = rw b at l in rw (q, n) (omega arith)))
        go (within_limit g w k e h l) =
            let q = no-jumper c limit d s j lt cj e in
            by (u.any_mode j)
            (λ y. rw (q, y) (sym l))
            (λ n.
            let a = closed_not_ungated c limit d j (closed j lt) g in
            absurd (no_both (or_left (u.cut_high j) m) ((mode_no j lt cj n).1 a (le-leb (d.any_weight j + span c j) limit w))))
        go (with-jumper g w k f b t h v l) = rw (jumper c limit d s j lt cj f) (sym v ∙ sym l)

    -- and to a host in the other mode, where it has an ungated option
    pub adds-ungated : u.any_mode (c.host j) ≡ false → d.has_ungated j ≡ true → mode_adds c d u j ≡ d.ungated j
    adds-ungated m y = go (climbed j lt cj)
      where
        go : Climbed c limit d j → mode_adds c d u j ≡ d.ungated j
        go (without-gate g k e h v l) =
            let q = no-jumper c limit d s j lt cj e in
            let n : (stops d j || u.cut_high j) ≡ false = rw q (high-ungated j lt cj m ∙ ap not h) in
            rw (q, mode_below m n) (sym v)
        go (within_limit g w k e h l) = absurd (no_both y h)
        go (with-jumper g w k f b t h v l) = rw (jumper c limit d s j lt cj f) (sym v)
