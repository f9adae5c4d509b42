-- What is closed or climbed stays so where nothing that it looks at changes.
-- Assumes nothing.
use Rattle.std.specs.Prelude.{ℕ, ◌<◌, ◌≡◌, refl, Bool, true, false, not, ◌&&◌}
use Rattle.std.proofs.Common.{sym, ◌∙◌, ap, arith}
use Rattle.std.proofs.Math.Logic.{⊎_map}
use Rattle.laws.specs.Sum.{χ, sum}
use Rattle.laws.specs.Sums.{sum_ap}
use Rattle.cuts.specs.Cluster.{Clusters, hangs, span}
use Rattle.cuts.specs.Passes.{Down, Largest, Closed, only-any, both, only-ungated, Climbed, without-gate, within_limit, with-jumper, below_count, any_cuts, any_left, ungated_cuts, ungated_left}

-- what closing cluster r looks at is the same
pub record SameCluster (c c' : Clusters) (d d' : Down) (r : ℕ) : Type 0 where
  pub nodes : c'.nodes ≡ c.nodes
  pub hang : (j : ℕ) → j < c.nodes → hangs c' r j ≡ hangs c r j
  pub fixed : c'.fixed r ≡ c.fixed r
  pub gates : c'.gates r ≡ c.gates r
  pub cut_any : (j : ℕ) → j < c.nodes → hangs c r j ≡ true → d'.cut_any j ≡ d.cut_any j
  pub count : (j : ℕ) → j < c.nodes → hangs c r j ≡ true → d'.count j ≡ d.count j
  pub lightest : (j : ℕ) → j < c.nodes → hangs c r j ≡ true → d'.lightest j ≡ d.lightest j
  pub has_ungated : (j : ℕ) → j < c.nodes → hangs c r j ≡ true → d'.has_ungated j ≡ d.has_ungated j
  pub ungated : (j : ℕ) → j < c.nodes → hangs c r j ≡ true → d'.ungated j ≡ d.ungated j
  pub fewest : d'.fewest r ≡ d.fewest r
  pub any_ok : d'.any_ok r ≡ d.any_ok r
  pub any_weight : d'.any_weight r ≡ d.any_weight r
  pub ungated_ok : d'.ungated_ok r ≡ d.ungated_ok r
  pub ungated_weight : d'.ungated_weight r ≡ d.ungated_weight r

-- what climbing branch j's wire looks at is the same
pub record SameBranch (c c' : Clusters) (d d' : Down) (j : ℕ) : Type 0 where
  pub free : (t : ℕ) → c'.free j t ≡ c.free j t
  pub factor : c'.factor j ≡ c.factor j
  pub lo : c'.lo j ≡ c.lo j
  pub hi : c'.hi j ≡ c.hi j
  pub fewest : d'.fewest j ≡ d.fewest j
  pub any_weight : d'.any_weight j ≡ d.any_weight j
  pub ungated_ok : d'.ungated_ok j ≡ d.ungated_ok j
  pub ungated_weight : d'.ungated_weight j ≡ d.ungated_weight j
  pub count : d'.count j ≡ d.count j
  pub lightest : d'.lightest j ≡ d.lightest j
  pub has_ungated : d'.has_ungated j ≡ d.has_ungated j
  pub ungated : d'.ungated j ≡ d.ungated j
  pub near : d'.near j ≡ d.near j

χ-same : (h p p' : Bool) (x x' : ℕ) → (h ≡ true → p' ≡ p) → (h ≡ true → x' ≡ x) → χ (h && p') x' ≡ χ (h && p) x
χ-same true p p' x x' f g = rw (f refl, g refl)
χ-same false p p' x x' f g = refl

χ-one : (h : Bool) (x x' : ℕ) → (h ≡ true → x' ≡ x) → χ h x' ≡ χ h x
χ-one true x x' g = g refl
χ-one false x x' g = refl

module _ {c c' : Clusters} {d d' : Down} {r : ℕ} (s : SameCluster c c' d d' r) where
  sum_same : (f f' : ℕ → ℕ) → ((j : ℕ) → j < c.nodes → f' j ≡ f j) → sum c'.nodes f' ≡ sum c.nodes f
  sum_same f f' h = ap (λ (n : ℕ). sum n f') s.nodes ∙ sum_ap c.nodes {f = f'} {g = f} h

  below-same : below_count c' d' r ≡ below_count c d r
  below-same =
      sum_same (λ j. χ (hangs c r j) (d.count j)) (λ j. χ (hangs c' r j) (d'.count j))
      (λ j p. rw (s.hang j p) (χ-one (hangs c r j) (d.count j) (d'.count j) (s.count j p)))

  any_cuts_same : any_cuts c' d' r ≡ any_cuts c d r
  any_cuts_same =
      sum_same (λ j. χ (hangs c r j && d.cut_any j) 1) (λ j. χ (hangs c' r j && d'.cut_any j) 1)
      (λ j p. rw (s.hang j p) (χ-same (hangs c r j) (d.cut_any j) (d'.cut_any j) 1 1 (s.cut_any j p) (λ h. refl)))

  any_left_same : any_left c' d' r ≡ any_left c d r
  any_left_same =
      let a =
      sum_same (λ j. χ (hangs c r j && not (d.cut_any j)) (d.lightest j)) (λ j. χ (hangs c' r j && not (d'.cut_any j)) (d'.lightest j))
      (λ j p.
      rw (s.hang j p)
      (χ-same (hangs c r j) (not (d.cut_any j)) (not (d'.cut_any j)) (d.lightest j) (d'.lightest j) (λ h. ap not (s.cut_any j p h)) (s.lightest j p))) in
      omega (arith, s.fixed)

  ungated_cuts_same : ungated_cuts c' d' r ≡ ungated_cuts c d r
  ungated_cuts_same =
      sum_same (λ j. χ (hangs c r j && not (d.has_ungated j)) 1) (λ j. χ (hangs c' r j && not (d'.has_ungated j)) 1)
      (λ j p.
      rw (s.hang j p)
      (χ-same (hangs c r j) (not (d.has_ungated j)) (not (d'.has_ungated j)) 1 1 (λ h. ap not (s.has_ungated j p h)) (λ h. refl)))

  ungated_left_same : ungated_left c' d' r ≡ ungated_left c d r
  ungated_left_same =
      let a =
      sum_same (λ j. χ (hangs c r j && d.has_ungated j) (d.ungated j)) (λ j. χ (hangs c' r j && d'.has_ungated j) (d'.ungated j))
      (λ j p.
      rw (s.hang j p)
      (χ-same (hangs c r j) (d.has_ungated j) (d'.has_ungated j) (d.ungated j) (d'.ungated j) (s.has_ungated j p) (s.ungated j p))) in
      omega (arith, s.fixed)

  module _ (limit : ℕ) where
    largest-same : (θ : ℕ) → Largest c limit d r θ → Largest c' limit d' r θ
    largest-same θ l =
        record {
          cut_heavy = λ j p h k.
              let p' : j < c.nodes = omega (arith, s.nodes) in
              let h' = sym (s.hang j p') ∙ h in
              let x = l.cut_heavy j p' h' (sym (s.cut_any j p' h') ∙ k) in
              omega (arith, s.lightest j p' h');
          kept_light = λ j p h k.
              let p' : j < c.nodes = omega (arith, s.nodes) in
              let h' = sym (s.hang j p') ∙ h in
              let x = l.kept_light j p' h' (sym (s.cut_any j p' h') ∙ k) in
              omega (arith, s.lightest j p' h');
          fits = omega (arith, any_left_same, l.fits);
          no_fewer = λ z. let w = l.no_fewer (omega (arith, any_cuts_same)) in omega (arith, any_left_same);
        }

    pub closed_same : Closed c limit d r → Closed c' limit d' r
    closed_same (only-any θ l g f a u w) =
        only-any θ (largest-same θ l) (⊎_map (λ z. omega (arith, s.gates)) (λ z. omega (arith, any_cuts_same, ungated_cuts_same)) g)
        (omega (arith, s.fewest, below-same, any_cuts_same))
        (s.any_ok ∙ a)
        (s.ungated_ok ∙ u)
        (omega (arith, s.any_weight, any_left_same))
    closed_same (both θ l g e f a u w v) =
        both θ (largest-same θ l) (s.gates ∙ g)
        (omega (arith, any_cuts_same, ungated_cuts_same))
        (omega (arith, s.fewest, below-same, any_cuts_same))
        (s.any_ok ∙ a)
        (s.ungated_ok ∙ u)
        (omega (arith, s.any_weight, any_left_same))
        (omega (arith, s.ungated_weight, ungated_left_same))
    closed_same (only-ungated g y f a u w v) =
        only-ungated (s.gates ∙ g)
        (⊎_map (λ z. omega (arith, s.fixed)) (λ z. (z.0, largest-same z.0 z.1, omega (arith, z.2, any_cuts_same, ungated_cuts_same))) y)
        (omega (arith, s.fewest, below-same, ungated_cuts_same))
        (s.any_ok ∙ a)
        (s.ungated_ok ∙ u)
        (omega (arith, s.ungated_weight, ungated_left_same))
        (s.any_weight ∙ (v ∙ sym s.ungated_weight))

module _ {c c' : Clusters} {d d' : Down} {j : ℕ} (s : SameBranch c c' d d' j) (limit : ℕ) where
  span_same : span c' j ≡ span c j
  span_same = rw (s.factor, s.hi, s.lo)

  pub climbed-same : Climbed c limit d j → Climbed c' limit d' j
  climbed-same (without-gate o k n h u l) =
      without-gate (s.ungated_ok ∙ o)
      (s.count ∙ (k ∙ sym s.fewest))
      (s.near ∙ n)
      (s.has_ungated ∙ h)
      (omega (arith, s.ungated, s.ungated_weight, span_same))
      (rw (s.lightest, s.any_weight, span_same, s.ungated) l)
  climbed-same (within_limit o f k n h l) =
      within_limit (s.ungated_ok ∙ o)
      (omega (arith, s.any_weight, span_same))
      (s.count ∙ (k ∙ sym s.fewest))
      (s.near ∙ n)
      (s.has_ungated ∙ h)
      (omega (arith, s.lightest, s.any_weight, span_same))
  climbed-same (with-jumper o f k e w b h u l) =
      with-jumper (s.ungated_ok ∙ o)
      (omega (arith, s.any_weight, span_same))
      (omega (arith, s.count, s.fewest))
      (rw s.near (s.free (d.near j) ∙ e))
      (rw (s.any_weight, s.factor, s.near, s.lo) w)
      (λ t x y. rw s.near (b t (sym (s.free t) ∙ x) (rw (s.any_weight, s.factor, s.lo) at y)))
      (s.has_ungated ∙ h)
      (rw (s.ungated, s.factor, s.hi, s.near) u)
      (s.lightest ∙ (l ∙ sym s.ungated))
