-- The points that the two passes choose are a good set.
-- Assumes nothing.
use Rattle.std.specs.Prelude.{ℕ, ◌+◌, ◌-◌, ◌*◌, ◌≤◌, ◌<◌, ◌≡◌, refl, Bool, true, false, not, ◌&&◌, ◌||◌, cond, eqb}
use Rattle.std.proofs.Common.{sym, ◌∙◌, ap, ⊎_elim, arith, lt_irrefl, mul-zero, eqb-true}
use Rattle.std.proofs.Math.Nat.{sub_self}
use Rattle.std.proofs.lemmas.Bool.{not-true}
use Rattle.laws.specs.Sum.{χ, sum}
use Rattle.laws.specs.Sums.{by, no_both, not_false_true, and_left, and_right, or_cases, or_no_left, or_no_right, χ_ap, χ-and, χ-zero, sum_ap, sum-zero, down}
use Rattle.laws.specs.Tree.{tree, tree_is, Rising}
use Rattle.cuts.specs.Cluster.{Clusters, Sound, Parts, Good, hangs, span}
use Rattle.cuts.specs.Passes.{Down, Up, Run, stops, chosen_effect}
use Rattle.cuts.specs.ChosenModes.{mode_weight, mode_adds, any_ok_lem, ungated_ok_lem, closed-any, closed-ungated, high-any, high-ungated, adds-any, adds-ungated, mode_below, near-free, near-light, near-below, light-whole}

-- a branch of cluster r that the chosen points leave whole
abbrev pub whole_branch : Clusters → Down → Up → ℕ → ℕ → Bool
whole_branch c d u r j = hangs c r j && not (stops d j || u.cut_high j)

-- what the chosen points do to the pieces
abbrev pub chosen_parts : Clusters → Down → Up → Parts
chosen_parts c d u =
    record {
      adds = λ j. cond (u.cut_high j) 0 (mode_adds c d u j);
      weight = mode_weight d u;
      gates = tree c.nodes (whole_branch c d u) c.gates;
    }

keep : (t : Bool) {x y : ℕ} → (t ≡ false → x ≡ y) → χ (not t) y ≡ cond t 0 x
keep true h = refl
keep false h = sym (h refl)

points-some : (q h : Bool) → (q || h) ≡ true → 1 ≤ χ q 1 + χ h 1
points-some true h y = omega arith
points-some false true y = omega arith
points-some false false y = absurd (no_both y refl)

points-alone : (q h : Bool) (x y : ℕ) → (q || h) ≡ true → χ q 1 + χ h 1 ≡ 1 → cond q x y ≡ cond h y x
points-alone true true x y w e = absurd (lt_irrefl 0 (omega arith))
points-alone true false x y w e = refl
points-alone false true x y w e = refl
points-alone false false x y w e = absurd (no_both w refl)

module _ (c : Clusters) (limit : ℕ) (d : Down) (u : Up) (s : Sound c) (run : Run c limit d u) where
  weight-any :
      (r : ℕ) → r < c.nodes → u.any_mode r ≡ true → d.any_weight r ≡ c.fixed r + sum c.nodes (λ j. χ (hangs c r j) ((chosen_parts c d u).adds j))
  weight-any r lt m =
      (closed-any c limit d r (run.counted.closed r (omega arith) lt) (any_ok_lem c limit d u s run r lt m)).0
      ∙ ap (λ (x : ℕ). c.fixed r + x) (sum_ap c.nodes (λ j p. χ-and (hangs c r j) (not (d.cut_any j)) (d.lightest j) ∙ χ_ap (hangs c r j) (term j p)))
    where
      term : (j : ℕ) → j < c.nodes → hangs c r j ≡ true → χ (not (d.cut_any j)) (d.lightest j) ≡ (chosen_parts c d u).adds j
      term j p y =
          let cj = and_left (c.cuttable j) (eqb (c.host j) r) y in
          let e = eqb-true (c.host j) r (and_right (c.cuttable j) (eqb (c.host j) r) y) in
          let m' = ap u.any_mode e ∙ m in
          rw (← high-any c limit d u s run j p cj m') (keep (u.cut_high j) (λ n. adds-any c limit d u s run j p cj m'))

  weight-ungated :
      (r : ℕ) →
      r < c.nodes →
      u.any_mode r ≡ false →
      d.ungated_weight r ≡ c.fixed r + sum c.nodes (λ j. χ (hangs c r j) ((chosen_parts c d u).adds j))
  weight-ungated r lt m =
      (closed-ungated c limit d r (run.counted.closed r (omega arith) lt) (ungated_ok_lem c limit d u s run r lt m)).1
      ∙ ap (λ (x : ℕ). c.fixed r + x) (sum_ap c.nodes (λ j p. χ-and (hangs c r j) (d.has_ungated j) (d.ungated j) ∙ χ_ap (hangs c r j) (term j p)))
    where
      term : (j : ℕ) → j < c.nodes → hangs c r j ≡ true → χ (d.has_ungated j) (d.ungated j) ≡ (chosen_parts c d u).adds j
      term j p y =
          let cj = and_left (c.cuttable j) (eqb (c.host j) r) y in
          let e = eqb-true (c.host j) r (and_right (c.cuttable j) (eqb (c.host j) r) y) in
          let m' = ap u.any_mode e ∙ m in
          let h = high-ungated c limit d u s run j p cj m' in
          by (d.has_ungated j)
          (λ y. rw (h, y) (sym (adds-ungated c limit d u s run j p cj m' y)))
          (λ n. rw (h, n) refl)

  rising : Rising c.nodes (whole_branch c d u)
  rising r j p q y =
      let y' = and_left (hangs c r j) (not (stops d j || u.cut_high j)) y in
      let b = s.host_below j q (and_left (c.cuttable j) (eqb (c.host j) r) y') in
      let e = eqb-true (c.host j) r (and_right (c.cuttable j) (eqb (c.host j) r) y') in
      omega arith

  gates_is : (r : ℕ) → r < c.nodes → (chosen_parts c d u).gates r ≡ c.gates r + sum c.nodes (λ j. χ (whole_branch c d u r j) ((chosen_parts c d u).gates j))
  gates_is = tree_is c.nodes (whole_branch c d u) c.gates rising

  -- a cluster in the ungated mode has no gate in its part
  no-gates : (r : ℕ) → r < c.nodes → u.any_mode r ≡ false → (chosen_parts c d u).gates r ≡ 0
  no-gates =
      down c.nodes (λ r. u.any_mode r ≡ false → (chosen_parts c d u).gates r ≡ 0)
      (λ r p below m.
      let own = (closed-ungated c limit d r (run.counted.closed r (omega arith) p) (ungated_ok_lem c limit d u s run r p m)).0 in
      let all = gates_is r p in
      let rest =
      sum-zero c.nodes {f = λ j. χ (whole_branch c d u r j) ((chosen_parts c d u).gates j)}
      (λ j q.
      χ_ap (whole_branch c d u r j) {y = 0}
      (λ y.
      let y' = and_left (hangs c r j) (not (stops d j || u.cut_high j)) y in
      let n = not-true (stops d j || u.cut_high j) (and_right (hangs c r j) (not (stops d j || u.cut_high j)) y) in
      let cj = and_left (c.cuttable j) (eqb (c.host j) r) y' in
      let e = eqb-true (c.host j) r (and_right (c.cuttable j) (eqb (c.host j) r) y') in
      below j (rising r j p q y) q (mode_below c limit d u s run j q cj (ap u.any_mode e ∙ m) n))
      ∙ χ-zero (whole_branch c d u r j)) in
      omega arith)

  mode_of_gate : (r : ℕ) → r < c.nodes → 0 < (chosen_parts c d u).gates r → u.any_mode r ≡ true
  mode_of_gate r p g = not_false_true (u.any_mode r) (λ n. let z = no-gates r p n in lt_irrefl 0 (omega arith))

  any-light : (r : ℕ) → r < c.nodes → u.any_mode r ≡ true → d.any_weight r ≤ limit
  any-light r p m = let a = closed-any c limit d r (run.counted.closed r (omega arith) p) (any_ok_lem c limit d u s run r p m) in omega arith

  module _ (j : ℕ) (p : j < c.nodes) (cj : c.cuttable j ≡ true) where
    near_is_free : stops d j ≡ true → c.free j (d.near j) ≡ true
    near_is_free = near-free c limit d s j p cj (run.counted.climbed j (omega arith) p cj)

    first_free : (stops d j || u.cut_high j) ≡ true → c.free j (cond (stops d j) (d.near j) (c.hi j)) ≡ true
    first_free y = by (stops d j) (λ q. rw q (near_is_free q)) (λ q. rw q (s.hi_free j p cj))

    last_free : (stops d j || u.cut_high j) ≡ true → c.free j (cond (u.cut_high j) (c.hi j) (d.near j)) ≡ true
    last_free y =
        by (u.cut_high j)
        (λ h. rw h (s.hi_free j p cj))
        (λ h. rw h (near_is_free (⊎_elim (λ q. q) (λ h'. absurd (no_both h' h)) (or_cases (stops d j) (u.cut_high j) y))))

    in_order : (stops d j || u.cut_high j) ≡ true → cond (stops d j) (d.near j) (c.hi j) ≤ cond (u.cut_high j) (c.hi j) (d.near j)
    in_order y =
        by (stops d j)
        (λ q.
        let b = near-below c limit d s j p cj (run.counted.climbed j (omega arith) p cj) q in
        by (u.cut_high j) (λ h. rw (q, h) (omega arith)) (λ h. rw (q, h) (omega arith)))
        (λ q. let h : u.cut_high j ≡ true = rw q at y in rw (q, h) (omega arith))

    adds_cut :
        (stops d j || u.cut_high j) ≡ true →
        cond (u.cut_high j) 0 (mode_adds c d u j) ≡ c.factor j * (c.hi j - cond (u.cut_high j) (c.hi j) (d.near j))
    adds_cut y =
        by (u.cut_high j)
        (λ h. rw (h, sub_self (c.hi j), mul-zero (c.factor j)) refl)
        (λ h. let q : stops d j ≡ true = ⊎_elim (λ q. q) (λ h'. absurd (no_both h' h)) (or_cases (stops d j) (u.cut_high j) y) in rw (h, q) refl)

    adds_whole : (stops d j || u.cut_high j) ≡ false → cond (u.cut_high j) 0 (mode_adds c d u j) ≡ mode_weight d u j + span c j
    adds_whole n = rw (or_no_left (stops d j) (u.cut_high j) n, or_no_right (stops d j) (u.cut_high j) n) refl

    cut_light :
        (stops d j || u.cut_high j) ≡ true →
        0 < (chosen_parts c d u).gates j →
        mode_weight d u j + c.factor j * (cond (stops d j) (d.near j) (c.hi j) - c.lo j) ≤ limit
    cut_light y g =
        let m = mode_of_gate j p g in
        by (stops d j)
        (λ q. rw (q, m) (near-light c limit d s j p cj (run.counted.climbed j (omega arith) p cj) q))
        (λ q. rw (q, m) (light-whole c limit d u s run j p cj q m))

  pub chosen-good : (p : Parts) × Good c limit (chosen_effect c d u) p
  chosen-good = (
    chosen_parts c d u,
    record {
      first_free = first_free;
      last_free = last_free;
      in_order = in_order;
      some = λ j p cj y. points-some (stops d j) (u.cut_high j) y;
      alone = λ j p cj y e. points-alone (stops d j) (u.cut_high j) (d.near j) (c.hi j) y e;
      adds_cut = adds_cut;
      adds_whole = adds_whole;
      weight_is = λ r p. by (u.any_mode r) (λ m. rw m (weight-any r p m)) (λ m. rw m (weight-ungated r p m));
      gates_is = gates_is;
      root_light = λ r p nc g. let m = mode_of_gate r p g in rw m (any-light r p m);
      cut_light = cut_light;
    },
  )
