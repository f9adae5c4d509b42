-- The loop that cuts the heaviest branches of a cluster: where it begins, one turn, and why it ends.
-- Assumes nothing.
use Rattle.std.specs.Prelude.{ℕ, ◌+◌, ◌-◌, ◌≤◌, ◌<◌, ◌≡◌, refl, ◌≢◌, Bool, true, false, ◌&&◌, List, length, set, eqb}
use Rattle.std.proofs.Common.{sym, ◌∙◌, ⊎_elim, length-set, get_or-set_same, get_or-set_other}
use Rattle.std.proofs.Math.Path.{ap}
use Rattle.std.proofs.Math.Bool.{not}
use native.Mathlib.Omega.{arith}
use Rattle.std.proofs.Math.ListN.{get_or}
use borrow.Author.Tests.{eqb-true, eqb-false, eq-eqb}
use Rattle.laws.specs.Sum.{χ, sum}
use Rattle.laws.specs.Sums.{by, no_both, χ-yes, sum_ap, sum-+, sum-zero, sum-pick, term-≤}
use Rattle.counting.specs.Close.{hung, branch_sum, flagged_count, clear_sum, Uncut, Heaviest, Cutting}
use Rattle.counting.specs.CloseSums.{χ-both, χ-first, χ-second, not_yes, not-no}

module _ (n : ℕ) (lo host lightest : List ℕ) (r : ℕ) where
  none-cut : (cut_any : List Bool) → ((j : ℕ) → j < n → hung lo host r j ≡ true → get_or cut_any j false ≡ false) → flagged_count n lo host r cut_any ≡ 0
  unfolding flagged_count
  none-cut cut_any h =
      sum-zero n
      (λ j p.
      by (hung lo host r j)
      (λ a. χ-second (hung lo host r j) 1 (h j p a))
      (λ b. χ-first (get_or cut_any j false) 1 b))

  all-kept :
      (cut_any : List Bool) →
      ((j : ℕ) → j < n → hung lo host r j ≡ true → get_or cut_any j false ≡ false) →
      clear_sum n lo host r cut_any lightest ≡ branch_sum n lo host r lightest
  unfolding clear_sum branch_sum
  all-kept cut_any h =
      sum_ap n
      (λ j p.
      by (hung lo host r j)
      (λ a. rw (a, h j p a))
      (λ b. rw b))

  branch-term : (j : ℕ) → j < n → hung lo host r j ≡ true → get_or lightest j 0 ≤ branch_sum n lo host r lightest
  unfolding branch_sum
  branch-term j p h =
      let a = term-≤ n j (λ j. χ (hung lo host r j) (get_or lightest j 0)) p in let b = χ-yes (get_or lightest j 0) h in omega arith

  pub cutting_start :
      (cut_any : List Bool) (fixed limit left : ℕ) →
      ((j : ℕ) → j < n → hung lo host r j ≡ true → get_or cut_any j false ≡ false) →
      left ≡ fixed + branch_sum n lo host r lightest →
      Cutting n lo host lightest cut_any cut_any r fixed limit 0 left
  cutting_start cut_any fixed limit left h e =
      record {
        long = refl;
        cuts_is = sym (none-cut cut_any h);
        left_is = omega (arith, all-kept cut_any h);
        others = λ j a. refl;
        θ = branch_sum n lo host r lightest;
        cut_heavy = λ j p a b. absurd (no_both b (h j p a));
        kept_light = λ j p a b. branch-term j p a;
        no_fewer = λ z. omega arith;
      }

  none_kept :
      (cut_any : List Bool) →
      ((j : ℕ) → j < n → hung lo host r j ≡ true → get_or cut_any j false ≡ false → get_or lightest j 0 ≤ 0) →
      clear_sum n lo host r cut_any lightest ≡ 0
  unfolding clear_sum
  none_kept cut_any h =
      sum-zero n
      (λ j p.
      by (hung lo host r j)
      (λ a.
      by (get_or cut_any j false)
      (λ b. χ-second (hung lo host r j) (get_or lightest j 0) (not-no b))
      (λ b. let x = h j p a b in let y = χ-both (get_or lightest j 0) a (not_yes b) in omega arith))
      (λ b. χ-first (not (get_or cut_any j false)) (get_or lightest j 0) b))

  -- while the limit is passed, a branch with weight is not cut yet
  pub cutting_more :
      {before cut_any : List Bool} {fixed limit cuts left at weight : ℕ} →
      Cutting n lo host lightest before cut_any r fixed limit cuts left →
      Heaviest n lo host lightest cut_any r at weight →
      fixed ≤ limit →
      limit < left →
      (0 < weight) × Uncut n lo host lightest cut_any r at weight
  cutting_more {before} {cut_any} {fixed} {limit} {cuts} {left} {at} {weight} k v f l =
      ⊎_elim
      (λ (z : weight ≡ 0).
      let a = none_kept cut_any (λ j p h q. let x = v.most j p h q in omega arith) in
      absurd (native.Mathlib.Nat.lt_irrefl 0 (omega (arith, k.left_is))))
      (λ (u : Uncut n lo host lightest cut_any r at weight). (
        by (eqb weight 0)
            (λ e.
            let z = eqb-true weight 0 e in
            let a = none_kept cut_any (λ j p h q. let x = v.most j p h q in omega arith) in
            absurd (native.Mathlib.Nat.lt_irrefl 0 (omega (arith, k.left_is))))
            (λ e. let ne = eqb-false weight 0 e in omega arith),
        u,
      ))
      v.one

  -- what a cut changes
  module _ (cut_any : List Bool) (at weight : ℕ) (u : Uncut n lo host lightest cut_any r at weight) (long : at < length cut_any) where
    here : get_or (set cut_any at true) at false ≡ true
    here = get_or-set_same cut_any at true false long

    there : (j : ℕ) → j ≢ at → get_or (set cut_any at true) j false ≡ get_or cut_any j false
    there j ne = get_or-set_other cut_any at j true false ne

    one_more : flagged_count n lo host r (set cut_any at true) ≡ flagged_count n lo host r cut_any + 1
    unfolding flagged_count
    one_more =
        sum_ap n
        {f = λ j. χ (hung lo host r j && get_or (set cut_any at true) j false) 1}
        {g = λ j. χ (hung lo host r j && get_or cut_any j false) 1 + χ (eqb j at) 1}
        (λ j p.
        by (eqb j at)
        (λ e.
        let q : j ≡ at = eqb-true j at e in
        rw q
        (omega (arith, χ-both 1 u.hangs here, χ-second (hung lo host r at) 1 u.kept, χ-yes 1 (eq-eqb at at refl))))
        (λ e. rw (e, there j (eqb-false j at e)) (omega arith)))
        ∙ (sum-+ n (λ j. χ (hung lo host r j && get_or cut_any j false) 1) (λ j. χ (eqb j at) 1)
        ∙ ap (λ (k : ℕ). sum n (λ j. χ (hung lo host r j && get_or cut_any j false) 1) + k) (sum-pick n at (λ j. 1) u.inside))

    less_kept : clear_sum n lo host r cut_any lightest ≡ clear_sum n lo host r (set cut_any at true) lightest + get_or lightest at 0
    unfolding clear_sum
    less_kept =
        sum_ap n
        {f = λ j. χ (hung lo host r j && not (get_or cut_any j false)) (get_or lightest j 0)}
        {g = λ j. χ (hung lo host r j && not (get_or (set cut_any at true) j false)) (get_or lightest j 0) + χ (eqb j at) (get_or lightest j 0)}
        (λ j p.
        by (eqb j at)
        (λ e.
        let q : j ≡ at = eqb-true j at e in
        rw q
        (omega (
          arith,
          χ-second (hung lo host r at) (get_or lightest at 0) (not-no here),
          χ-both (get_or lightest at 0) u.hangs (not_yes u.kept),
          χ-yes (get_or lightest at 0) (eq-eqb at at refl),
        )))
        (λ e. rw (e, there j (eqb-false j at e)) (omega arith)))
        ∙ (sum-+ n (λ j. χ (hung lo host r j && not (get_or (set cut_any at true) j false)) (get_or lightest j 0)) (λ j. χ (eqb j at) (get_or lightest j 0))
        ∙ ap
        (λ (k : ℕ). sum n (λ j. χ (hung lo host r j && not (get_or (set cut_any at true) j false)) (get_or lightest j 0)) + k)
        (sum-pick n at (λ j. get_or lightest j 0) u.inside))

  pub cutting_step :
      {before cut_any : List Bool} {fixed limit cuts left at weight : ℕ} →
      Cutting n lo host lightest before cut_any r fixed limit cuts left →
      Heaviest n lo host lightest cut_any r at weight →
      Uncut n lo host lightest cut_any r at weight →
      at < length cut_any →
      limit < left →
      Cutting n lo host lightest before (set cut_any at true) r fixed limit (cuts + 1) (left - get_or lightest at 0)
  cutting_step {before} {cut_any} {fixed} {limit} {cuts} {left} {at} {weight} k v u long l =
      let more = one_more cut_any at weight u long in
      let less = less_kept cut_any at weight u long in
      record {
        long = length-set cut_any at true ∙ k.long;
        cuts_is = omega (arith, k.cuts_is);
        left_is = omega (arith, k.left_is);
        others = λ j a.
            by (eqb j at)
            (λ e. absurd (no_both u.hangs (rw (eqb-true j at e) at a)))
            (λ e. there cut_any at weight u long j (eqb-false j at e) ∙ k.others j a);
        θ = weight;
        cut_heavy = λ j p a b.
            by (eqb j at)
            (λ e. let q : j ≡ at = eqb-true j at e in rw q (omega (arith, u.weighs)))
            (λ e.
            let x = k.cut_heavy j p a (sym (there cut_any at weight u long j (eqb-false j at e)) ∙ b) in
            let y = k.kept_light at u.inside u.hangs u.kept in
            omega (arith, u.weighs));
        kept_light = λ j p a b.
            by (eqb j at)
            (λ e. absurd (no_both (here cut_any at weight u long) (rw (eqb-true j at e) at b)))
            (λ e. v.most j p a (sym (there cut_any at weight u long j (eqb-false j at e)) ∙ b));
        no_fewer = λ z. omega (arith, k.left_is, u.weighs);
      }

  -- the branch to be cut is part of the weight left
  pub cutting_part :
      {before cut_any : List Bool} {fixed limit cuts left at weight : ℕ} →
      Cutting n lo host lightest before cut_any r fixed limit cuts left →
      Uncut n lo host lightest cut_any r at weight →
      at < length cut_any →
      get_or lightest at 0 ≤ left
  cutting_part {before} {cut_any} {fixed} {limit} {cuts} {left} {at} {weight} k u long =
      let less = less_kept cut_any at weight u long in omega (arith, k.left_is)
