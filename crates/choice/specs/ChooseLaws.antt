-- One turn of the pass up, and what its arrays say of the clusters.
-- Assumes nothing.
use Rattle.std.specs.Prelude.{ℕ, ◌+◌, ◌≤◌, ◌<◌, ◌≡◌, Bool, false, not, ◌&&◌, ◌||◌, cond, List, length, get_or, set, eqb, ltb}
use Rattle.std.proofs.Common.{sym, ◌∙◌, ap, arith, get_or-set_same, get_or-set_other, ltb-true, lt-ltb, le-ltb, eqb-true}
use Rattle.std.proofs.lemmas.Bool.{eqb-false}
use Rattle.laws.specs.Sums.{by}
use Rattle.net.specs.Stage.{Stage}
use Rattle.net.specs.Net.{wire_factor}
use Rattle.cuts.specs.Passes.{Chosen}
use Rattle.clusters.specs.Arrays.{clusters_of, down_of, up_of}
use Rattle.clusters.specs.declared.work.Clusters.{Clusters}
use Rattle.clusters.specs.Positions.{los, his, positions}
use Rattle.clusters.specs.FirstPasses.{cuttable}
use Rattle.counting.specs.declared.work.Counts.{Counts}
use Rattle.counting.specs.Optional.{flags}
use Rattle.counting.specs.declared.work.Branches.{Branches}
use Rattle.counting.specs.Count.{found}
use Rattle.choice.specs.Choose.{host_mode, cut_here, fits_whole, any_here, Chooses}

module _ (ws : List ℕ) {N : ℕ} (c : Clusters N) (k : Counts N) (limit : ℕ) where
  -- a store at a node above the host changes neither
  cut_here-set : (any_mode : List Bool) (r i : ℕ) (v : Bool) → (0 < get_or (los c.cuttable) r 0 → get_or c.host r 0 < r) → r ≤ i →
      cut_here c k (set any_mode i v) r ≡ cut_here c k any_mode r
  cut_here-set any_mode r i v below p =
      by (cuttable (los c.cuttable) r)
      (λ y.
      let b = below (ltb-true 0 (get_or (los c.cuttable) r 0) y) in
      rw (get_or-set_other any_mode i (get_or c.host r 0) v false (λ e. native.Mathlib.Nat.lt_irrefl 0 (omega arith))))
      (λ z. rw z)

  any_here-set : (any_mode : List Bool) (here : Bool) (r i : ℕ) (v : Bool) → (0 < get_or (los c.cuttable) r 0 → get_or c.host r 0 < r) → r ≤ i →
      any_here ws c k limit (set any_mode i v) here r ≡ any_here ws c k limit any_mode here r
  any_here-set any_mode here r i v below p =
      by (cuttable (los c.cuttable) r)
      (λ y.
      let b = below (ltb-true 0 (get_or (los c.cuttable) r 0) y) in
      rw (get_or-set_other any_mode i (get_or c.host r 0) v false (λ e. native.Mathlib.Nat.lt_irrefl 0 (omega arith))))
      (λ z. rw z)

  -- a node that is no branch
  pub cut_here-root : (any_mode : List Bool) (r : ℕ) → get_or (los c.cuttable) r 0 ≤ 0 → false ≡ cut_here c k any_mode r
  cut_here-root any_mode r l = rw (le-ltb 0 (get_or (los c.cuttable) r 0) l)

  pub any_here-root : (any_mode : List Bool) (here : Bool) (r : ℕ) → get_or (los c.cuttable) r 0 ≤ 0 → get_or k.any_ok r false ≡ any_here ws c k limit any_mode here r
  any_here-root any_mode here r l = rw (le-ltb 0 (get_or (los c.cuttable) r 0) l)

  -- a branch
  pub cut_here-branch :
      (any_mode : List Bool) (r : ℕ) (here : Bool) →
      0 < get_or (los c.cuttable) r 0 →
      here ≡ cond (host_mode c any_mode r) (get_or k.cut_any r false) (not (get_or (flags k.ungated) r false)) →
      here ≡ cut_here c k any_mode r
  cut_here-branch any_mode r here l e = rw (lt-ltb 0 (get_or (los c.cuttable) r 0) l) e

  pub any_here-branch :
      (any_mode : List Bool) (here any fits : Bool) (r : ℕ) →
      0 < get_or (los c.cuttable) r 0 →
      any ≡ (ltb 0 (get_or (positions k.near) r 0) || ((host_mode c any_mode r || here) && fits)) →
      fits ≡ fits_whole ws c k limit r →
      any ≡ any_here ws c k limit any_mode here r
  any_here-branch any_mode here any fits r l e f = e ∙ rw (lt-ltb 0 (get_or (los c.cuttable) r 0) l, f)

  -- one cluster more
  pub chooses_more :
      (any_mode cut_high : List Bool) (i : ℕ) (h m : Bool) →
      i < length any_mode →
      i < length cut_high →
      ((r : ℕ) → r ≤ i → 0 < get_or (los c.cuttable) r 0 → get_or c.host r 0 < r) →
      h ≡ cut_here c k any_mode i →
      m ≡ any_here ws c k limit any_mode h i →
      ((r : ℕ) → r < i → Chooses ws c k limit any_mode cut_high r) →
      (r : ℕ) → r < i + 1 → Chooses ws c k limit (set any_mode i m) (set cut_high i h) r
  chooses_more any_mode cut_high i h m p q below eh em done r l =
      by (eqb r i)
      (λ y.
      let e = eqb-true r i y in
      rw e
      (record {
        high_is = get_or-set_same cut_high i h false q ∙ (eh ∙ sym (cut_here-set any_mode i i m (below i (omega arith)) (omega arith)));
        mode_is = get_or-set_same any_mode i m false p
            ∙ (em
            ∙ (ap (λ (x : Bool). any_here ws c k limit any_mode x i) (sym (get_or-set_same cut_high i h false q))
            ∙ sym (any_here-set any_mode (get_or (set cut_high i h) i false) i i m (below i (omega arith)) (omega arith))));
      }))
      (λ z.
      let ne = eqb-false r i z in
      let d = done r (omega arith) in
      record {
        high_is = get_or-set_other cut_high i r h false ne ∙ (d.high_is ∙ sym (cut_here-set any_mode r i m (below r (omega arith)) (omega arith)));
        mode_is = get_or-set_other any_mode i r m false ne
            ∙ (d.mode_is
            ∙ (ap (λ (x : Bool). any_here ws c k limit any_mode x r) (sym (get_or-set_other cut_high i r h false ne))
            ∙ sym (any_here-set any_mode (get_or (set cut_high i h) r false) r i m (below r (omega arith)) (omega arith))));
      })

  -- the clusters of a net at a stage have the options and cuts of the pass up, whatever the arrays that it does not read
  pub chosen_of :
      (s : Stage) (ungated_ok : ℕ → Bool) (ungated_weight : ℕ → ℕ) (b : Branches N) (any_mode cut_high : List Bool) (r : ℕ) →
      s.factor r ≡ wire_factor ws r →
      Chooses ws c k limit any_mode cut_high r →
      Chosen (clusters_of s (los c.cuttable) (his c.cuttable) c.host c.fixed c.gates) limit (found k b ungated_ok ungated_weight) (up_of any_mode cut_high) r
  unfolding clusters_of down_of up_of
  chosen_of s ungated_ok ungated_weight b any_mode cut_high r f d =
      record {
        root_mode = λ z. d.mode_is ∙ rw z;
        root_high = λ z. d.high_is ∙ rw z;
        branch_high = λ y. d.high_is ∙ rw y;
        branch_mode = λ y. d.mode_is ∙ rw (y, f);
      }
