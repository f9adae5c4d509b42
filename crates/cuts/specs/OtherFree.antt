-- Clusters that differ only in which points of uncuttable wires count as free: what holds of the one holds of the other.
-- Assumes nothing.
use Rattle.std.specs.Prelude.{ℕ, ◌<◌, ◌≡◌, Bool, true}
use Rattle.std.proofs.Common.{sym, ◌∙◌}
use Rattle.std.proofs.Math.Logic.{⊎_map}
use Rattle.cuts.specs.Cluster.{Clusters, Sound}
use Rattle.cuts.specs.Passes.{Down, Largest, Closed, only-any, both, only-ungated, Climbed, without-gate, within_limit, with-jumper, Counted}

abbrev pub with_free : Clusters → (ℕ → ℕ → Bool) → Clusters
with_free c free =
    record {
      nodes = c.nodes;
      cuttable = c.cuttable;
      lo = c.lo;
      hi = c.hi;
      free = free;
      factor = c.factor;
      host = c.host;
      fixed = c.fixed;
      gates = c.gates;
    }

module _ (c : Clusters) (free : ℕ → ℕ → Bool) (same : (j t : ℕ) → j < c.nodes → c.cuttable j ≡ true → free j t ≡ c.free j t) where
  pub sound-free : Sound (with_free c free) → Sound c
  sound-free s =
      record {
        host_below = s.host_below;
        positive = s.positive;
        lo_free = λ j p k. sym (same j (c.lo j) p k) ∙ s.lo_free j p k;
        hi_free = λ j p k. sym (same j (c.hi j) p k) ∙ s.hi_free j p k;
        lo_least = λ j t p k f. s.lo_least j t p k (same j t p k ∙ f);
        hi_most = λ j t p k f. s.hi_most j t p k (same j t p k ∙ f);
      }

  largest-free : {limit r θ : ℕ} {d : Down} → Largest c limit d r θ → Largest (with_free c free) limit d r θ
  largest-free l = record { cut_heavy = l.cut_heavy; kept_light = l.kept_light; fits = l.fits; no_fewer = l.no_fewer }

  pub closed-free : {limit r : ℕ} {d : Down} → Closed c limit d r → Closed (with_free c free) limit d r
  closed-free (only-any θ l g f a b w) = only-any θ (largest-free l) g f a b w
  closed-free (both θ l g e f a b w u) = both θ (largest-free l) g e f a b w u
  closed-free (only-ungated g h f a b u w) = only-ungated g (⊎_map (λ x. x) (λ x. (x.0, largest-free x.1, x.2)) h) f a b u w

  pub climbed-free : {limit j : ℕ} {d : Down} → j < c.nodes → c.cuttable j ≡ true → Climbed c limit d j → Climbed (with_free c free) limit d j
  climbed-free p k (without-gate a b n h u l) = without-gate a b n h u l
  climbed-free p k (within_limit a b n h u l) = within_limit a b n h u l
  climbed-free {limit} {j} {d} p k (with-jumper a b n f w best h u l) =
      with-jumper a b n (same j (d.near j) p k ∙ f) w (λ t g q. best t (sym (same j t p k) ∙ g) q) h u l

  pub counted-free : {limit m : ℕ} {d : Down} → Counted c limit d m → Counted (with_free c free) limit d m
  counted-free q =
      record {
        closed = λ r p lt. closed-free (q.closed r p lt);
        climbed = λ j p lt k. climbed-free lt k (q.climbed j p lt k);
        no_near = q.no_near;
      }
