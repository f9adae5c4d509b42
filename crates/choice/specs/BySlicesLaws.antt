-- The structs that the pass up takes hold what its slices do.
-- Assumes nothing.
use Rattle.std.specs.Prelude.{ℕ, ◌<◌, Bool, List}
use Rattle.std.proofs.Common.{◌∙◌}
use Rattle.laws.specs.Sums.{by}
use Rattle.clusters.specs.declared.work.Clusters.{Clusters}
use Rattle.clusters.specs.FirstPasses.{cuttable}
use Rattle.clusters.specs.BySlices.{SameClusters}
use Rattle.counting.specs.declared.work.Counts.{Counts}
use Rattle.choice.specs.BySlices.{Chooses, SameCounts}
use Rattle.choice.specs.Choose as structs

module _
    (n : ℕ) (ws lo hi host : List ℕ) (cut_any any_ok : List Bool) (any_weight : List ℕ) (has_ungated : List Bool) (near : List ℕ) {N : ℕ} (c : Clusters N) (k : Counts N)
    (s : SameClusters n lo hi host c) (t : SameCounts n cut_any any_ok any_weight has_ungated near k) where
  pub chooses_same :
      (limit : ℕ) (any_mode cut_high : List Bool) (r : ℕ) → r < n →
      structs.Chooses ws c k limit any_mode cut_high r → Chooses ws lo hi host cut_any any_ok any_weight has_ungated near limit any_mode cut_high r
  chooses_same limit any_mode cut_high r p h =
      record {
        high_is = rw (s.low r p, s.hosts r p, t.cuts r p, t.ungated r p) at h.high_is;
        mode_is =
            (rw (s.low r p, s.high r p, s.hosts r p, t.stops r p, t.oks r p, t.weights r p) at h.mode_is)
            ∙ by (cuttable lo r) (λ y. rw y) (λ z. rw z);
      }
