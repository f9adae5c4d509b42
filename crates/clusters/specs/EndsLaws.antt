-- The points of a wire that may be cut, from the search along the wire.
-- Assumes nothing.
use Rattle.std.specs.Prelude.{ℕ, ◌-◌, ◌<◌, ◌≡◌, true, false, List, get_or, ltb, Option, None, Some}
use Rattle.std.specs.Option.{unwrap_or}
use Rattle.std.proofs.Common.{sym, ◌∙◌, arith, lt_irrefl}
use borrow.Author.Tests.{ltb-true, ltb-false, lt-ltb}
use Rattle.laws.specs.Sums.{by, no_both}
use Rattle.net.specs.Layout.{newest}
use Rattle.net.specs.Net.{node_count, wire_length, barred}
use Rattle.net.specs.Stage.{Stage}
use Rattle.net.specs.NoClearance.{stage_of}
use Rattle.points.specs.Cuttable.{Checked, Lowest, Highest}
use Rattle.cuts.specs.Fits.{free_at}
use Rattle.cuts.specs.BridgeFits.{free_of, of_free}
use Rattle.clusters.specs.FirstPasses.{Wired, LowestFree, HighestFree, Ends, EndsInside, is_present}
use Rattle.clusters.specs.Turns.{is_present-positive}

pub checked : {ns ws : List ℕ} → Wired ns ws → (i : ℕ) → 0 < i → i < node_count ns → Checked ns ws i
checked w i p q =
    record {
      numbered = p;
      stored = w.stored i q;
      node = q;
      parent = omega (arith, w.below i p q);
      straight = w.straight i p q;
    }

-- a wire that is present, ready to be searched
pub checked_present : {ns ws : List ℕ} → Wired ns ws → (k i : ℕ) → i < node_count ns → is_present ws k i ≡ true → Checked ns ws i
checked_present {ns} {ws} w k i p h = checked w i (is_present-positive ws k i h) p

-- where there is no lowest one, there is no highest
pub none-highest : (s : Stage) (i : ℕ) → LowestFree s i 0 → HighestFree s i 0
none-highest s i l = record { free = λ h. absurd (lt_irrefl 0 h); most = λ t f. absurd (lt_irrefl 0 (l.some t f)) }

module _ (ns ws os : List ℕ) (k : ℕ) where
  pub present_is : (i : ℕ) → i < node_count ns → (stage_of newest ns ws os k).present i ≡ is_present ws k i
  unfolding stage_of
  present_is i p = rw (lt-ltb i (node_count ns) p)

  module _ (i : ℕ) (p : i < node_count ns) where
    -- a wire that is absent has no such point
    not-absent : is_present ws k i ≡ false → (t : ℕ) → free_at (stage_of newest ns ws os k) i t ≡ true → ⊥
    not-absent m t f = no_both (free_of (stage_of newest ns ws os k) i t f).present (present_is i p ∙ m)

    pub lowest-absent : is_present ws k i ≡ false → LowestFree (stage_of newest ns ws os k) i 0
    lowest-absent m =
        record {
          free = λ h. absurd (lt_irrefl 0 h);
          some = λ t f. absurd (not-absent m t f);
          least = λ t f. omega arith;
        }

    pub highest-absent : is_present ws k i ≡ false → HighestFree (stage_of newest ns ws os k) i 0
    highest-absent m = record { free = λ h. absurd (lt_irrefl 0 h); most = λ t f. absurd (not-absent m t f) }

    module _ (m : is_present ws k i ≡ true) where
      pub lowest-present : (r : Option ℕ) → Lowest (barred newest 0 ns ws os i) 1 (wire_length ns ws i) r → LowestFree (stage_of newest ns ws os k) i (unwrap_or r 0)
      unfolding stage_of
      lowest-present None l =
          record {
            free = λ h. absurd (lt_irrefl 0 h);
            some = λ t f. let g = free_of (stage_of newest ns ws os k) i t f in absurd (no_both (l t g.low g.high) g.clear);
            least = λ t f. omega arith;
          }
      lowest-present (Some r) l =
          record {
            free = λ h.
                of_free (stage_of newest ns ws os k) i r (record {
                  present = present_is i p ∙ m;
                  low = l.from;
                  high = l.within;
                  clear = l.free;
                });
            some = λ t f. omega (arith, l.from);
            least = λ t f.
                let g = free_of (stage_of newest ns ws os k) i t f in
                by (ltb t r)
                (λ y. absurd (no_both (l.below t g.low (ltb-true t r y)) g.clear))
                (λ n. ltb-false t r n);
          }

      pub highest-present : (r : Option ℕ) → 0 < wire_length ns ws i → Highest (barred newest 0 ns ws os i) (wire_length ns ws i - 1) r → HighestFree (stage_of newest ns ws os k) i (unwrap_or r 0)
      unfolding stage_of
      highest-present None pos l =
          record {
            free = λ h. absurd (lt_irrefl 0 h);
            most = λ t f.
                let g = free_of (stage_of newest ns ws os k) i t f in
                let low = g.low in
                let high = g.high in
                absurd (no_both (l t (omega arith) (omega arith)) g.clear);
          }
      highest-present (Some r) pos l =
          record {
            free = λ h.
                of_free (stage_of newest ns ws os k) i r (record {
                  present = present_is i p ∙ m;
                  low = omega arith;
                  high = omega (arith, l.within);
                  clear = l.free;
                });
            most = λ t f.
                let g = free_of (stage_of newest ns ws os k) i t f in
                let high = g.high in
                by (ltb r t)
                (λ y. absurd (no_both (l.above t (ltb-true r t y) (omega arith)) g.clear))
                (λ n. ltb-false r t n);
          }

    -- a wire of length 0 has none
    pub highest-short : wire_length ns ws i ≡ 0 → HighestFree (stage_of newest ns ws os k) i 0
    unfolding stage_of
    highest-short e =
        record {
          free = λ h. absurd (lt_irrefl 0 h);
          most = λ t f. let g = free_of (stage_of newest ns ws os k) i t f in let low = g.low in let high = g.high in omega arith;
        }

  -- the points found lie on their wires
  module _ (lo hi : List ℕ) (e : Ends (stage_of newest ns ws os k) lo hi) where
    pub inside_of : EndsInside ns ws lo hi
    unfolding stage_of
    inside_of =
        record {
          wire = λ i p h.
              is_present-positive ws k i (sym (present_is i p) ∙ (free_of (stage_of newest ns ws os k) i (get_or lo i 0) ((e.low i p).free h)).present);
          low = λ i p h. let g = (free_of (stage_of newest ns ws os k) i (get_or lo i 0) ((e.low i p).free h)).high in omega arith;
          high = λ i p h.
              let most = (e.high i p).most (get_or lo i 0) ((e.low i p).free h) in
              let g = (free_of (stage_of newest ns ws os k) i (get_or hi i 0) ((e.high i p).free (omega arith))).high in
              omega arith;
        }

    pub first-none : 0 < node_count ns → get_or lo 0 0 ≡ 0
    first-none p =
        by (ltb 0 (get_or lo 0 0))
        (λ y. absurd (lt_irrefl 0 (inside_of.wire 0 p (ltb-true 0 (get_or lo 0 0) y))))
        (λ n. let z = ltb-false 0 (get_or lo 0 0) n in omega arith)
