-- `choice::choose` meets its contract: the clusters passed have their options, and what is added now is at the next one.
-- Assumes nothing.
use Rattle.std.proofs.Common.{ℕ, Bool, ◌≡◌, ◌<◌, ◌≤◌, ◌+◌, ◌∙◌, get_or, set, length, length-set, rules, arith}
use Rattle.clusters.specs.Positions.{los, lo_is, hi_is}
use Rattle.choice.specs.Choose.{cut_here, any_here, Chooses}
use Rattle.choice.specs.ChooseLaws.{cut_here-root, any_here-root, cut_here-branch, any_here-branch, chooses_more}
use Rattle.choice.proofs.choose.Goals as goal
use Rattle.choice.proofs.choose.Goals.{in-Some, in_default}

pub fits_whole-fits-requires : goal.fits_whole-fits-requires
fits_whole-fits-requires g c =
    let r = c.loop-r.r in
    let p = c.loop-r-test.true in
    let known = c.requires.choosable in
    let e = c.in-Some.ends in
    let stored : r < length c.args.c.now.cuttable = omega arith in
    let lo = lo_is c.args.c.now.cuttable r _ c.in-Some.is stored in
    let hi = hi_is c.args.c.now.cuttable r _ c.in-Some.is stored in
    let branch : 0 < get_or (los c.args.c.now.cuttable) r 0 = omega (arith, lo, e.positive) in
    let below = known.below r p branch in
    -- the size of what is lent, then the clauses
    (search rules, ((omega arith, omega arith, known.stored r p), (omega (arith, lo, hi, known.ordered r p branch), omega (arith, hi, known.short r p), known.light r p)))

pub loop-r-preserved : goal.loop-r-preserved
loop-r-preserved g c =
    let a = c.args in
    let l = c.loop-r in
    let ws = a.wires.now in
    let first = a.c.now in
    let counts = a.k.now in
    let stored : l.r < length first.cuttable = omega arith in
    let more : (h m : Bool) → h ≡ cut_here first counts l.any_mode l.r → m ≡ any_here ws first counts a.limit l.any_mode h l.r → (j : ℕ) → j < l.r + 1 → Chooses ws first counts a.limit (set l.any_mode l.r m) (set l.cut_high l.r h) j =
    λ h m eh em. chooses_more ws first counts a.limit l.any_mode l.cut_high l.r h m (omega arith) (omega arith) (λ j p. c.requires.choosable.below j (omega arith)) eh em l.invariant.chosen in
    elim c.match-c-r.branch [
      | in-Some w ↦
          let lo = lo_is first.cuttable l.r _ w.in-Some.is stored in
          let hi = hi_is first.cuttable l.r _ w.in-Some.is stored in
          let branch : 0 < get_or (los first.cuttable) l.r 0 = omega (arith, lo, w.in-Some.ends.positive) in
          rw (w.any_mode-is, w.cut_high-is)
          (record {
            long = length-set l.any_mode l.r _ ∙ l.invariant.long;
            chosen =
                more _ _ (cut_here-branch ws first counts a.limit l.any_mode l.r _ branch w.is_cut_high-here.ensures)
                (any_here-branch ws first counts a.limit l.any_mode _ _ _ l.r branch (rw w.stops.ensures at w.takes_any.ensures) (rw (lo, hi) w.fits_whole-fits.ensures));
          })
      | in_default w ↦
          let lo = lo_is first.cuttable l.r _ w.in_default.is stored in
          let root : get_or (los first.cuttable) l.r 0 ≤ 0 = omega (arith, lo) in
          rw (w.any_mode-is, w.cut_high-is)
          (record {
            long = length-set l.any_mode l.r _ ∙ l.invariant.long;
            chosen = more _ _ (cut_here-root ws first counts a.limit l.any_mode l.r root) (any_here-root ws first counts a.limit l.any_mode _ l.r root);
          })
    ]

pub returns : goal.returns
returns g c = (c.loop-r.any_mode, λ r p. c.loop-r.invariant.chosen r (omega arith))
