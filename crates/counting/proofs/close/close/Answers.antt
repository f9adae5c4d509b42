-- `counting::close::close` meets its contract: the ungated option alone where the fixed weight passes the limit, else the two compared.
-- Assumes nothing.
use Rattle.std.proofs.Common.{refl, inl, arith}
use Rattle.clusters.specs.Positions.{los}
use Rattle.counting.specs.CloseSums.{flagged_few}
use Rattle.counting.specs.CloseEndings.{no-gate, ends-ungated, ends_compared}
use Rattle.counting.proofs.close.close.Goals as goal

pub returns-then-limit-c : goal.returns-then-limit-c
returns-then-limit-c g c =
    let sums = c.sum_branches-sums.ensures in
    record {
      long = refl;
      others = λ j h. refl;
      closed =
          ends-ungated _ _ _ _ _ _ _ c.args.cut_any.now _ _ _ _ _ _ sums.0 sums.3 (omega (arith, sums.2)) (no-gate _ _ _ c.requires.fixed_le_limit c.if-limit-c.true) (inl c.if-limit-c.true) _ refl;
    }

pub compare-requires : goal.compare-requires
compare-requires g c =
    let a = c.args in
    let room = c.requires.room in
    let sums = c.sum_branches-sums.ensures in
    let few = flagged_few a.c.now.n (los a.c.now.cuttable) a.c.now.host a.r c.cut_heaviest-any.new.cut_any in
    (omega (arith, room.counts, room.few, sums.0, c.cut_heaviest-any.ensures.0.cuts_is), omega (arith, room.counts, room.few, sums.0, sums.4))

pub returns : goal.returns
returns g c =
    let sums = c.sum_branches-sums.ensures in
    let cutting = c.cut_heaviest-any.ensures in
    record {
      long = cutting.0.long;
      others = cutting.0.others;
      closed =
          ends_compared _ _ _ _ _ _ _ _ _ _ _ _ _ _ sums.0 sums.3 (omega (arith, sums.2)) _ cutting.0 cutting.1 c.compare.ensures;
    }
