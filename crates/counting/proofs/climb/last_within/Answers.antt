-- `counting::climb::last_within` meets its contract: the search begins at the last position that the limit allows, which lies inside the wire.
-- Assumes nothing.
use Rattle.std.proofs.Common.{ℕ, Option, None, Some, IsSome, IsSomeAnd, refl, arith}
use Rattle.counting.specs.Climb.{LastWithin}
use Rattle.counting.specs.ClimbLaws.{open_high, steps-inside, last_within}
use Rattle.counting.proofs.climb.last_within.Goals as goal

pub highest_cuttable-requires : goal.highest_cuttable-requires
highest_cuttable-requires c =
    let b = c.requires.branch in
    let e = c.weight_of_step.ensures.0 in
    let inside = steps-inside _ _ _ _ _ _ _ _ b c.requires.weight_le_limit.0 c.requires.weight_le_limit.1 in
    let high = open_high _ _ _ _ _ b.hi_open in
    (b.checked, rw e (omega arith))

is-some : (P : ℕ → Type 0) (r : Option ℕ) → IsSomeAnd r P → IsSome r
is-some P None h = absurd h
is-some P (Some x) h = refl

pub unwrap-requires : goal.unwrap-requires
unwrap-requires c =
    let a = c.args in
    is-some (LastWithin a.nodes.now a.wires.now a.obstacles.now a.i a.ends.lo a.ends.hi a.weight a.limit) _
    (last_within _ _ _ _ _ _ _ _ _ c.requires.branch c.requires.weight_le_limit.0 c.requires.weight_le_limit.1
    (rw (c.from.ensures, c.weight_of_step.ensures.0) at c.highest_cuttable.ensures))

pub returns : goal.returns
returns c =
    last_within _ _ _ _ _ _ _ _ (Some c.unwrap.result) c.requires.branch c.requires.weight_le_limit.0 c.requires.weight_le_limit.1
    (rw (c.from.ensures, c.weight_of_step.ensures.0, c.unwrap.ensures) at c.highest_cuttable.ensures)
