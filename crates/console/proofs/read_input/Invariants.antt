use Rattle.std.proofs.Common.{length, ◌-◌, ◌≤◌, take}
use Rattle.std.specs.Io.KnownBytes.{Consumes}
use Rattle.console.proofs.read_input.Given as goal

-- what was read stands at the front
abbrev pub invariant-loop-got : goal.invariant-loop-got
invariant-loop-got g l =
    let remaining = g.R.Read.remaining in
    record {
      within : l.got ≤ length l.input;
      front : Consumes (remaining l.fn.from) (remaining l.from) (take l.got l.input);
    }

abbrev pub decreases-loop-got : goal.decreases-loop-got
decreases-loop-got g l = length l.initial.input - l.got
