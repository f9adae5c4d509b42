-- `clusters::marks::mark_components` meets its contract: the components below i are marked by the nodes below i. Assumes nothing.
use Rattle.std.proofs.Common.{ℕ, ◌<◌, ◌≡◌, Bool, false, get_or}
use Rattle.laws.specs.Sum.{any}
use Rattle.clusters.specs.FirstPasses.{marked}
use Rattle.clusters.proofs.marks.mark_components.Given as goal

abbrev pub invariant-loop-i : goal.invariant-loop-i
invariant-loop-i g l =
    (test : ℕ → Bool) → ((i : ℕ) (b : Bool) → i < l.n → goal.F-post g l.passes i b → b ≡ test i) →
    (l.some ≡ any l.i test) × ((k : ℕ) → k < l.i → get_or l.marks k false ≡ marked l.i l.component test k)
