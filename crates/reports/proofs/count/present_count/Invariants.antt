-- `reports::count::present_count` meets its contract. The invariant: the present wires below `i` are counted.
-- Assumes nothing.
use Prim.Native.Nat.{◌≤◌}
use mathlib.Core.Path.{◌≡◌}
use mathlib.Core.Bool.{◌&&◌}
use lib.Dec.{ltb, leb}
use Rattle.laws.specs.Sum.{χ, sum}
use Rattle.net.specs.Net.{wire_layer}
use Rattle.reports.proofs.count.present_count.Given as goal

abbrev pub invariant-loop-i : goal.invariant-loop-i
invariant-loop-i l = (l.count ≡ sum l.i (λ k. χ (ltb 0 k && leb (wire_layer l.wires k) l.stage) 1)) × (l.count ≤ l.i)
