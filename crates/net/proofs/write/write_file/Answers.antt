-- `net::write::write_file` meets its contract.
-- Assumes nothing.
use Prim.Native.Nat.{ℕ, ◌+◌}
use mathlib.Core.Path.{◌∙◌, sym, ap}
use mathlib.Core.List.{List, ◌++◌, append_assoc}
use native.Mathlib.Omega.{arith}
use lib.ListN.{length}
use Rattle.laws.specs.Lists.{over, over_lent}
use Rattle.net.specs.Layout.{head_bytes}
use Rattle.net.specs.File.{head_of, file_of}
use Rattle.net.specs.Writing.{head-length, wires-after}
use Rattle.net.proofs.write.write_file.Goals as goal

pub returns : goal.returns
unfolding file_of
returns c =
    let a = c.args in
    let l = a.out.now in
    let ns = a.nodes.now in
    let ws = a.wires.now in
    let os = a.obstacles.now in
    let head = head_of a.version (length ns) (length ws) (length os) in
    let s =
    over_lent head ns l _ _ head_bytes c.write_head.ensures
    (head-length a.version (length ns) (length ws) (length os)) (omega arith) c.copy.ensures in
    over_lent (head ++ ns) (ws ++ os) l _ _ (head_bytes + length ns) s (wires-after a.version ns ws os) (omega arith) c.copy_two.ensures
    ∙ ap (λ (p : List ℕ). over p l) (sym (append_assoc (head ++ ns) ws os))
