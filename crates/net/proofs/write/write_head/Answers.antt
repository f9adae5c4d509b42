-- `net::write::write_head` meets its contract.
-- Assumes nothing.
use mathlib.Core.Path.{refl}
use mathlib.Core.List.{◌++◌}
use native.Mathlib.Omega.{arith}
use Rattle.laws.specs.Bytes.{bytes16}
use Rattle.laws.specs.Lists.{over_lent}
use Rattle.net.specs.File.{head_of}
use Rattle.net.specs.Writing.{pairs_of}
use Rattle.net.proofs.write.write_head.Goals as goal

pub returns : goal.returns
unfolding head_of
returns c =
    let a = c.args in
    let l = a.out.now in
    let p1 = bytes16 a.version in
    let p2 = bytes16 3 in
    let p3 = pairs_of a.nodes a.wires a.obstacles in
    let e1 = rw c.to_le_bytes.ensures at c.copy.ensures in
    let e2 = rw c.to_le_bytes-2.ensures at c.copy-2.ensures in
    let s = over_lent p1 p2 l _ _ 2 e1 refl (omega arith) e2 in
    over_lent (p1 ++ p2) p3 l _ _ 4 s refl (omega arith) c.put_pairs.ensures
