-- `records::wire::start_piece` meets its contract.
-- Assumes nothing.
use Rattle.std.proofs.Common.{◌-◌, refl, length, arith}
use Rattle.records.specs.RecordBytes.{placed_record}
use Rattle.records.proofs.wire.start_piece.Goals as goal

pub returns : goal.returns
returns c =
    let a = c.args in
    let p = a.piece in
    (refl, refl, placed_record a.at (length a.out.now - a.at) a.out.now c.write.new.rest p.number p.position p.weight p.flags p.layers (omega arith) c.write.ensures)
