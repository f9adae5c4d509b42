-- `records::record::Record::write` meets its contract: two writers leave the record.
-- Assumes nothing.
use Rattle.std.proofs.Common.{ℕ, ◌≡◌, ◌∙◌, ap, arith}
use Rattle.laws.specs.Place.{place, place-more}
use Rattle.records.specs.Record.{head_part, layers_part, fields}
use Rattle.records.proofs.record.Record.write.Goals as goal

pub returns : goal.returns
unfolding fields
returns c =
    let r = c.args.self in
    let head : c.write_head.new.rest ≡ place 0 (head_part r.number r.position r.weight r.flags) c.args.rest.now =
    c.write_head.ensures ∙ ap (λ (flags : ℕ). place 0 (head_part r.number r.position r.weight flags) c.args.rest.now) (omega arith) in
    c.write_layers.ensures
    ∙ rw head (place-more 0 (head_part r.number r.position r.weight r.flags) (layers_part r.layers) c.args.rest.now c.requires)
