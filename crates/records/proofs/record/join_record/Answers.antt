-- `records::record::join_record` meets its contract.
-- Assumes nothing.
use Prim.Native.Nat.{ℕ, ◌+◌, ◌%◌}
use mathlib.Core.Path.{◌≡◌, ◌∙◌, ap}
use native.Mathlib.Omega.{arith}
use lib.ListN.{get_or}
use mathlib.Core.List.{List}
use lib.Bits.{bit_or, bit_and, or_lt, and_le_r, and_mask}
use Rattle.laws.specs.Numbers.{Bytes}
use Rattle.records.specs.Record.{with_harm}
use Rattle.records.specs.RecordBytes.{joined_layers, joined-weight_after}
use Rattle.records.proofs.record.join_record.Goals as goal

-- the joined flags
flagged : (r : List ℕ) (limit flags weight : ℕ) {n : ℕ} → n ≡ with_harm limit weight (bit_or (bit_and (get_or r 7 0) 3) flags) →
    n ≡ with_harm limit weight (bit_or (get_or r 7 0 % 4) flags)
flagged r limit flags weight e = rw (← and_mask (get_or r 7 0) 2) e

pub with_harm-flagged-requires : goal.with_harm-flagged-requires
with_harm-flagged-requires c =
    let r = get_or c.args.rest.now 7 0 in
    or_lt 2 (bit_and r 3) c.args.flags (omega (arith, and_le_r r 3)) c.requires.3

pub returns-then-layered-before : goal.returns-then-layered-before
returns-then-layered-before c =
    c.write_layers.ensures
    ∙ rw c.write_weight.ensures
    (joined_layers c.args.rest.now c.requires.0 c.requires.1 c.args.limit c.args.weight c.args.flags c.args.layers _ _ (ap (λ (x : ℕ). x + c.args.weight) (c.from.ensures ∙ c.u32_at.ensures)) (flagged c.args.rest.now c.args.limit c.args.flags _ c.with_harm-flagged.ensures) _
    (ap (λ (x : ℕ). bit_or x c.args.layers) c.u16_at-before.ensures))

pub returns-else-layered-before : goal.returns-else-layered-before
returns-else-layered-before c =
    let written : Bytes c.write_weight.new.rest = λ i. omega (arith, c.type_inv.rest i) in
    c.write_weight.ensures
    ∙ joined-weight_after c.args.rest.now c.requires.0 c.requires.1 c.args.limit c.args.weight c.args.flags c.args.layers _ _ (ap (λ (x : ℕ). x + c.args.weight) (c.from.ensures ∙ c.u32_at.ensures)) (flagged c.args.rest.now c.args.limit c.args.flags _ c.with_harm-flagged.ensures)
    (rw c.write_weight.ensures at written) (rw c.u16_at-before.ensures at c.if-layered-before.false)
