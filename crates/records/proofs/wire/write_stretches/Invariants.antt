-- `records::wire::write_stretches` meets its contract.
-- Assumes nothing.
use Rattle.std.proofs.Common.{◌≡◌, ◌+◌, ◌-◌, ◌*◌, ◌≤◌, length}
use Rattle.laws.specs.Place.{place}
use Rattle.net.specs.Layout.{record_bytes}
use Rattle.records.specs.Record.{stretches_fields}
use Rattle.records.proofs.wire.write_stretches.Given as goal

abbrev pub invariant-loop-d : goal.invariant-loop-d
invariant-loop-d l =
    let e = l.fn.entries.start in
    record {
      inside : l.d - e - 1 ≤ l.d-end - e - 1;
      next : l.next ≡ l.at + record_bytes * (l.d - e - 1);
      written : l.out ≡ place l.at (stretches_fields l.jumpers l.i l.wire.factor l.wire.layer e (l.d - e - 1)) l.initial.out;
      long : length l.out ≡ length l.initial.out;
    }
