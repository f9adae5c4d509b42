use Rattle.std.proofs.Common.{◌≡◌, ◌*◌, ◌≤◌, ℕ, List, length, take, drop, OnOk}
use Rattle.std.specs.Io.KnownBytes.{Appends}
use Rattle.laws.specs.Gather.{gather}
use Rattle.console.proofs.print_lines.Given as goal

-- the lines of the chunks before the rest are printed
abbrev pub invariant-loop-chunk : goal.invariant-loop-chunk
invariant-loop-chunk g l =
    let contents = g.W.Write.contents in
    record {
      size : l.chunk-iterator.size ≡ l.size;
      rest : l.chunk-iterator.rest.now ≡ drop (l.size * length l.yielded) l.bytes;
      within : l.size * length l.yielded ≤ length l.bytes;
      printed : (line : List ℕ → List ℕ) →
          ((t : _) (chunk : _) (r : _) (u : _) → goal.F-post g l.print t chunk r u → OnOk r (Appends (contents t.now) (contents u.now) (line chunk.now))) →
          Appends (contents l.fn.to) (contents l.to) (gather (length l.yielded) (λ k. line (take l.size (drop (l.size * k) l.bytes))));
    }
