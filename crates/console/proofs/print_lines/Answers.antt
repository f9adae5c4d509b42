use Rattle.std.proofs.Common.{◌≡◌, ℕ, suc, ◌*◌, List, ◌++◌, ◌∷◌, [], length, take, drop, sym, ◌∙◌, arith, length-append, subst}
use Rattle.std.specs.Io.KnownBytes.{Appends}
use Rattle.std.proofs.KnownBytes.{Appends-nil}
use Rattle.laws.specs.Gather.{gather}
use Rattle.console.proofs.Printed.{one_more, chunk_is, behind_is, within, whole}
use Rattle.console.proofs.print_lines.Goals as goal

pub loop-chunk-init : goal.loop-chunk-init
unfolding gather
loop-chunk-init g c = let none : c.args.size * 0 ≡ 0 = omega arith in record {
  size = cc;
  rest = rw none (cc);
  within = rw none (omega arith);
  printed = λ line p. Appends-nil _;
}

pub loop-chunk-preserved : goal.loop-chunk-preserved
loop-chunk-preserved g c =
    let contents = g.W.Write.contents in
    let v = c.loop-chunk.invariant in
    let steps = c.in-Some.ensures.steps in
    let size = c.args.size in
    let bytes = c.args.bytes.now in
    let k = length c.loop-chunk.yielded in
    let chunk = c.in-Some.chunk.now in
    let behind = c.next.new.self.rest.now in
    let more : length (c.loop-chunk.yielded ++ (c.in-Some.chunk ∷ [])) ≡ suc k = omega (arith, length-append c.loop-chunk.yielded (c.in-Some.chunk ∷ [])) in
    let e : chunk ++ behind ≡ drop (size * k) bytes = sym steps.1.0 ∙ v.rest in
    let n : length chunk ≡ size = steps.1.1 ∙ v.size in
    record {
      size = steps.0 ∙ v.size;
      rest = rw more (behind_is size k bytes chunk behind e n);
      within = rw more (within size k bytes chunk behind e n v.within);
      printed = λ line p.
          let here = p _ _ _ _ c.in_ok-print.ensures in
          one_more (λ j. line (take size (drop (size * j) bytes))) _ k (contents c.args.to.now) (contents c.loop-chunk.to) (contents c.print.new.arg2) more (v.printed line p)
          (subst (λ (t : List ℕ). Appends (contents c.loop-chunk.to) (contents c.print.new.arg2) (line t)) (chunk_is size k bytes chunk behind e n) here);
    }

pub returns : goal.returns
returns g c =
    let v = c.loop-chunk.invariant in
    λ line p.
    rw (← whole c.args.size (length c.loop-chunk.yielded) c.args.bytes.now c.loop-chunk.chunk-iterator.rest.now v.rest v.within (omega (arith, c.in-None.ensures.steps.1.0, v.size)))
    (v.printed line p)
