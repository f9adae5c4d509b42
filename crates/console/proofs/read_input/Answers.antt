use Rattle.std.proofs.Common.{rules}
use Rattle.console.proofs.Read.{read_on}
use Rattle.console.proofs.read_input.Goals as goal

pub loop-got-preserved : goal.loop-got-preserved
loop-got-preserved g c = record {
  within = search rules;
  front = read_on _ _ _ c.loop-got.got c.in_ok-n.n c.loop-got.input c.read.new.buf _ c.loop-got.invariant.within c.in_ok-n.ensures.bound.0 c.loop-got.invariant.front c.in_ok-n.ensures.bytes.0;
}
