use Rattle.std.proofs.Common.{arith, ◌+◌}
use Rattle.std.proofs.lemmas.Grind.{common_steps}
use Rattle.et_listing.proofs.Pieces.{free_none, words_next, words_end}
use Rattle.et_listing.proofs.split.words_of.Goals as goal

pub loop-i-preserved : goal.loop-i-preserved
loop-i-preserved c = record {
  start = omega arith;
  free = free_none 32 c.args.line.now (c.loop-i.i + 1);
  found = words_next c.loop-i.words.items c.push_some.new.words.items c.args.line.now _ c.loop-i.start c.loop-i.i _ c.loop-i.invariant.start (omega arith) c.loop-i.invariant.free (omega arith) c.new.ensures c.in_ok-push_some.ensures c.loop-i.invariant.found;
}

pub returns : goal.returns
returns c = words_end c.loop-i.words.items c.push_some-2.new.words.items c.args.line.now _ c.loop-i.start _ (λ k low high e. c.loop-i.invariant.free k low (omega arith) e) (grind (arith, common_steps)) c.in_ok-push_some-2.ensures c.loop-i.invariant.found
