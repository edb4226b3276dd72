use Rattle.std.proofs.Common.{arith, ◌+◌}
use Rattle.std.proofs.lemmas.Grind.{common_steps}
use Rattle.et_listing.proofs.Pieces.{free_none, lines_next, lines_end}
use Rattle.et_listing.proofs.split.lines_of.Goals as goal

pub loop-i-preserved : goal.loop-i-preserved
loop-i-preserved c = record {
  start = omega arith;
  free = free_none 10 c.args.text.now (c.loop-i.i + 1);
  found = lines_next c.loop-i.lines.items c.push.new.self.items c.args.text.now _ c.loop-i.start c.loop-i.i _ c.loop-i.invariant.start (omega arith) c.loop-i.invariant.free (omega arith) c.new.ensures c.in_ok-push.ensures.items c.loop-i.invariant.found;
}

pub returns : goal.returns
returns c = lines_end c.loop-i.lines.items c.push_some.new.words.items c.args.text.now _ c.loop-i.start _ (λ k low high e. c.loop-i.invariant.free k low (omega arith) e) (grind (arith, common_steps)) c.in_ok-push_some.ensures c.loop-i.invariant.found
