use Rattle.std.proofs.Common.{arith, ap, length}
use Rattle.et_listing.proofs.Unescaped.{unescaped_end}
use Rattle.et_listing.proofs.spelling.text_len.Goals as goal

pub returns : goal.returns
returns c = let none = ap length (unescaped_end c.args.word.now c.loop-i.i c.loop-i-test.false) in omega (arith, none, c.loop-i.invariant.counted)
