use Rattle.std.proofs.Common.{true, sym, arith}
use Rattle.std.proofs.Math.ListN.{length-set}
use Rattle.et_code.proofs.Starting.{flags_more, flags_last, flags_end}
use Rattle.et_code.proofs.starts.start_flags.Goals as goal

pub loop-pc-preserved : goal.loop-pc-preserved
loop-pc-preserved c = record {
  size = omega (arith, length-set c.loop-pc.flags.items c.loop-pc.pc true);
  flagged = flags_more c.args.code.now c.loop-pc.flags.items c.loop-pc.pc c.in-Ok.field-0-0 c.in-Ok.next (omega arith) c.loop-pc.invariant.size (sym c.in-Ok.ensures.decoded) c.loop-pc.invariant.flagged;
}

pub returns-in-Err : goal.returns-in-Err
returns-in-Err c = flags_last c.args.code.now c.loop-pc.flags.items c.loop-pc.pc c.in-Err.field-0 (omega arith) c.loop-pc.invariant.size (sym c.in-Err.ensures.decoded) c.loop-pc.invariant.flagged

pub returns : goal.returns
returns c = flags_end c.args.code.now c.loop-pc.flags.items c.loop-pc.pc (omega arith) c.loop-pc.invariant.flagged
