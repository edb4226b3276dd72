use Rattle.et_asm.specs.Symbols.{places}
use Rattle.et_asm.specs.Code.{offset4}
use Rattle.et_asm.proofs.Loops.{put_more, put_all}
use Rattle.et_asm.proofs.instruction.put_offsets.Goals as goal

pub loop-name-preserved : goal.loop-name-preserved
loop-name-preserved c = put_more (offset4 (places c.args.labels.now.entries) c.args.at) c.args.names.now c.loop-name.name-index c.name-item.result c.loop-name.out.items c.put_offset4.new.out.items c.args.out.now.items c.loop-name-test.true c.name-item.is c.in_ok-put_offset4.ensures c.loop-name.invariant

pub returns : goal.returns
returns c = put_all (offset4 (places c.args.labels.now.entries) c.args.at) c.args.names.now c.loop-name.name-index c.loop-name.out.items c.args.out.now.items c.loop-name-test.false c.loop-name.invariant
