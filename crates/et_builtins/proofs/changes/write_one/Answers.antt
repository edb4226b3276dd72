use Rattle.et_builtins.proofs.Changing.{one_written}
use Rattle.et_builtins.proofs.changes.write_one.Goals as goal

pub returns-clause-ok : goal.returns-clause-ok
returns-clause-ok g c = λ p at same.
    one_written p c.args.call.now.thread c.args.call.now.count c.args.call.now.next c.args.object c.args.value c.args.machine.now c.pass.new.machine c.write.new.machine at c.args.out.now c.write.new.out c.requires.calls.sound c.requires.calls.frame c.requires.calls.operands same c.requires.object.root c.requires.object.held c.requires.slots c.requires.value
    c.pass.ensures.new c.in_ok-write.ensures.new c.in_ok-write.ensures.told
