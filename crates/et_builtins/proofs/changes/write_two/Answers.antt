use Rattle.et_builtins.proofs.Changing.{two_written}
use Rattle.et_builtins.proofs.changes.write_two.Goals as goal

pub returns-clause-ok : goal.returns-clause-ok
returns-clause-ok g c = λ p at same.
    two_written p c.args.call.now.thread c.args.call.now.count c.args.call.now.next c.args.object c.args.first_value c.args.second_value c.args.machine.now c.pass.new.machine c.write.new.machine c.write-2.new.machine at c.args.out.now c.write.new.out c.write-2.new.out
    c.requires.calls.sound c.requires.calls.frame c.requires.calls.operands same c.requires.object.root c.requires.object.held c.requires.slots c.requires.first_value c.requires.second_value
    c.pass.ensures.new c.in_ok-write.ensures.new c.in_ok-write.ensures.told c.in_ok-write-2.ensures.new c.in_ok-write-2.ensures.told
