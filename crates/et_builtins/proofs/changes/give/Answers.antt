use Rattle.et_builtins.proofs.Changing.{value_given}
use Rattle.et_builtins.proofs.changes.give.Goals as goal

pub returns : goal.returns
returns c = λ p at out same.
    value_given p c.args.call.now.thread c.args.call.now.count c.args.call.now.next c.args.value c.args.machine.now c.pass.new.machine c.push.new.self at out c.requires.calls.sound c.requires.calls.frame c.requires.calls.operands same c.requires.held c.pass.ensures.new c.push.ensures
