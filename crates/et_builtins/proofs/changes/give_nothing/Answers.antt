use Rattle.et_builtins.proofs.Changing.{nothing_given}
use Rattle.et_builtins.proofs.changes.give_nothing.Goals as goal

pub returns : goal.returns
returns c = λ p at out same.
    nothing_given p c.args.call.now.thread c.args.call.now.count c.args.call.now.next c.args.machine.now c.pass.new.machine at out c.requires.calls.sound c.requires.calls.frame c.requires.calls.operands same c.pass.ensures.new
