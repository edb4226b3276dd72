use Rattle.et_builtins.proofs.Queueing.{reference_made}
use Rattle.et_builtins.proofs.changes.make_reference.Goals as goal

pub returns-clause-ok : goal.returns-clause-ok
returns-clause-ok g c = λ p at out same.
    reference_made p c.args.call.now.thread c.args.call.now.count c.args.call.now.next c.args.object c.args.referent c.args.queue c.args.machine.now c.pass.new.machine c.set_referent.new.machine c.set_queue.new.machine at out
    c.requires.calls.sound c.requires.calls.frame c.requires.calls.operands same c.requires.object.root c.requires.object.held c.requires.referent c.requires.queue c.pass.ensures.new c.set_referent.ensures.new c.set_queue.ensures.new
