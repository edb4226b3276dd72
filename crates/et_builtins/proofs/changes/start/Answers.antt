use Rattle.et_builtins.proofs.Changing.{fresh_still, thread_started}
use Rattle.et_builtins.proofs.changes.start.Goals as goal

pub start_thread-requires-clause-fresh : goal.start_thread-requires-clause-fresh
start_thread-requires-clause-fresh c =
    fresh_still c.args.machine.now c.args.call.now.thread c.args.call.now.count c.args.call.now.next c.args.object c.pass.new.machine c.pass.ensures.new c.requires.fresh

pub returns : goal.returns
returns c = λ p at out same.
    thread_started p c.args.call.now.thread c.args.call.now.count c.args.call.now.next c.args.object c.args.machine.now c.pass.new.machine c.start_thread.new.self at out c.requires.calls.sound c.requires.calls.frame c.requires.calls.operands same c.requires.held c.pass.ensures.new c.in_ok-_thread.ensures.ok
