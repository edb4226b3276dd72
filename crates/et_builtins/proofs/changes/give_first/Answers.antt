use Rattle.std.proofs.Common.{sym, subst}
use Rattle.et_heap.specs.Queues.{IsWhole}
use Rattle.et_state.specs.State.{MachineState}
use Rattle.et_builtins.proofs.Queueing.{first_given, queue_whole}
use Rattle.et_builtins.proofs.changes.give_first.Goals as goal

pub take_first-first-requires-clause-whole : goal.take_first-first-requires-clause-whole
take_first-first-requires-clause-whole g c =
    subst (λ (x : MachineState). IsWhole x.heap c.args.queue) (sym c.pass.ensures.new) (queue_whole c.args.machine.now c.args.queue c.requires.calls.sound)

pub returns-clause-ok : goal.returns-clause-ok
returns-clause-ok g c = λ p at out same.
    first_given p c.args.call.now.thread c.args.call.now.count c.args.call.now.next c.args.queue c.take_first-first.result c.args.machine.now c.pass.new.machine c.take_first-first.new.machine c.push.new.self at out
    c.requires.calls.sound c.requires.calls.frame c.requires.calls.operands same c.requires.object.root c.requires.object.held c.take_first-first.ensures.value c.pass.ensures.new c.take_first-first.ensures.new c.push.ensures
