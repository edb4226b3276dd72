use Rattle.std.proofs.Common.{subst}
use Rattle.et_state.specs.State.{MachineState}
use Rattle.et_state.specs.Words.{HasFrame}
use Rattle.et_strings.proofs.Giving.{made_given}
use Rattle.et_strings.proofs.rewriting.give_made.Goals as goal

pub returns : goal.returns
returns c = λ m class slots sound made newest.
    made_given m c.args.call.now.thread c.args.call.now.count c.args.call.now.next c.args.object class slots c.args.machine.now c.begin_event.new.self c.take.new.machine c.set_pc.new.self c.push.new.self sound (subst (λ (k : MachineState). HasFrame k.guest c.args.call.now.thread) made c.requires.frame) made newest c.begin_event.ensures c.take.ensures c.set_pc.ensures c.push.ensures
