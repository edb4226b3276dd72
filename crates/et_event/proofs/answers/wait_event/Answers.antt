use Rattle.std.proofs.Common.{refl}
use Rattle.et_state.proofs.Steps.{waited_led}
use Rattle.et_event.proofs.answers.wait_event.Goals as goal

pub returns : goal.returns
returns c p t out = (waited_led c.args.machine.now c.begin_event.new.self c.requires.sound c.begin_event.ensures, refl)
