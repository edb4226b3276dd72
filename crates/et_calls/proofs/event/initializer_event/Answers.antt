use Rattle.std.proofs.Common.{◌∙◌, sym, subst}
use Rattle.std.specs.Prelude.{IfOk}
use Rattle.et_state.specs.State.{Kept, kept_of}
use Rattle.et_state.specs.Outcome.{Outcome}
use Rattle.et_event.specs.Answered.{EventAnswers}
use Rattle.et_calls.proofs.Initializing.{event_is_step}
use Rattle.et_calls.proofs.event.initializer_event.Goals as goal

pub returns : goal.returns
returns c =
    let p = c.args.program.now in
    let s : Kept = kept_of c.args.machine.now in
    subst (λ (o : Outcome Kept). IfOk c.initialization_event.result (λ end. EventAnswers o end c.args.machine.now c.initialization_event.new.machine c.args.out.now c.initialization_event.new.out))
    (sym (event_is_step p s c.args.thread c.in-Before.class c.requires.turn (sym c.stage.ensures ∙ c.in-Before.is))) c.initialization_event.ensures
