use Rattle.std.proofs.Common.{sym, ◌∙◌, ap}
use Rattle.et_state.specs.declared.stage.Stage.{Stage}
use Rattle.et_state.specs.declared.stage.Stage.TheVariants.{Plain, Before, Clinit}
use Rattle.et_state.specs.Threads.{is_before_class}
use Rattle.et_state.specs.State.{kept_of}
use Rattle.et_throw.proofs.Turning.{of_class, top_runs, before_there, clinit_there, unwinds_there}
use Rattle.et_throw.proofs.Turns.{turn_answers}
use Rattle.et_throw.proofs.unwinding.unwinding_event.Goals as goal

pub class_of-class-requires : goal.class_of-class-requires
class_of-class-requires g c = (unwinds_there c.args.program.now c.args.machine.now c.args.thread c.in-Some.exception c.requires.sound c.requires.clock c.requires.turn (sym c.pending.ensures ∙ c.in-Some.is)).held

pub unwind_method-requires-clause-thrown : goal.unwind_method-requires-clause-thrown
unwind_method-requires-clause-thrown g c = of_class c.args.program.now c.args.machine.now c.args.thread c.in-Some.exception c.class_of-class.result (unwinds_there c.args.program.now c.args.machine.now c.args.thread c.in-Some.exception c.requires.sound c.requires.clock c.requires.turn (sym c.pending.ensures ∙ c.in-Some.is)) c.class_of-class.ensures.class

pub unwind_method-requires-clause-runs : goal.unwind_method-requires-clause-runs
unwind_method-requires-clause-runs g c =
    top_runs c.args.program.now (kept_of c.args.machine.now) c.args.thread c.requires.sound (unwinds_there c.args.program.now c.args.machine.now c.args.thread c.in-Some.exception c.requires.sound c.requires.clock c.requires.turn (sym c.pending.ensures ∙ c.in-Some.is)).frame (ap (λ (s : Stage). is_before_class s) (sym c.stage.ensures ∙ c.in-Plain.is))

pub fail_event-requires-clause-thrown : goal.fail_event-requires-clause-thrown
fail_event-requires-clause-thrown g c = of_class c.args.program.now c.args.machine.now c.args.thread c.in-Some.exception c.class_of-class.result (unwinds_there c.args.program.now c.args.machine.now c.args.thread c.in-Some.exception c.requires.sound c.requires.clock c.requires.turn (sym c.pending.ensures ∙ c.in-Some.is)) c.class_of-class.ensures.class

pub fail_event-requires-clause-small : goal.fail_event-requires-clause-small
fail_event-requires-clause-small g c = (before_there c.args.program.now (kept_of c.args.machine.now) c.args.thread c.in-Before.class c.requires.sound (unwinds_there c.args.program.now c.args.machine.now c.args.thread c.in-Some.exception c.requires.sound c.requires.clock c.requires.turn (sym c.pending.ensures ∙ c.in-Some.is)).frame (sym c.stage.ensures ∙ c.in-Before.is)).1

pub fail_event-requires-clause-class : goal.fail_event-requires-clause-class
fail_event-requires-clause-class g c = (before_there c.args.program.now (kept_of c.args.machine.now) c.args.thread c.in-Before.class c.requires.sound (unwinds_there c.args.program.now c.args.machine.now c.args.thread c.in-Some.exception c.requires.sound c.requires.clock c.requires.turn (sym c.pending.ensures ∙ c.in-Some.is)).frame (sym c.stage.ensures ∙ c.in-Before.is)).0

pub unwind_method-requires-in-Clinit-clause-thrown : goal.unwind_method-requires-in-Clinit-clause-thrown
unwind_method-requires-in-Clinit-clause-thrown g c = of_class c.args.program.now c.args.machine.now c.args.thread c.in-Some.exception c.class_of-class.result (unwinds_there c.args.program.now c.args.machine.now c.args.thread c.in-Some.exception c.requires.sound c.requires.clock c.requires.turn (sym c.pending.ensures ∙ c.in-Some.is)) c.class_of-class.ensures.class

pub unwind_method-requires-in-Clinit-clause-runs : goal.unwind_method-requires-in-Clinit-clause-runs
unwind_method-requires-in-Clinit-clause-runs g c =
    top_runs c.args.program.now (kept_of c.args.machine.now) c.args.thread c.requires.sound (unwinds_there c.args.program.now c.args.machine.now c.args.thread c.in-Some.exception c.requires.sound c.requires.clock c.requires.turn (sym c.pending.ensures ∙ c.in-Some.is)).frame (ap (λ (s : Stage). is_before_class s) (sym c.stage.ensures ∙ c.in-Clinit.is))

pub unwind_method-requires-in-Clinit-clause-clinit : goal.unwind_method-requires-in-Clinit-clause-clinit
unwind_method-requires-in-Clinit-clause-clinit g c = clinit_there c.args.program.now (kept_of c.args.machine.now) c.args.thread c.in-Clinit.class c.requires.sound (unwinds_there c.args.program.now c.args.machine.now c.args.thread c.in-Some.exception c.requires.sound c.requires.clock c.requires.turn (sym c.pending.ensures ∙ c.in-Some.is)).frame (sym c.stage.ensures ∙ c.in-Clinit.is)

pub returns-in-Plain-clause-event : goal.returns-in-Plain-clause-event
returns-in-Plain-clause-event g c =
    turn_answers c.args.program.now c.args.thread c.in-Some.exception Plain c.args.machine.now _ c.args.out.now _ c.unwind_method.result c.requires.turn (sym c.pending.ensures ∙ c.in-Some.is) (sym c.stage.ensures ∙ c.in-Plain.is) c.unwind_method.ensures.ok

pub returns-in-Before-clause-event : goal.returns-in-Before-clause-event
returns-in-Before-clause-event g c =
    turn_answers c.args.program.now c.args.thread c.in-Some.exception (Before c.in-Before.class) c.args.machine.now _ c.args.out.now _ c.fail_event.result c.requires.turn (sym c.pending.ensures ∙ c.in-Some.is) (sym c.stage.ensures ∙ c.in-Before.is) c.fail_event.ensures.ok

pub returns-in-Clinit-clause-event : goal.returns-in-Clinit-clause-event
returns-in-Clinit-clause-event g c =
    turn_answers c.args.program.now c.args.thread c.in-Some.exception (Clinit c.in-Clinit.class) c.args.machine.now _ c.args.out.now _ c.unwind_method-in-Clinit.result c.requires.turn (sym c.pending.ensures ∙ c.in-Some.is) (sym c.stage.ensures ∙ c.in-Clinit.is) c.unwind_method-in-Clinit.ensures.ok
