use Rattle.std.proofs.Common.{◌≡◌, ℕ, List, sym, ◌∙◌, ap, refl}
use Rattle.std.specs.Prelude.{unwrap_or}
use Rattle.et_state.specs.Threads.{FrameState, first_frame}
use Rattle.et_state.specs.declared.ends.EventEnd.TheVariants as ends
use Rattle.et_event.proofs.Answering.{ill_typed_answers, ill_typed_end}
use Rattle.et_initialize.proofs.Turning.{answers_alike}
use Rattle.et_calls.proofs.FirstMethods.{alike}
use Rattle.et_calls.proofs.Fresh.{fresh_thread}
use Rattle.et_calls.proofs.Running.{planned_is}
use Rattle.et_calls.proofs.entry.events.entry_event.Goals as goal

pub returns-in-IllTyped-clause-ok : goal.returns-in-IllTyped-clause-ok
returns-in-IllTyped-clause-ok g c =
    let m = c.args.machine.now in
    let fresh = fresh_thread m.guest c.args.thread c.requires.thread c.requires.turn in
    let end : ends.IllTyped c.new.result 0 ≡ ill_typed_end m c.args.thread =
    ap (λ (k : ℕ). ends.IllTyped k 0) c.new.ensures ∙ sym (ap (λ (fs : List FrameState). ends.IllTyped (unwrap_or (first_frame fs).method 0) (first_frame fs).pc) fresh.frames) in
    alike _ _ (ends.IllTyped c.new.result 0) m m c.args.out.now c.args.out.now (planned_is c.args.program.now c.args.thread c.args.machine.now c.entry_plan.result _ c.requires.turn c.entry_plan.ensures.plan c.in-IllTyped.is)
    (ill_typed_answers c.args.program.now c.args.thread m m c.args.out.now (ends.IllTyped c.new.result 0) refl end)

pub returns-in-Waits-clause-ok : goal.returns-in-Waits-clause-ok
returns-in-Waits-clause-ok g c =
    alike _ _ c.wait_event.result c.args.machine.now c.wait_event.new.machine c.args.out.now c.args.out.now (planned_is c.args.program.now c.args.thread c.args.machine.now c.entry_plan.result _ c.requires.turn c.entry_plan.ensures.plan c.in-Waits.is)
    (c.wait_event.ensures c.args.program.now c.args.thread c.args.out.now)

pub returns-in-Throws-clause-ok : goal.returns-in-Throws-clause-ok
returns-in-Throws-clause-ok g c =
    answers_alike c.throw_first.result _ _ c.args.machine.now c.throw_first.new.machine c.args.out.now c.throw_first.new.out (planned_is c.args.program.now c.args.thread c.args.machine.now c.entry_plan.result _ c.requires.turn c.entry_plan.ensures.plan c.in-Throws.is) c.throw_first.ensures

pub returns-in-Initializes-clause-ok : goal.returns-in-Initializes-clause-ok
returns-in-Initializes-clause-ok g c =
    answers_alike c.begin_class_event.result _ _ c.args.machine.now c.begin_class_event.new.machine c.args.out.now c.begin_class_event.new.out (planned_is c.args.program.now c.args.thread c.args.machine.now c.entry_plan.result _ c.requires.turn c.entry_plan.ensures.plan c.in-Initializes.is) c.begin_class_event.ensures

pub returns-in-Enters-clause-ok : goal.returns-in-Enters-clause-ok
returns-in-Enters-clause-ok g c =
    answers_alike c.enter_first.result _ _ c.args.machine.now c.enter_first.new.machine c.args.out.now c.enter_first.new.out (planned_is c.args.program.now c.args.thread c.args.machine.now c.entry_plan.result _ c.requires.turn c.entry_plan.ensures.plan c.in-Enters.is) c.enter_first.ensures.ok
