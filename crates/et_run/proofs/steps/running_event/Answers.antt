use Rattle.std.proofs.Common.{arith, refl}
use Rattle.et_state.specs.State.{Kept}
use Rattle.et_event.specs.Told.{event_with_texts}
use Rattle.et_history.specs.steps.Changing.{KeepsMonitors}
use Rattle.et_history.specs.steps.Telling.{IsToldOf}
use Rattle.et_run.specs.WithTexts.{state_of}
use Rattle.et_run.proofs.Flushing.{on_ok_both}
use Rattle.et_run.proofs.Waiting.{has_waited}
use Rattle.et_run.proofs.Answering.{on_ok, if_ok, answers, steps, ticks, named}
use Rattle.et_history.proofs.Unended.{unended_thread}
use Rattle.et_run.proofs.steps.running_event.Given.{Over}
use Rattle.et_run.proofs.steps.running_event.Goals.{After-turn_event}
use Rattle.et_run.proofs.steps.running_event.Goals as goal

pub turn_event-requires-clause-thread : goal.turn_event-requires-clause-thread
turn_event-requires-clause-thread g c = unended_thread c.args.running.now.machine.guest c.args.thread c.requires.thread

pub returns-clause-answers : goal.returns-clause-answers
returns-clause-answers g c =
    if_ok c.turn_event.result _ _ c.turn_event.ensures.event (λ end h. answers (event_with_texts c.args.program.now (state_of c.args.running.now) c.args.thread) end c.args.running.now.machine c.turn_event.new.running.machine c.args.running.now.texts c.turn_event.new.running.texts c.args.out.now.records c.turn_event.new.out.records h)

pub returns-clause-step : goal.returns-clause-step
returns-clause-step g c =
    if_ok c.turn_event.result _ _ c.turn_event.ensures.event (λ end h. steps (event_with_texts c.args.program.now (state_of c.args.running.now) c.args.thread) end c.args.running.now.machine c.turn_event.new.running.machine c.args.running.now.texts c.turn_event.new.running.texts c.args.out.now.records c.turn_event.new.out.records h)

pub returns-clause-sound : goal.returns-clause-sound
returns-clause-sound g c =
    on_ok_both c.turn_event.result _ _ _ c.turn_event.ensures.sound c.turn_event.ensures.sound_texts (λ state texts. record { tabled = c.requires.sound.tabled; runnable = c.requires.sound.runnable; state = state; texts = texts })

pub returns-clause-visits : goal.returns-clause-visits
returns-clause-visits g c =
    let few = c.turn_event.ensures.visits in
    let some = c.requires.sound.state.held.room in
    omega (arith, few, some)

-- the event is told
told : (g : Over) (c : After-turn_event g) → IsToldOf c.args.program.now (state_of c.args.running.now) (event_with_texts c.args.program.now (state_of c.args.running.now) c.args.thread)
told g c =
    let s : Kept = state_of c.args.running.now in
    c.events_are_told.ensures c.args.program.now s c.args.thread c.requires.sound.state (unended_thread s.guest c.args.thread c.requires.thread) c.requires.sound.runnable

pub returns-clause-clock : goal.returns-clause-clock
returns-clause-clock g c =
    let p = c.args.program.now in
    let s : Kept = state_of c.args.running.now in
    if_ok c.turn_event.result _ _ c.turn_event.ensures.event (λ end h. ticks p (event_with_texts p s c.args.thread) end c.args.running.now.machine c.turn_event.new.running.machine c.args.running.now.texts c.turn_event.new.running.texts c.args.out.now.records c.turn_event.new.out.records (told g c) h)

pub returns-clause-named : goal.returns-clause-named
returns-clause-named g c =
    let p = c.args.program.now in
    let s : Kept = state_of c.args.running.now in
    on_ok c.turn_event.result _ _ c.turn_event.ensures.event (λ end h. named p (event_with_texts p s c.args.thread) end c.args.running.now.machine c.turn_event.new.running.machine c.args.running.now.texts c.turn_event.new.running.texts c.args.out.now.records c.turn_event.new.out.records (told g c) h)

pub returns-clause-waited : goal.returns-clause-waited
returns-clause-waited g c =
    let p = c.args.program.now in
    let s : Kept = state_of c.args.running.now in
    let keeps : KeepsMonitors (record { program = p; before = s; thread = c.args.thread }) (event_with_texts p s c.args.thread) = c.events_keep_monitors.ensures p s c.args.thread c.requires.sound.state (unended_thread s.guest c.args.thread c.requires.thread) c.requires.sound.runnable in
    if_ok c.turn_event.result _ _ c.turn_event.ensures.event (λ end h is. has_waited p s (state_of c.turn_event.new.running) c.args.thread (event_with_texts p s c.args.thread) end c.args.out.now.records c.turn_event.new.out.records refl keeps
    (answers (event_with_texts p s c.args.thread) end c.args.running.now.machine c.turn_event.new.running.machine c.args.running.now.texts c.turn_event.new.running.texts c.args.out.now.records c.turn_event.new.out.records h) is)
