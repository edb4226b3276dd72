use Rattle.std.proofs.Common.{sym, ◌∙◌, arith}
use Rattle.et_history.proofs.Unended.{unended_thread}
use Rattle.et_run.proofs.Flushing.{machine_sound}
use Rattle.et_run.proofs.QuietFrames.{ran_on, ran_quietly, ran_soundly}
use Rattle.et_run.proofs.stretches.frame_stretch.Goals as goal

pub turn-requires : goal.turn-requires
turn-requires g c = (unended_thread c.args.running.now.machine.guest c.args.thread c.requires.thread).thread

pub lifted_events-requires-clause-sound : goal.lifted_events-requires-clause-sound
lifted_events-requires-clause-sound g c = machine_sound c.args.program.now c.args.running.now.texts c.args.running.now.machine c.has_no_texts.ensures c.requires.sound.state

pub lifted_events-requires-clause-thread : goal.lifted_events-requires-clause-thread
lifted_events-requires-clause-thread g c = unended_thread c.args.running.now.machine.guest c.args.thread c.requires.thread

pub lifted_events-requires-clause-places : goal.lifted_events-requires-clause-places
lifted_events-requires-clause-places g c = omega (arith, c.requires.stamps.places, c.requires.sound.state.held.room)

pub returns-in-Instruction-clause-quiet : goal.returns-in-Instruction-clause-quiet
returns-in-Instruction-clause-quiet g c =
    ran_quietly c.args.program.now c.args.running.now.machine c.lifted_events.new.machine c.args.running.now.texts c.args.thread c.lifted_events.result c.args.stamps.now c.lifted_events.new.stamps c.requires.sound
    (unended_thread c.args.running.now.machine.guest c.args.thread c.requires.thread) (sym c.turn.ensures ∙ c.in-Instruction.is) (omega (arith, c.requires.clock, c.lifted_events.ensures.few)) c.lifted_events.ensures.runs c.events_lead_to_sound_states.ensures c.texts_stay_sound.ensures

pub returns-in-Instruction-clause-sound : goal.returns-in-Instruction-clause-sound
returns-in-Instruction-clause-sound g c =
    ran_soundly c.args.program.now c.args.running.now.machine c.lifted_events.new.machine c.args.running.now.texts c.args.thread c.lifted_events.result c.args.stamps.now c.lifted_events.new.stamps c.requires.sound
    (unended_thread c.args.running.now.machine.guest c.args.thread c.requires.thread) (sym c.turn.ensures ∙ c.in-Instruction.is) (omega (arith, c.requires.clock, c.lifted_events.ensures.few)) c.lifted_events.ensures.runs c.events_lead_to_sound_states.ensures c.texts_stay_sound.ensures

pub returns-in-Instruction-clause-clock : goal.returns-in-Instruction-clause-clock
returns-in-Instruction-clause-clock g c =
    ran_on c.args.program.now c.args.running.now.machine c.lifted_events.new.machine c.args.running.now.texts c.args.thread c.lifted_events.result c.args.stamps.now c.lifted_events.new.stamps c.requires.sound
    (unended_thread c.args.running.now.machine.guest c.args.thread c.requires.thread) (sym c.turn.ensures ∙ c.in-Instruction.is) (omega (arith, c.requires.clock, c.lifted_events.ensures.few)) c.lifted_events.ensures.runs c.events_lead_to_sound_states.ensures c.texts_stay_sound.ensures
