use Rattle.std.proofs.Common.{rules}
use Rattle.std.specs.Prelude.{IsTrue}
use Rattle.et_history.proofs.Unended.{unended_thread}
use Rattle.et_run.proofs.Flushing.{machine_sound}
use Rattle.et_run.proofs.Waiting.{waited_quietly, waited_soundly}
use Rattle.et_run.proofs.waits.waiting_events.Goals as goal

pub is_at_monitor-requires-clause-sound : goal.is_at_monitor-requires-clause-sound
is_at_monitor-requires-clause-sound c = machine_sound c.args.program.now c.args.running.now.texts c.args.running.now.machine c.has_no_texts.ensures c.requires.sound.state

pub is_at_monitor-requires-clause-thread : goal.is_at_monitor-requires-clause-thread
is_at_monitor-requires-clause-thread c = unended_thread c.args.running.now.machine.guest c.args.thread c.requires.thread

pub returns-in-Waited-clause-quiet : goal.returns-in-Waited-clause-quiet
returns-in-Waited-clause-quiet c =
    let yes : IsTrue c.is_at_monitor.result = search rules in
    waited_quietly c.args.program.now c.args.running.now.machine c.pass_events.new.self c.args.running.now.texts c.args.thread c.args.most c.requires.sound (unended_thread c.args.running.now.machine.guest c.args.thread c.requires.thread)
    (c.is_at_monitor.ensures yes) (c.requires.waited c.in-Waited.is) c.requires.clock c.pass_events.ensures c.events_lead_to_sound_states.ensures c.texts_stay_sound.ensures

pub returns-in-Waited-clause-sound : goal.returns-in-Waited-clause-sound
returns-in-Waited-clause-sound c =
    let yes : IsTrue c.is_at_monitor.result = search rules in
    waited_soundly c.args.program.now c.args.running.now.machine c.pass_events.new.self c.args.running.now.texts c.args.thread c.args.most c.requires.sound (unended_thread c.args.running.now.machine.guest c.args.thread c.requires.thread)
    (c.is_at_monitor.ensures yes) (c.requires.waited c.in-Waited.is) c.requires.clock c.pass_events.ensures c.events_lead_to_sound_states.ensures c.texts_stay_sound.ensures
