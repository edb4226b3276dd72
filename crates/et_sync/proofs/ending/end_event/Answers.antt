use Rattle.et_sync.proofs.Ended.{unended_later, ended_answers, ended_clock, sound_after}
use Rattle.et_sync.proofs.ending.end_event.Goals as goal

pub end_thread-requires-clause-thread : goal.end_thread-requires-clause-thread
end_thread-requires-clause-thread c = unended_later c.args.machine.now c.begin_event.new.self c.args.thread c.begin_event.ensures c.requires.thread

pub returns-clause-event : goal.returns-clause-event
returns-clause-event c = ended_answers c.args.machine.now c.begin_event.new.self c.end_thread.new.self c.args.thread c.requires.sound c.requires.thread c.requires.turn c.begin_event.ensures c.end_thread.ensures.new

pub returns-clause-sound : goal.returns-clause-sound
returns-clause-sound c = sound_after c.args.machine.now c.begin_event.new.self c.end_thread.new.self c.args.thread c.requires.sound c.requires.clock c.requires.thread c.begin_event.ensures c.end_thread.ensures.new

pub returns-clause-clock : goal.returns-clause-clock
returns-clause-clock c = ended_clock c.args.machine.now c.begin_event.new.self c.end_thread.new.self c.args.thread c.begin_event.ensures c.end_thread.ensures.new
