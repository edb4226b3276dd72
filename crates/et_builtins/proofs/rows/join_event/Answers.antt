use Rattle.std.proofs.Common.{[], refl, sym, ◌∙◌}
use Rattle.et_state.specs.Threads.{thread_with}
use Rattle.et_state.proofs.Steps.{waited_led}
use Rattle.et_state.specs.declared.ends.EventEnd.TheVariants as ends
use Rattle.et_event.specs.BuiltIns.{answering, has_thread_ended}
use Rattle.et_event.specs.Calls.{arguments_of}
use Rattle.et_event.specs.Moments.{moment, begins, goes}
use Rattle.et_builtins.proofs.Selected.{joined_answers, waiting_answers}
use Rattle.et_builtins.proofs.rows.join_event.Goals as goal

pub returns-then-has_ended : goal.returns-then-has_ended
returns-then-has_ended c = λ p at out same.
    let m = c.args.machine.now in
    let e = moment p m c.args.call.now.thread in
    joined_answers e (has_thread_ended (begins e) (thread_with m.guest.threads c.args.object)) (goes (answering e at (arguments_of e c.args.call.now.count) [] (begins e))) c.give_nothing.result m c.give_nothing.new.machine out out
    (sym (c.has_ended.ensures p c.args.call.now.thread) ∙ c.if-has_ended.true) (c.give_nothing.ensures p at out same)

pub returns : goal.returns
returns c = λ p at out same.
    let m = c.args.machine.now in
    let e = moment p m c.args.call.now.thread in
    waiting_answers e (has_thread_ended (begins e) (thread_with m.guest.threads c.args.object)) (goes (answering e at (arguments_of e c.args.call.now.count) [] (begins e))) ends.Waited m c.begin_event.new.self out out
    (sym (c.has_ended.ensures p c.args.call.now.thread) ∙ c.if-has_ended.false) (waited_led m c.begin_event.new.self c.requires.calls.sound c.begin_event.ensures, refl)
