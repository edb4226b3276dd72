use Rattle.std.proofs.Common.{◌≡◌, ◌<◌, [], length, None, arith, sym, ◌∙◌}
use Rattle.et_state.specs.Threads.{most_threads, thread_with}
use Rattle.et_event.specs.BuiltIns.{answering, with_thread_for}
use Rattle.et_event.specs.Calls.{arguments_of}
use Rattle.et_event.specs.Moments.{moment, begins, goes}
use Rattle.et_event.proofs.Answering.{if_ok}
use Rattle.et_builtins.proofs.Selected.{none_is, started_answers}
use Rattle.et_builtins.proofs.rows.start_event.Goals as goal

pub returns : goal.returns
returns c =
    let m = c.args.machine.now in
    let e = moment c.args.program.now m c.args.call.now.thread in
    let none : thread_with m.guest.threads c.args.object ≡ None = sym c.thread_of.ensures ∙ none_is c.thread_of.result c.is_some.result c.is_some.ensures c.if-is_some.false in
    let few : length m.guest.threads < most_threads = omega (arith, c.started.ensures.value, c.if-started-ge-MOST_THREADS.false) in
    if_ok c.start.result
    (λ end a at same. started_answers e c.args.object (goes (with_thread_for c.args.object (answering e at (arguments_of e c.args.call.now.count) [] (begins e)))) (thread_with m.guest.threads c.args.object) end m c.start.new.machine c.args.out.now c.args.out.now none few (a c.args.program.now at c.args.out.now same))
    c.start.ensures
