use Rattle.et_event.specs.Moments.{begins}
use Rattle.et_event.specs.Monitors.{left_some}
use Rattle.et_state.specs.State.{kept_of}
use Rattle.et_event.specs.Locks.{locks_of}
use Rattle.et_calls.proofs.Leaving.{begun_left}
use Rattle.et_calls.proofs.returns.begin_return.Goals as goal

pub returns-clause-came : goal.returns-clause-came
returns-clause-came g c = λ e before.
    let m = c.args.machine.now in
    let lock = locks_of c.args.lock.now in
    c.finish_class.ensures.came (kept_of m) (left_some lock (begins e))
    (begun_left e m c.begin_event.new.self c.leave_some.new.machine lock before c.requires.sound c.requires.lock c.begin_event.ensures c.leave_some.ensures.new).came
