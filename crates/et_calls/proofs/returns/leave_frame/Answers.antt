use Rattle.std.proofs.Common.{◌≡◌, ◌+◌, [], ◌∷◌, ◌++◌, ◌∙◌, refl, sym, ap, subst, rules}
use Rattle.std.specs.Prelude.{unwrap_or}
use Rattle.et_state.specs.declared.stage.Stage.{Stage}
use Rattle.et_state.specs.State.{kept_of}
use Rattle.et_state.specs.Words.{top}
use Rattle.et_state.specs.declared.records.Record.{Record}
use Rattle.et_state.specs.declared.records.Record.TheVariants.{Exit}
use Rattle.et_event.specs.Calls.{class_done_by}
use Rattle.et_event.specs.Moments.{moment, begins}
use Rattle.et_event.specs.Monitors.{left_some}
use Rattle.et_event.specs.Locks.{locks_of}
use Rattle.et_calls.specs.Ways.{Came}
use Rattle.et_calls.proofs.Leaving.{frame_left}
use Rattle.et_calls.proofs.returns.leave_frame.Goals as goal

pub returns-clause-ok : goal.returns-clause-ok
returns-clause-ok g c =
    let p = c.args.program.now in
    let t = c.args.thread in
    let m = c.args.machine.now in
    let e = moment p m t in
    let lock = locks_of c.args.lock.now in
    let came = c.begin_return.ensures.came e refl in
    let here : Came (kept_of m) (class_done_by (top m.guest t).stage (left_some lock (begins e))) c.begin_return.new.machine = subst (λ (stage : Stage). Came (kept_of m) (class_done_by stage (left_some lock (begins e))) c.begin_return.new.machine) c.stage-stage.ensures came in
    let told : Exit (c.clock.result + 1) c.number.result c.unwrap_or.result ≡ Exit (m.guest.clock + 1) t (unwrap_or (top m.guest t).method 0) = search rules in
    frame_left p t c.args.value lock m c.begin_return.new.machine c.drop_returned.new.machine c.args.out.now c.push.new.self c.requires.frame c.requires.there (sym c.requires.held) here c.begin_return.ensures.threads c.drop_returned.ensures (c.in_ok-push.ensures.ok ∙ ap (λ (r : Record). c.args.out.now ++ r ∷ []) told)
