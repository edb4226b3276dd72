use Rattle.std.proofs.Common.{sym, subst}
use Rattle.et_state.specs.State.{Kept}
use Rattle.et_state.specs.Outcome.{Outcome}
use Rattle.et_event.specs.Answered.{EventAnswers}
use Rattle.et_event.specs.Moments.{moment, begins}
use Rattle.et_refs.specs.Accesses.{access_outcome}
use Rattle.et_initialize.proofs.Needing.{needs_met}
use Rattle.et_refs.proofs.doing.beginning.access_event.Goals as goal

pub returns-in-Waits : goal.returns-in-Waits
returns-in-Waits c =
    let e = moment c.args.program.now c.args.machine.now c.args.thread in
    subst (λ (x : Outcome Kept). EventAnswers x c.wait_event.result c.args.machine.now c.wait_event.new.machine c.args.out.now c.args.out.now)
    (sym (needs_met e (begins e) c.args.wanted.now.class (access_outcome e c.args.place.now.site c.args.wanted.now) c.need_of.result _ c.need_of.ensures c.in-Waits.is))
    (c.wait_event.ensures c.args.program.now c.args.thread c.args.out.now)
