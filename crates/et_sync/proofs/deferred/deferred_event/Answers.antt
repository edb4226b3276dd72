use Rattle.std.proofs.Common.{sym, subst}
use Rattle.et_state.specs.Outcome.{Outcome}
use Rattle.et_state.specs.State.{Kept}
use Rattle.et_event.specs.Answered.{EventAnswers}
use Rattle.et_event.specs.Moments.{moment}
use Rattle.et_event.proofs.Answering.{if_ok}
use Rattle.et_sync.proofs.DeferredCalls.{invoke_is}
use Rattle.et_sync.proofs.deferred.deferred_event.Goals as goal

pub returns-clause-event : goal.returns-clause-event
returns-clause-event g c =
    let e = moment c.args.program.now c.args.machine.now c.args.thread in
    let at = c.args.place.now.site in
    if_ok c.built_in_method_event.result
    (λ end a. subst (λ (o : Outcome Kept). EventAnswers o end c.args.machine.now c.built_in_method_event.new.machine c.args.out.now c.built_in_method_event.new.out)
    (sym (invoke_is e at c.args.kind c.invoke_plan.result c.in-Enters.method c.in-Enters.count c.invoke_plan.ensures.deferred c.requires.deferred c.in-Enters.is c.invoke_plan.ensures.plan c.in-Enters.ensures.within.1))
    (a at (sym c.next.ensures)))
    c.built_in_method_event.ensures.ok
