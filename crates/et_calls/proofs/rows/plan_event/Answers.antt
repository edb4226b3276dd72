use Rattle.et_builtins.specs.declared.plans.CallPlan.TheVariants.{Waits, Initializes, Enters}
use Rattle.et_event.specs.Moments.{moment}
use Rattle.et_event.proofs.Answering.{if_ok}
use Rattle.et_calls.proofs.Initial.{plan_answers}
use Rattle.et_calls.proofs.rows.plan_event.Goals as goal

pub returns-in-Waits-clause-ok : goal.returns-in-Waits-clause-ok
returns-in-Waits-clause-ok g c = λ at next.
    let e = moment c.args.program.now c.args.machine.now c.args.thread in
    plan_answers e at c.args.planned.plan Waits c.wait_event.result c.args.machine.now c.wait_event.new.machine c.args.out.now c.args.out.now c.in-Waits.is (c.wait_event.ensures c.args.program.now c.args.thread c.args.out.now)

pub returns-in-Initializes-clause-ok : goal.returns-in-Initializes-clause-ok
returns-in-Initializes-clause-ok g c =
    let e = moment c.args.program.now c.args.machine.now c.args.thread in
    if_ok c.initialize_event.result
    (λ end a at next. plan_answers e at c.args.planned.plan (Initializes c.in-Initializes.method c.in-Initializes.count) end c.args.machine.now c.initialize_event.new.machine c.args.out.now c.initialize_event.new.out c.in-Initializes.is (a at))
    c.initialize_event.ensures.ok

pub returns-in-Enters-clause-ok : goal.returns-in-Enters-clause-ok
returns-in-Enters-clause-ok g c =
    let e = moment c.args.program.now c.args.machine.now c.args.thread in
    if_ok c.enter_event.result
    (λ end a at next. plan_answers e at c.args.planned.plan (Enters c.in-Enters.method c.in-Enters.count) end c.args.machine.now c.enter_event.new.machine c.args.out.now c.enter_event.new.out c.in-Enters.is (a at next))
    c.enter_event.ensures.ok
