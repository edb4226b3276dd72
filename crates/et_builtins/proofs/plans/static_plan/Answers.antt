use Rattle.std.proofs.Common.{refl, sym, ap}
use Rattle.et_program.specs.declared.info.MethodInfo.{MethodInfo}
use Rattle.et_builtins.proofs.plans.static_plan.Goals as goal
use Rattle.et_event.specs.Moments.{moment}

pub returns-clause-plan : goal.returns-clause-plan
returns-clause-plan c = λ at named.
    c.state_plan.ensures.plan (moment c.args.program.now c.args.machine.now c.args.thread) at c.method.result.now.class named refl
    (ap (λ (i : MethodInfo). i.class) (sym c.method.ensures.value)) (sym c.class_state.ensures)
