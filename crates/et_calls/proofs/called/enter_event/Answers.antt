use Rattle.std.proofs.Common.{◌≡◌, true, false, length, Some, None, refl, sym, ◌∙◌, ap, subst}
use Rattle.et_class.specs.Names.{has}
use Rattle.et_class.specs.declared.flags.TheConstants.{NATIVE}
use Rattle.et_program.specs.Entries.{method_at}
use Rattle.et_program.specs.declared.info.MethodInfo.{MethodInfo}
use Rattle.et_state.specs.Outcome.{Outcome}
use Rattle.et_state.specs.State.{Kept}
use Rattle.et_event.specs.Answered.{EventAnswers}
use Rattle.et_event.specs.Moments.{moment, begins}
use Rattle.et_event.proofs.Answering.{if_ok}
use Rattle.et_builtins.proofs.ByCode.{code_called}
use Rattle.et_calls.proofs.CalledByCode.{none_within}
use Rattle.et_calls.proofs.Calling.{native_answers, other_answers}
use Rattle.et_calls.proofs.called.enter_event.Goals as goal

pub enter_code-requires : goal.enter_code-requires
enter_code-requires g c = record {
  enters = record {
    order = c.requires.order;
    sound = c.requires.call.callable.arguments.sound;
    clock = c.requires.call.clock;
    entered = record {
      info = c.method-info.ensures.value;
      class = c.method-info.ensures.class;
      passed = (c.requires.call.callable.arguments.frame, c.requires.call.callable.arguments.operands);
      classes = none_within (length c.args.program.now.classes);
      ready = refl;
    };
  };
}

pub returns-in-Some-clause-ok : goal.returns-in-Some-clause-ok
returns-in-Some-clause-ok g c =
    let p = c.args.program.now in
    let m = c.args.machine.now in
    let e = moment p m c.args.thread in
    let call = c.args.call in
    let code : (method_at p call.method).code ≡ Some c.in-Some.code = ap (λ (i : MethodInfo). i.code) (sym c.method-info.ensures.value) ∙ c.in-Some.is in
    if_ok c.enter_code.result
    (λ end a at same. subst (λ (o : Outcome Kept). EventAnswers o end m c.enter_code.new.machine c.args.out.now c.enter_code.new.out) (sym (code_called e at (begins e) call.count call.method c.in-Some.code c.requires.call.callable.arguments.operands code)) a)
    c.enter_code.ensures.ok

pub returns-in-None-clause-ok : goal.returns-in-None-clause-ok
returns-in-None-clause-ok g c =
    let p = c.args.program.now in
    let call = c.args.call in
    let code : (method_at p call.method).code ≡ None = ap (λ (i : MethodInfo). i.code) (sym c.method-info.ensures.value) ∙ c.in-None.is in
    let native : has (method_at p call.method).flags NATIVE ≡ true = ap (λ (i : MethodInfo). has i.flags NATIVE) (sym c.method-info.ensures.value) ∙ (sym c.has.ensures ∙ c.if-has.true) in
    if_ok c.throw_error.result
    (λ end a at same. native_answers p c.args.thread c.args.machine.now c.throw_error.new.machine c.args.out.now c.throw_error.new.out end at call.count call.method c.requires.call.callable.arguments.operands code native a)
    c.throw_error.ensures.ok

pub returns-in-None-2-clause-ok : goal.returns-in-None-2-clause-ok
returns-in-None-2-clause-ok g c =
    let p = c.args.program.now in
    let call = c.args.call in
    let code : (method_at p call.method).code ≡ None = ap (λ (i : MethodInfo). i.code) (sym c.method-info.ensures.value) ∙ c.in-None.is in
    let other : has (method_at p call.method).flags NATIVE ≡ false = ap (λ (i : MethodInfo). has i.flags NATIVE) (sym c.method-info.ensures.value) ∙ (sym c.has.ensures ∙ c.if-has.false) in
    if_ok c.built_in_method_event.result
    (λ end a at same. other_answers p c.args.thread c.args.machine.now c.built_in_method_event.new.machine c.args.out.now c.built_in_method_event.new.out end at call.count call.method c.requires.call.callable.arguments.operands code other (a at same))
    c.built_in_method_event.ensures.ok
