use Rattle.std.proofs.Common.{◌≡◌, ℕ, [], ◌∷◌, length, Some, None, refl, sym, ◌∙◌, ap, subst}
use Rattle.std.specs.List.{list_all}
use Rattle.et_class.specs.Names.{has}
use Rattle.et_class.specs.declared.flags.TheConstants.{NATIVE}
use Rattle.et_program.specs.Entries.{method_at}
use Rattle.et_program.specs.declared.info.MethodInfo.{MethodInfo}
use Rattle.et_state.specs.Outcome.{Outcome}
use Rattle.et_state.specs.Words.{class_state_at}
use Rattle.et_state.specs.State.{Kept}
use Rattle.et_event.specs.declared.errors.GuestError.{GuestError}
use Rattle.et_event.specs.Answered.{EventAnswers}
use Rattle.et_event.specs.Calls.{arguments_of, taking}
use Rattle.et_event.specs.Frames.{enters_code}
use Rattle.et_event.specs.Initialization.{is_ready, prepared}
use Rattle.et_event.specs.Moments.{moment, begins, throws}
use Rattle.et_event.proofs.Answering.{if_ok}
use Rattle.et_builtins.proofs.ByCode.{code_called}
use Rattle.et_calls.proofs.CalledByCode.{error_by, none_called, one_ready, one_within}
use Rattle.et_initialize.specs.Needs.{need_of}
use Rattle.et_calls.proofs.Initial.{begins_answers, loud_need, quiet_answers, quiet_need}
use Rattle.et_calls.proofs.called.initialize_event.Goals as goal

pub enter_code-requires : goal.enter_code-requires
enter_code-requires g c =
    let p = c.args.program.now in
    let e = moment p c.args.machine.now c.args.thread in
    let class : c.method-info.result.now.class ≡ (method_at p c.args.call.method).class = ap (λ (i : MethodInfo). i.class) c.method-info.ensures.value in
    record {
      enters = record {
        order = c.requires.invoke.order;
        sound = c.requires.invoke.sound;
        clock = c.requires.invoke.clock;
        entered = record {
          info = c.method-info.ensures.value;
          class = c.method-info.ensures.class;
          passed = (c.requires.invoke.frame, c.requires.plan.1);
          classes = one_within c.method-info.result.now.class (length p.classes) c.method-info.ensures.class;
          ready = ap (λ (k : ℕ). list_all (is_ready e (begins e)) (k ∷ [])) class ∙ one_ready e (method_at p c.args.call.method).class (begins e) c.requires.plan.2 (quiet_need e (method_at p c.args.call.method).class c.need_of.result c.requires.plan.2 (c.need_of.ensures ∙ ap (λ (i : MethodInfo). need_of e (begins e) i.class) c.method-info.ensures.value) c.in-Quiet.is);
        };
      };
    }

pub throw_after-requires : goal.throw_after-requires
throw_after-requires g c =
    let p = c.args.program.now in
    let e = moment p c.args.machine.now c.args.thread in
    let class : c.method-info.result.now.class ≡ (method_at p c.args.call.method).class = ap (λ (i : MethodInfo). i.class) c.method-info.ensures.value in
    record {
      goes = record {
        prepares = record { order = c.requires.invoke.order; classes = one_within c.method-info.result.now.class (length p.classes) c.method-info.ensures.class; sound = c.requires.invoke.sound; clock = c.requires.invoke.clock };
        frame = c.requires.invoke.frame;
        ready = ap (λ (k : ℕ). list_all (is_ready e (begins e)) (k ∷ [])) class ∙ one_ready e (method_at p c.args.call.method).class (begins e) c.requires.plan.2 (quiet_need e (method_at p c.args.call.method).class c.need_of.result c.requires.plan.2 (c.need_of.ensures ∙ ap (λ (i : MethodInfo). need_of e (begins e) i.class) c.method-info.ensures.value) c.in-Quiet.is);
      };
    }

pub returns-in-Some-clause-ok : goal.returns-in-Some-clause-ok
returns-in-Some-clause-ok g c =
    let p = c.args.program.now in
    let m = c.args.machine.now in
    let e = moment p m c.args.thread in
    let call = c.args.call in
    let class : c.method-info.result.now.class ≡ (method_at p call.method).class = ap (λ (i : MethodInfo). i.class) c.method-info.ensures.value in
    let code : (method_at p call.method).code ≡ Some c.in-Some.code = ap (λ (i : MethodInfo). i.code) (sym c.method-info.ensures.value) ∙ c.in-Some.is in
    if_ok c.enter_code.result
    (λ end a at. quiet_answers e at call.method call.count (method_at p call.method).class end m c.enter_code.new.machine c.args.out.now c.enter_code.new.out refl c.requires.plan.2 (quiet_need e (method_at p c.args.call.method).class c.need_of.result c.requires.plan.2 (c.need_of.ensures ∙ ap (λ (i : MethodInfo). need_of e (begins e) i.class) c.method-info.ensures.value) c.in-Quiet.is)
    (subst (λ (o : Outcome Kept). EventAnswers o end m c.enter_code.new.machine c.args.out.now c.enter_code.new.out)
    (ap (λ (k : ℕ). enters_code e (prepared e (k ∷ []) (begins e)) (taking e call.count) call.method (arguments_of e call.count) c.in-Some.code) class
    ∙ sym (code_called e at (prepared e ((method_at p call.method).class ∷ []) (begins e)) call.count call.method c.in-Some.code c.requires.plan.1 code)) a))
    c.enter_code.ensures.ok

pub returns-in-None-clause-ok : goal.returns-in-None-clause-ok
returns-in-None-clause-ok g c =
    let p = c.args.program.now in
    let m = c.args.machine.now in
    let e = moment p m c.args.thread in
    let call = c.args.call in
    let class : c.method-info.result.now.class ≡ (method_at p call.method).class = ap (λ (i : MethodInfo). i.class) c.method-info.ensures.value in
    let d = prepared e ((method_at p call.method).class ∷ []) (begins e) in
    let code : (method_at p call.method).code ≡ None = ap (λ (i : MethodInfo). i.code) (sym c.method-info.ensures.value) ∙ c.in-None.is in
    let error : c.codeless_error-error.result ≡ error_by (has (method_at p call.method).flags NATIVE) = c.codeless_error-error.ensures ∙ ap (λ (i : MethodInfo). error_by (has i.flags NATIVE)) c.method-info.ensures.value in
    if_ok c.throw_after.result
    (λ end a at. quiet_answers e at call.method call.count (method_at p call.method).class end m c.throw_after.new.machine c.args.out.now c.throw_after.new.out refl c.requires.plan.2 (quiet_need e (method_at p c.args.call.method).class c.need_of.result c.requires.plan.2 (c.need_of.ensures ∙ ap (λ (i : MethodInfo). need_of e (begins e) i.class) c.method-info.ensures.value) c.in-Quiet.is)
    (subst (λ (o : Outcome Kept). EventAnswers o end m c.throw_after.new.machine c.args.out.now c.throw_after.new.out)
    (ap (λ (k : ℕ). throws e c.codeless_error-error.result (prepared e (k ∷ []) (begins e))) class
    ∙ (ap (λ (x : GuestError). throws e x d) error ∙ sym (none_called e at d call.count call.method c.requires.plan.1 c.requires.invoke.methods c.requires.plan.0 c.requires.plan.3 code))) a))
    c.throw_after.ensures

-- where the class is not quiet

pub begin_class_event-requires-clause-untouched : goal.begin_class_event-requires-clause-untouched
begin_class_event-requires-clause-untouched g c =
    ap (λ (i : MethodInfo). class_state_at c.args.machine.now.guest i.class) c.method-info.ensures.value ∙ c.requires.plan.2

pub returns-in_default-clause-ok : goal.returns-in_default-clause-ok
returns-in_default-clause-ok g c =
    let p = c.args.program.now in
    let m = c.args.machine.now in
    let e = moment p m c.args.thread in
    let call = c.args.call in
    let class : c.method-info.result.now.class ≡ (method_at p call.method).class = ap (λ (i : MethodInfo). i.class) c.method-info.ensures.value in
    if_ok c.begin_class_event.result
    (λ end a at. begins_answers e at call.method call.count c.method-info.result.now.class end m c.begin_class_event.new.machine c.args.out.now c.begin_class_event.new.out class c.requires.plan.2
    (loud_need e (method_at p call.method).class c.need_of.result c.requires.plan.2 (c.need_of.ensures ∙ ap (λ (k : ℕ). need_of e (begins e) k) class) c.in_default.not-Quiet) a)
    c.begin_class_event.ensures
