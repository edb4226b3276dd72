use Rattle.std.proofs.Common.{[], inl, inr, refl, sym, ◌∙◌, ap, subst}
use Rattle.et_base.specs.declared.value.Value.{Value}
use Rattle.et_heap.specs.Objects.{referent_of}
use Rattle.et_event.specs.Answered.{EventAnswers}
use Rattle.et_event.specs.BuiltIns.{argument}
use Rattle.et_event.specs.Calls.{arguments_of}
use Rattle.et_event.specs.Moments.{moment, goes, slot_written}
use Rattle.et_event.proofs.Answering.{if_ok, ill_typed_answers}
use Rattle.et_builtins.specs.Calling.{answered}
use Rattle.et_builtins.proofs.Selected.{done_by, made_by, unfit_answers}
use Rattle.et_builtins.proofs.rows.row_event.Goals as goal

pub returns-then-not-is_fit-clause-ok : goal.returns-then-not-is_fit-clause-ok
returns-then-not-is_fit-clause-ok g c = λ at same.
    let m = c.args.machine.now in
    let e = moment c.args.program.now m c.args.call.now.thread in
    unfit_answers e at (arguments_of e c.args.call.now.count) c.args.object c.args.built_in c.ill_typed.result m m c.args.out.now c.args.out.now
    (sym (c.is_fit.ensures.value c.args.call.now.thread) ∙ c.if-not-is_fit.true) (ill_typed_answers c.args.program.now c.args.call.now.thread m m c.args.out.now c.ill_typed.result refl c.ill_typed.ensures)

pub returns-in-Nothing-clause-ok : goal.returns-in-Nothing-clause-ok
returns-in-Nothing-clause-ok g c = λ at same.
    done_by c.args.program.now c.args.machine.now c.give_nothing.new.machine c.args.call.now at c.args.object _ _ c.give_nothing.result c.args.out.now c.args.out.now (sym (c.is_fit.ensures.value c.args.call.now.thread) ∙ c.if-not-is_fit.false) c.in-Nothing.is (c.give_nothing.ensures c.args.program.now at c.args.out.now same)

pub returns-in-GetMessage-clause-ok : goal.returns-in-GetMessage-clause-ok
returns-in-GetMessage-clause-ok g c = λ at same.
    done_by c.args.program.now c.args.machine.now c.give_slot.new.machine c.args.call.now at c.args.object _ _ c.give_slot.result c.args.out.now c.args.out.now (sym (c.is_fit.ensures.value c.args.call.now.thread) ∙ c.if-not-is_fit.false) c.in-GetMessage.is (c.give_slot.ensures.ok c.args.program.now at c.args.out.now same)

pub returns-in-GetCause-clause-ok : goal.returns-in-GetCause-clause-ok
returns-in-GetCause-clause-ok g c = λ at same.
    done_by c.args.program.now c.args.machine.now c.give_slot-in-GetCause.new.machine c.args.call.now at c.args.object _ _ c.give_slot-in-GetCause.result c.args.out.now c.args.out.now (sym (c.is_fit.ensures.value c.args.call.now.thread) ∙ c.if-not-is_fit.false) c.in-GetCause.is (c.give_slot-in-GetCause.ensures.ok c.args.program.now at c.args.out.now same)

pub returns-in-Join-clause-ok : goal.returns-in-Join-clause-ok
returns-in-Join-clause-ok g c = λ at same.
    done_by c.args.program.now c.args.machine.now c.join_event.new.machine c.args.call.now at c.args.object _ _ c.join_event.result c.args.out.now c.args.out.now (sym (c.is_fit.ensures.value c.args.call.now.thread) ∙ c.if-not-is_fit.false) c.in-Join.is (c.join_event.ensures c.args.program.now at c.args.out.now same)

pub returns-in-GetReferent-clause-ok : goal.returns-in-GetReferent-clause-ok
returns-in-GetReferent-clause-ok g c = λ at same.
    done_by c.args.program.now c.args.machine.now c.give_referent.new.machine c.args.call.now at c.args.object _ _ c.give_referent.result c.args.out.now c.args.out.now (sym (c.is_fit.ensures.value c.args.call.now.thread) ∙ c.if-not-is_fit.false) c.in-GetReferent.is (c.give_referent.ensures.ok c.args.program.now at c.args.out.now same)

pub returns-in-ClearReferent-clause-ok : goal.returns-in-ClearReferent-clause-ok
returns-in-ClearReferent-clause-ok g c = λ at same.
    done_by c.args.program.now c.args.machine.now c.clear_referent.new.machine c.args.call.now at c.args.object _ _ c.clear_referent.result c.args.out.now c.args.out.now (sym (c.is_fit.ensures.value c.args.call.now.thread) ∙ c.if-not-is_fit.false) c.in-ClearReferent.is (c.clear_referent.ensures.ok c.args.program.now at c.args.out.now same)

pub returns-in-Poll-clause-ok : goal.returns-in-Poll-clause-ok
returns-in-Poll-clause-ok g c = λ at same.
    done_by c.args.program.now c.args.machine.now c.give_first.new.machine c.args.call.now at c.args.object _ _ c.give_first.result c.args.out.now c.args.out.now (sym (c.is_fit.ensures.value c.args.call.now.thread) ∙ c.if-not-is_fit.false) c.in-Poll.is (c.give_first.ensures.ok c.args.program.now at c.args.out.now same)

-- what the arguments are is said of them where they were read

pub returns-in-SetReferent-clause-ok : goal.returns-in-SetReferent-clause-ok
returns-in-SetReferent-clause-ok g c = λ at same.
    let p = c.args.program.now in
    let made = c.make_reference.ensures.ok p at c.args.out.now same in
    done_by p c.args.machine.now c.make_reference.new.machine c.args.call.now at c.args.object _ _ c.make_reference.result c.args.out.now c.args.out.now (sym (c.is_fit.ensures.value c.args.call.now.thread) ∙ c.if-not-is_fit.false) c.in-SetReferent.is
    (made_by p c.args.machine.now c.make_reference.new.machine c.args.call.now at c.args.object c.make_reference.result c.args.out.now _ _ _ _ (ap referent_of c.argument_at-value.ensures.value) refl made)

pub returns-in-SetReferentAndQueue-clause-ok : goal.returns-in-SetReferentAndQueue-clause-ok
returns-in-SetReferentAndQueue-clause-ok g c = λ at same.
    let p = c.args.program.now in
    let m' = c.make_reference-in-SetReferentAndQueue.new.machine in
    let end = c.make_reference-in-SetReferentAndQueue.result in
    done_by p c.args.machine.now m' c.args.call.now at c.args.object _ _ end c.args.out.now c.args.out.now (sym (c.is_fit.ensures.value c.args.call.now.thread) ∙ c.if-not-is_fit.false) c.in-SetReferentAndQueue.is
    (made_by p c.args.machine.now m' c.args.call.now at c.args.object end c.args.out.now _ _ _ _ (ap referent_of c.argument_at-value.ensures.value) (ap referent_of c.argument_at-queue.ensures.value) (c.make_reference-in-SetReferentAndQueue.ensures.ok p at c.args.out.now same))

pub returns-in-SetMessageAndCause-clause-ok : goal.returns-in-SetMessageAndCause-clause-ok
returns-in-SetMessageAndCause-clause-ok g c =
    let m = c.args.machine.now in
    let p = c.args.program.now in
    let e = moment p m c.args.call.now.thread in
    let args = arguments_of e c.args.call.now.count in
    let o = c.args.object in
    let m' = c.write_two.new.machine in
    if_ok c.write_two.result
    (λ end a at same. done_by p m m' c.args.call.now at o _ _ end c.args.out.now c.write_two.new.out (sym (c.is_fit.ensures.value c.args.call.now.thread) ∙ c.if-not-is_fit.false) c.in-SetMessageAndCause.is
    (subst (λ (w : Value). EventAnswers (goes (slot_written e o 1 w (slot_written e o 0 (argument args 1) (answered p m c.args.call.now at [])))) end m m' c.args.out.now c.write_two.new.out) c.argument_at-cause.ensures.value
    (subst (λ (v : Value). EventAnswers (goes (slot_written e o 1 c.argument_at-cause.result (slot_written e o 0 v (answered p m c.args.call.now at [])))) end m m' c.args.out.now c.write_two.new.out) c.argument_at-value.ensures.value (a p at same))))
    c.write_two.ensures.ok

pub returns-in-SetMessage-clause-ok : goal.returns-in-SetMessage-clause-ok
returns-in-SetMessage-clause-ok g c =
    let m = c.args.machine.now in
    let p = c.args.program.now in
    let e = moment p m c.args.call.now.thread in
    let m' = c.write_one.new.machine in
    let fit = sym (c.is_fit.ensures.value c.args.call.now.thread) ∙ c.if-not-is_fit.false in
    if_ok c.write_one.result
    (λ end a at same.
    let wrote = subst (λ (v : Value). EventAnswers (goes (slot_written e c.args.object 0 v (answered p m c.args.call.now at []))) end m m' c.args.out.now c.write_one.new.out) c.argument_at-value.ensures.value (a p at same) in
    elim c.in-SetMessage.is [
      | inl is ↦ done_by p m m' c.args.call.now at c.args.object _ _ end c.args.out.now c.write_one.new.out fit is wrote
      | inr is ↦ done_by p m m' c.args.call.now at c.args.object _ _ end c.args.out.now c.write_one.new.out fit is wrote
    ])
    c.write_one.ensures.ok

-- A THREAD

pub returns-in-Start-clause-ok : goal.returns-in-Start-clause-ok
returns-in-Start-clause-ok g c =
    if_ok c.start_event.result
    (λ end a at same. done_by c.args.program.now c.args.machine.now c.start_event.new.machine c.args.call.now at c.args.object _ _ end c.args.out.now c.start_event.new.out (sym (c.is_fit.ensures.value c.args.call.now.thread) ∙ c.if-not-is_fit.false) c.in-Start.is (a at same))
    c.start_event.ensures
