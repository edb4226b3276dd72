use Rattle.std.proofs.Common.{length, sym, ◌∙◌}
use Rattle.et_heap.specs.Objects.{object_at}
use Rattle.et_event.specs.Moments.{moment, begins}
use Rattle.et_builtins.proofs.Slots.{other_fit, other_used, thread_fit, thread_slots, thread_used, throwable_fit, throwable_slots, throwable_used}
use Rattle.et_builtins.proofs.rows.is_fit.Goals as goal

pub returns-then-uses_throwable-clause-value : goal.returns-then-uses_throwable-clause-value
returns-then-uses_throwable-clause-value g c = λ t.
    let e = moment c.args.program.now c.args.machine.now t in
    c.is_of.ensures.value t ∙ sym (throwable_fit e (begins e) c.args.object c.args.built_in (sym c.uses_throwable.ensures ∙ c.if-uses_throwable.true))

pub returns-then-uses_throwable-clause-slots : goal.returns-then-uses_throwable-clause-slots
returns-then-uses_throwable-clause-slots g c = λ h.
    throwable_used c.args.built_in (length (object_at c.args.machine.now.heap c.args.object).slots) (sym c.uses_throwable.ensures ∙ c.if-uses_throwable.true)
    (throwable_slots c.args.program.now c.args.machine.now c.args.object c.requires.sound c.requires.slots c.requires.held (sym (c.is_of.ensures.value 0) ∙ h))

pub returns-then-uses_thread-clause-value : goal.returns-then-uses_thread-clause-value
returns-then-uses_thread-clause-value g c = λ t.
    let e = moment c.args.program.now c.args.machine.now t in
    c.is_of-then-uses_thread.ensures.value t ∙ sym (thread_fit e (begins e) c.args.object c.args.built_in (sym c.uses_throwable.ensures ∙ c.if-uses_throwable.false) (sym c.uses_thread.ensures ∙ c.if-uses_thread.true))

pub returns-then-uses_thread-clause-slots : goal.returns-then-uses_thread-clause-slots
returns-then-uses_thread-clause-slots g c = λ h.
    thread_used c.args.built_in (length (object_at c.args.machine.now.heap c.args.object).slots) (sym c.uses_thread.ensures ∙ c.if-uses_thread.true)
    (thread_slots c.args.program.now c.args.machine.now c.args.object c.requires.sound c.requires.slots c.requires.held (sym (c.is_of-then-uses_thread.ensures.value 0) ∙ h))

pub returns-clause-value : goal.returns-clause-value
returns-clause-value g c = λ t.
    let e = moment c.args.program.now c.args.machine.now t in
    sym (other_fit e (begins e) c.args.object c.args.built_in (sym c.uses_throwable.ensures ∙ c.if-uses_throwable.false) (sym c.uses_thread.ensures ∙ c.if-uses_thread.false))

pub returns-clause-slots : goal.returns-clause-slots
returns-clause-slots g c = λ h.
    other_used c.args.built_in (length (object_at c.args.machine.now.heap c.args.object).slots) (sym c.uses_throwable.ensures ∙ c.if-uses_throwable.false) (sym c.uses_thread.ensures ∙ c.if-uses_thread.false)
