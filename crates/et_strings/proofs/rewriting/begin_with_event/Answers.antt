use Rattle.std.proofs.Common.{◌≡◌, ℕ, List, [], None, arith, length, refl, sym, ap, subst, ◌∙◌}
use Rattle.et_base.specs.declared.value.Value.{Value}
use Rattle.et_base.specs.declared.value.Value.TheVariants.{Unset, Int, Long, LongHigh, Null, Ref}
use Rattle.et_event.specs.Answered.{TextAnswers}
use Rattle.et_event.specs.Calls.{arguments_of}
use Rattle.et_event.specs.Moments.{begins}
use Rattle.et_event.specs.declared.errors.GuestError.TheVariants.{NullPointerException}
use Rattle.et_heap.specs.Objects.{referent_of}
use Rattle.et_event.proofs.Answering.{if_ok}
use Rattle.et_state.specs.Outcome.{Outcome}
use Rattle.et_state.specs.Spoken.{text_of}
use Rattle.et_state.specs.State.{Kept}
use Rattle.et_state.specs.Texts.{with_text}
use Rattle.et_strings.specs.Calls.{text_moment}
use Rattle.et_strings.proofs.Answering.{thrown-beside}
use Rattle.et_strings.proofs.RowAnswers.{begun-null, begun-with, rewritten}
use Rattle.et_strings.proofs.rewriting.begin_with_event.Goals as goal

no_reference : (v : Value) → ((o : ℕ) → v ≡ Ref o → ⊥) → referent_of v ≡ None
no_reference Unset not = refl
no_reference (Int n) not = refl
no_reference (Long n) not = refl
no_reference LongHigh not = refl
no_reference Null not = refl
no_reference (Ref o) not = absurd (not o refl)

pub returns-in_default : goal.returns-in_default
returns-in_default c =
    let e = text_moment c.args.program.now c.args.machine.now c.args.texts.now c.args.call.now.called.thread in
    let arguments = arguments_of e c.args.call.now.called.count in
    let none = ap referent_of (sym c.requires.answers.call.argument) ∙ no_reference c.args.call.now.argument c.in_default.not-Ref in
    if_ok c.throw_error.result
    (λ end h at same. subst (λ (k : Outcome Kept). TextAnswers k end c.args.machine.now c.throw_error.new.machine c.args.texts.now c.args.texts.now c.args.out.now c.throw_error.new.out)
    (sym (begun-null e at (begins e) arguments c.args.call.now.object none))
    (thrown-beside c.args.program.now c.args.machine.now c.throw_error.new.machine c.args.texts.now c.args.call.now.called.thread NullPointerException end c.args.out.now c.throw_error.new.out c.requires.answers.machine.silent h))
    c.throw_error.ensures.ok

pub returns : goal.returns
returns c = λ at same.
    let e = text_moment c.args.program.now c.args.machine.now c.args.texts.now c.args.call.now.called.thread in
    let o = c.args.call.now.object in
    let units : List ℕ = c.in_ok-units.units.items in
    let text : units ≡ text_of e.before c.in-Ref.string = c.in_ok-units.ensures ∙ c.text_at.ensures.value in
    rewritten c.args.program.now c.args.machine.now c.give_nothing.new.machine c.args.texts.now c.set.new.self c.args.call.now.called.thread c.args.call.now.called.count o (text_of e.before c.in-Ref.string) at [] c.give_nothing.result c.args.out.now _
    (begun-with e at (begins e) (arguments_of e c.args.call.now.called.count) o c.in-Ref.string (sym c.requires.answers.call.argument ∙ c.in-Ref.is))
    c.requires.answers.machine.silent c.requires.answers.machine.fits
    (omega (arith, c.text_at.ensures.short, ap length c.text_at.ensures.value))
    (omega (arith, c.units_with.ensures (text_of e.before c.in-Ref.string) (omega (arith, ap length text, c.len.ensures)), c.if-units_with-gt-MOST.false))
    (c.in_ok-set.ensures ∙ ap (λ (u : List ℕ). with_text o u c.args.texts.now) text)
    (c.give_nothing.ensures c.args.program.now at c.args.out.now same)
