use Rattle.std.proofs.Common.{◌≡◌, ℕ, ◌<◌, ◌^◌, List, Some, None, arith, of_z, rules, sym, ap, subst, to_z, ◌∙◌}
use Rattle.std.proofs.lemmas.Int.{to_z_pos}
use Rattle.std.specs.Int.{w32}
use Rattle.et_base.specs.declared.value.Value.TheVariants.{Int}
use Rattle.et_event.specs.Answered.{TextAnswers}
use Rattle.et_event.specs.Calls.{arguments_of}
use Rattle.et_event.specs.Moments.{begins}
use Rattle.et_event.specs.declared.errors.GuestError.TheVariants.{StringIndexOutOfBoundsException}
use Rattle.et_event.proofs.Answering.{if_ok}
use Rattle.et_state.specs.Outcome.{Outcome}
use Rattle.et_state.specs.Spoken.{text_of}
use Rattle.et_state.specs.State.{Kept}
use Rattle.et_strings.specs.Calls.{text_moment}
use Rattle.et_strings.specs.TextUnits.{unit_numbered}
use Rattle.et_strings.proofs.Answering.{thrown-beside}
use Rattle.et_strings.proofs.RowAnswers.{char-given, char-throws, value-beside}
use Rattle.et_strings.proofs.reading.char_event.Goals as goal

pub returns-in-Some : goal.returns-in-Some
returns-in-Some c = λ at same.
    let e = text_moment c.args.program.now c.args.machine.now c.args.texts.now c.args.call.now.called.thread in
    let number : to_z w32 (of_z w32 c.in-Int.index) ≡ c.in-Int.index = search rules in
    let u : List ℕ = text_of e.before c.args.call.now.object in
    let some : unit_numbered u c.in-Int.index ≡ Some c.in-Some.unit =
    ap (unit_numbered u) (sym number) ∙ (ap (λ (us : List ℕ). unit_numbered us (to_z w32 (of_z w32 c.in-Int.index))) (sym c.text_at.ensures.value) ∙ (sym c.text_unit.ensures ∙ c.in-Some.is)) in
    let unit : c.in-Some.unit < 2 ^ 16 = search rules in
    let few : c.in-Some.unit < 2 ^ 31 = omega arith in
    subst (λ (k : Outcome Kept). TextAnswers k c.give.result c.args.machine.now c.give.new.machine c.args.texts.now c.args.texts.now c.args.out.now c.args.out.now)
    (sym (char-given e at (begins e) (arguments_of e c.args.call.now.called.count) c.args.call.now.object c.in-Int.index c.in-Some.unit (sym c.requires.answers.call.argument ∙ c.in-Int.is) some))
    (value-beside c.args.program.now c.args.machine.now c.give.new.machine c.args.texts.now c.args.call.now.called.thread c.args.call.now.called.count at _ _ c.give.result c.args.out.now c.requires.answers.machine.silent
    (ap Int (to_z_pos w32 c.in-Some.unit few)) (c.give.ensures c.args.program.now at c.args.out.now same))

pub returns-in-None : goal.returns-in-None
returns-in-None c =
    let e = text_moment c.args.program.now c.args.machine.now c.args.texts.now c.args.call.now.called.thread in
    let number : to_z w32 (of_z w32 c.in-Int.index) ≡ c.in-Int.index = search rules in
    let u : List ℕ = text_of e.before c.args.call.now.object in
    let none : unit_numbered u c.in-Int.index ≡ None =
    ap (unit_numbered u) (sym number) ∙ (ap (λ (us : List ℕ). unit_numbered us (to_z w32 (of_z w32 c.in-Int.index))) (sym c.text_at.ensures.value) ∙ (sym c.text_unit.ensures ∙ c.in-None.is)) in
    if_ok c.throw_error.result
    (λ end h at same. subst (λ (k : Outcome Kept). TextAnswers k end c.args.machine.now c.throw_error.new.machine c.args.texts.now c.args.texts.now c.args.out.now c.throw_error.new.out)
    (sym (char-throws e at (begins e) (arguments_of e c.args.call.now.called.count) c.args.call.now.object c.in-Int.index (sym c.requires.answers.call.argument ∙ c.in-Int.is) none))
    (thrown-beside c.args.program.now c.args.machine.now c.throw_error.new.machine c.args.texts.now c.args.call.now.called.thread StringIndexOutOfBoundsException end c.args.out.now c.throw_error.new.out c.requires.answers.machine.silent h))
    c.throw_error.ensures.ok
