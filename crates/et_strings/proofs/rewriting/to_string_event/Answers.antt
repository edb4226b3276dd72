use Rattle.std.proofs.Common.{◌≡◌, ℕ, ◌<◌, ◌≤◌, List, Option, Some, arith, length, ap, subst, ◌∙◌}
use Rattle.std.specs.Prelude.{codes}
use Rattle.et_event.specs.Errors.{class_called}
use Rattle.et_event.specs.Moments.{begins, instance_made, moment}
use Rattle.et_event.specs.Making.{MakesObject}
use Rattle.et_program.specs.Entries.{Linked, class_at}
use Rattle.et_state.specs.Spoken.{text_of}
use Rattle.et_state.specs.State.{MachineState}
use Rattle.et_state.specs.declared.records.Record.{Record}
use Rattle.et_state.specs.Texts.{most_units, text_units, with_text}
use Rattle.et_strings.specs.Calls.{text_moment}
use Rattle.et_strings.proofs.Strings.{MakesString, none_newest, string-given, string-limit}
use Rattle.et_strings.proofs.rewriting.to_string_event.Goals as goal

pub returns-then-units-len-gt-MOST : goal.returns-then-units-len-gt-MOST
returns-then-units-len-gt-MOST c = λ at same.
    let e = text_moment c.args.program.now c.args.machine.now c.args.texts.now c.args.call.now.called.thread in
    let units : List ℕ = text_of e.before c.args.call.now.object in
    let text : c.in_ok-units.units.items ≡ units = c.in_ok-units.ensures ∙ c.text_at.ensures.value in
    let n = length c.args.machine.now.heap in
    let many : most_units < text_units (with_text n units c.args.texts.now) =
    omega (arith, c.units.ensures.given n units, c.units.ensures.value, ap length (none_newest c.args.machine.now.heap c.args.texts.now c.requires.answers.texts.owned), c.len.ensures, ap length text, c.if-units-len-gt-MOST.true) in
    string-limit c.args.program.now c.args.machine.now c.args.texts.now c.args.call.now.called.thread c.args.call.now.called.count at units c.args.out.now
    (omega (arith, c.text_at.ensures.short, ap length c.text_at.ensures.value)) many

-- what making it left
string_made : (p : Linked) (t class : ℕ) (o r : Option ℕ) (m m₁ : MachineState) (out out' : List Record) → class ≡ class_called p (codes "java/lang/String") → r ≡ o → MakesObject (instance_made (moment p m t) class (begins (moment p m t))) r m m₁ out out'
    → MakesString p t o m m₁ out out'
string_made p t class o r m m₁ out out' named is made =
    subst (λ (q : Option ℕ). MakesString p t q m m₁ out out') is (subst (λ (k : ℕ). MakesObject (instance_made (moment p m t) k (begins (moment p m t))) r m m₁ out out') named made)

pub returns : goal.returns
returns c = λ at same.
    let p = c.args.program.now in
    let m = c.args.machine.now in
    let e = text_moment p m c.args.texts.now c.args.call.now.called.thread in
    let units : List ℕ = text_of e.before c.args.call.now.object in
    let text : c.in_ok-units.units.items ≡ units = c.in_ok-units.ensures ∙ c.text_at.ensures.value in
    let new = string_made p c.args.call.now.called.thread c.class_called-class.result (Some c.in-Some.string) c.in_ok-string.field-0 m c.make_instance.new.machine c.args.out.now c.make_instance.new.out c.class_called-class.ensures.value c.in-Some.is c.in_ok-string.ensures.made in
    let few : text_units (with_text (length m.heap) units c.args.texts.now) ≤ most_units =
    omega (arith, c.units.ensures.given (length m.heap) units, c.units.ensures.value, ap length (none_newest m.heap c.args.texts.now c.requires.answers.texts.owned), c.len.ensures, ap length text, c.if-units-len-gt-MOST.false) in
    string-given p m c.make_instance.new.machine c.give_made.new.machine c.args.texts.now c.set.new.self c.args.call.now.called.thread c.args.call.now.called.count c.in-Some.string c.args.call.now.called.next at units c.args.out.now c.make_instance.new.out
    c.requires.answers.machine.silent c.requires.answers.call.operands same (omega (arith, c.text_at.ensures.short, ap length c.text_at.ensures.value)) few new
    (c.in_ok-set.ensures ∙ ap (λ (u : List ℕ). with_text c.in-Some.string u c.args.texts.now) text)
    (c.give_made.ensures m (class_called p (codes "java/lang/String")) (class_at p (class_called p (codes "java/lang/String"))).info.slots c.requires.answers.machine.sound new.2 new.1)
