use mir.Val.{bool_byte}
use Rattle.std.proofs.Common.{◌≡◌, Bool, true, false, ap, refl, to_z, ◌∙◌}
use Rattle.std.specs.Int.{w32}
use Rattle.et_base.specs.declared.value.Value.{Value}
use Rattle.et_base.specs.declared.value.Value.TheVariants.{Int}
use Rattle.et_event.specs.Heap.{truth}
use Rattle.et_event.specs.TextRows.{is_text_like}
use Rattle.et_strings.specs.Calls.{text_moment}
use Rattle.et_strings.proofs.RowAnswers.{value-beside}
use Rattle.et_strings.proofs.reading.equals_event.Goals as goal

truth_is : (b : Bool) → Int (to_z w32 (bool_byte b)) ≡ truth b
truth_is true = refl
truth_is false = refl

pub returns-clause-event : goal.returns-clause-event
returns-clause-event g c = λ out at same.
    let e = text_moment c.args.program.now c.args.machine.now c.args.texts.now c.args.call.now.called.thread in
    value-beside c.args.program.now c.args.machine.now c.give.new.machine c.args.texts.now c.args.call.now.called.thread c.args.call.now.called.count at _ _ c.give.result out c.requires.answers.machine.silent
    (truth_is c.is_text_like-is_same.result ∙ (ap truth c.is_text_like-is_same.ensures.value ∙ ap (λ (v : Value). truth (is_text_like e c.args.call.now.object v)) c.requires.answers.call.argument))
    (c.give.ensures c.args.program.now at out same)
