use Rattle.std.proofs.Common.{ℕ, ◌<◌, ◌^◌, ap, arith, length, pos, ◌∙◌}
use Rattle.std.proofs.lemmas.Int.{to_z_pos}
use Rattle.std.specs.Int.{w32}
use Rattle.et_base.specs.declared.value.Value.TheVariants.{Int}
use Rattle.et_strings.proofs.RowAnswers.{value-beside}
use Rattle.et_strings.proofs.reading.length_event.Goals as goal

pub returns : goal.returns
returns c = λ p out at same.
    let few : c.text_length-length.result < 2 ^ 31 = omega (arith, c.text_length-length.ensures, c.text_at.ensures.short) in
    value-beside p c.args.machine.now c.give.new.machine c.args.texts.now c.args.call.now.called.thread c.args.call.now.called.count at _ _ c.give.result out c.requires.answers.machine.silent
    (ap Int (to_z_pos w32 c.text_length-length.result few) ∙ ap (λ (n : ℕ). Int (pos n)) (c.text_length-length.ensures ∙ ap length c.text_at.ensures.value)) (c.give.ensures p at out same)
