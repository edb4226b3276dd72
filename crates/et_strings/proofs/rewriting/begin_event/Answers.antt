use Rattle.std.proofs.Common.{ℕ, List, [], ap, ◌∙◌}
use Rattle.et_state.specs.Texts.{with_text}
use Rattle.et_strings.proofs.RowAnswers.{text-beside}
use Rattle.et_strings.proofs.rewriting.begin_event.Goals as goal

pub returns : goal.returns
returns c = λ p out at same.
    text-beside p c.args.machine.now c.give_nothing.new.machine c.args.texts.now c.set.new.self c.args.call.now.called.thread c.args.call.now.called.count c.args.call.now.object [] at [] c.give_nothing.result out c.requires.answers.machine.silent
    (c.in_ok-set.ensures ∙ ap (λ (u : List ℕ). with_text c.args.call.now.object u c.args.texts.now) c.new.ensures.items) (c.give_nothing.ensures p at out same)
