use Rattle.std.proofs.Common.{sym, ◌∙◌, ap, subst}
use Rattle.et_base.specs.declared.value.Value.{Value}
use Rattle.et_state.specs.Words.{top}
use Rattle.et_event.specs.Tops.{IsIn}
use Rattle.et_builtins.specs.Arguments.{arguments_in}
use Rattle.et_builtins.proofs.Standing.{first_is, reference_in, reference_held, reference_there}
use Rattle.et_builtins.proofs.arguments.receiver.Goals as goal

pub returns-in-Ref-clause-value : goal.returns-in-Ref-clause-value
returns-in-Ref-clause-value c =
    sym (first_is (arguments_in (top c.args.machine.now.guest c.args.thread) c.args.count) ∙ ap reference_in (sym c.argument_at.ensures.value ∙ c.in-Ref.is))

pub returns-in-Ref-clause-held : goal.returns-in-Ref-clause-held
returns-in-Ref-clause-held c =
    reference_held c.args.machine.now c.args.thread c.in-Ref.o c.requires.sound c.requires.frame
    (subst (λ (v : Value). IsIn (top c.args.machine.now.guest c.args.thread) v) c.in-Ref.is c.argument_at.ensures.there)

pub returns-in-Ref-clause-there : goal.returns-in-Ref-clause-there
returns-in-Ref-clause-there c =
    reference_there (top c.args.machine.now.guest c.args.thread) c.in-Ref.o
    (subst (λ (v : Value). IsIn (top c.args.machine.now.guest c.args.thread) v) c.in-Ref.is c.argument_at.ensures.there)
