use Rattle.std.proofs.Common.{sym, ◌∙◌}
use Rattle.et_refs.proofs.Below.{reference_named}
use Rattle.et_refs.proofs.operands.take_reference.Goals as goal

pub returns-in-Some-clause-named : goal.returns-in-Some-clause-named
returns-in-Some-clause-named c =
    reference_named c.args.machine.now c.args.thread c.args.k c.in-Some.reference c.requires.frame c.requires.sound (sym c.in-Some.is ∙ c.reference_at.ensures)
