use Rattle.et_refs.proofs.Below.{reference_in}
use Rattle.et_refs.proofs.operands.running.running_reference.Goals as goal

pub returns-in-Some-clause-there : goal.returns-in-Some-clause-there
returns-in-Some-clause-there c = reference_in c.args.running.now.frame c.args.k c.in-Some.reference c.in-Some.ensures
