use Rattle.std.proofs.Common.{subst}
use Rattle.et_calls.specs.declared.new_frames.Passed.{Passed}
use Rattle.et_calls.specs.Entering.{ArePassedTo}
use Rattle.et_calls.proofs.Passed.{argument_held}
use Rattle.et_calls.proofs.new_frames.first_object.Goals as goal

pub returns-in-Object-clause-held : goal.returns-in-Object-clause-held
returns-in-Object-clause-held c =
    argument_held c.args.thread c.in-Object.argument c.args.machine.now c.requires.sound (subst (λ (x : Passed). ArePassedTo c.args.machine.now.guest c.args.thread x) c.in-Object.is c.requires.passed)
