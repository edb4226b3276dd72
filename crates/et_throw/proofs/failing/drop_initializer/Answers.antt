use Rattle.std.proofs.Common.{rules}
use Rattle.et_throw.proofs.Failed.{drops_few}
use Rattle.et_throw.proofs.failing.drop_initializer.Goals as goal

pub returns-clause-few : goal.returns-clause-few
returns-clause-few c = drops_few c.args.machine.now c.set_class_state.new.self c.args.thread c.args.class c.requires.small (search rules)
