use Rattle.et_throw.proofs.Failed.{failed_answers}
use Rattle.et_throw.proofs.failing.fail_by_error.Goals as goal

pub returns-clause-ok : goal.returns-clause-ok
returns-clause-ok c p =
    failed_answers p c.args.thread c.args.initializer.class c.args.exception c.args.initializer.entered c.args.machine.now _ c.args.out.now _ c.requires.leaves.sound c.requires.leaves.frame c.requires.fits c.drop_initializer.ensures.new c.in_ok-tell_unwind.ensures
