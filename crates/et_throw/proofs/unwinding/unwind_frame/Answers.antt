use Rattle.std.proofs.Common.{rules}
use Rattle.et_event.specs.Locks.{locks_of}
use Rattle.et_throw.proofs.Dropped.{unwound_answers}
use Rattle.et_throw.proofs.unwinding.unwind_frame.Goals as goal

pub returns-clause-ok : goal.returns-clause-ok
returns-clause-ok g c =
    unwound_answers c.args.program.now c.args.thread c.args.exception (locks_of c.args.lock.now) c.args.machine.now _ _ _ c.args.out.now _ c.requires.leaves.sound c.requires.leaves.frame c.requires.there c.requires.lock c.begin_event.ensures c.leave_if_owned.ensures.new c.drop_frame.ensures (search rules)
