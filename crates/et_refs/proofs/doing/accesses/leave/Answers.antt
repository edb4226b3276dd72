use Rattle.et_refs.proofs.Leaving.{left, left_few}
use Rattle.et_refs.proofs.doing.accesses.leave.Goals as goal

pub returns-clause-machine : goal.returns-clause-machine
returns-clause-machine c = left c.args.machine.now c.take.new.machine c.set_pc.new.self c.args.thread c.args.taken c.args.next c.requires.frame c.take.ensures c.set_pc.ensures

pub returns-clause-lost : goal.returns-clause-lost
returns-clause-lost c = left_few c.args.machine.now c.set_pc.new.self c.args.thread c.args.taken c.args.next (left c.args.machine.now c.take.new.machine c.set_pc.new.self c.args.thread c.args.taken c.args.next c.requires.frame c.take.ensures c.set_pc.ensures)
