use Rattle.std.proofs.Common.{◌≤◌, length, arith}
use Rattle.et_builtins.proofs.Changing.{passed_is, passed_few}
use Rattle.et_builtins.proofs.changes.pass.Goals as goal

pub returns-clause-new : goal.returns-clause-new
returns-clause-new c =
    passed_is c.args.machine.now c.args.call.now.thread c.args.call.now.count c.args.call.now.next c.begin_event.new.self c.take.new.machine c.set_pc.new.self c.requires.calls.frame c.begin_event.ensures c.take.ensures c.set_pc.ensures

pub returns-clause-few : goal.returns-clause-few
returns-clause-few c =
    let few : length c.set_pc.new.self.lost ≤ c.args.call.now.count =
    passed_few c.args.machine.now c.args.call.now.thread c.args.call.now.count c.args.call.now.next c.set_pc.new.self
    (passed_is c.args.machine.now c.args.call.now.thread c.args.call.now.count c.args.call.now.next c.begin_event.new.self c.take.new.machine c.set_pc.new.self c.requires.calls.frame c.begin_event.ensures c.take.ensures c.set_pc.ensures) in
    omega arith
