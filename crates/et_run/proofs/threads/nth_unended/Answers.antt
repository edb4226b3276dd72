use Rattle.std.proofs.Common.{◌≤◌, length, arith}
use Rattle.et_state.specs.Threads.{unended_of}
use Rattle.et_run.proofs.Counting.{length-unended, found_is, found_some}
use Rattle.et_run.proofs.threads.nth_unended.Goals as goal

pub overflow_cast-k : goal.overflow_cast-k
overflow_cast-k c =
    let few : length (unended_of c.args.machine.now.guest.threads) ≤ length c.args.machine.now.guest.threads = length-unended 0 c.args.machine.now.guest.threads in
    omega (arith, few, c.requires, c.started-started.ensures.value, c.started-started.ensures.few)

pub unreachable-requires : goal.unreachable-requires
unreachable-requires c = found_some (unended_of c.args.machine.now.guest.threads) c.args.k c.unended.result c.requires c.unended.ensures c.in-None.is

pub returns : goal.returns
returns c = found_is (unended_of c.args.machine.now.guest.threads) c.args.k c.in-Some.thread c.unended.result c.requires c.unended.ensures c.in-Some.is
