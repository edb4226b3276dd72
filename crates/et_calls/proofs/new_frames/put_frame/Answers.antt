use Rattle.et_initialize.proofs.Counting.{on_ok}
use Rattle.et_calls.proofs.Passed.{over_pushed}
use Rattle.et_calls.proofs.new_frames.put_frame.Goals as goal

pub returns-in-Operands : goal.returns-in-Operands
returns-in-Operands c =
    on_ok c.enter_over.result (λ is. over_pushed c.args.machine.now c.enter_over.new.self c.args.thread c.args.passed.now c.in-Operands.count c.args.head.now c.in-Operands.is c.requires.puts.passed is) c.enter_over.ensures.ok
