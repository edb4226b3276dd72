use Rattle.et_initialize.proofs.Beginning.{begin_lost, begin_ready}
use Rattle.et_initialize.proofs.Counting.{on_ok}
use Rattle.et_initialize.proofs.Needing.{quiet_came, quiet_fit}
use Rattle.et_refs.proofs.doing.beginning.begin_quietly.Goals as goal

pub set_quietly-requires-clause-ready : goal.set_quietly-requires-clause-ready
set_quietly-requires-clause-ready c = begin_ready c.args.program.now c.args.machine.now c.begin_event.new.self c.requires.sound c.begin_event.ensures

pub set_quietly-requires-clause-lost : goal.set_quietly-requires-clause-lost
set_quietly-requires-clause-lost c = begin_lost c.args.machine.now c.begin_event.new.self c.begin_event.ensures

pub set_quietly-requires-clause-fits : goal.set_quietly-requires-clause-fits
set_quietly-requires-clause-fits c = quiet_fit c.args.program.now c.args.thread c.args.wanted.now.class c.args.machine.now c.begin_event.new.self c.args.out.now c.begin_event.ensures c.requires.fits

pub returns-clause-machine : goal.returns-clause-machine
returns-clause-machine c = on_ok c.set_quietly.result (λ h. (quiet_came c.args.program.now c.args.thread c.args.wanted.now.class c.args.machine.now c.begin_event.new.self c.set_quietly.new.machine c.args.out.now c.set_quietly.new.out c.begin_event.ensures h).0) c.set_quietly.ensures

pub returns-clause-records : goal.returns-clause-records
returns-clause-records c = on_ok c.set_quietly.result (λ h. (quiet_came c.args.program.now c.args.thread c.args.wanted.now.class c.args.machine.now c.begin_event.new.self c.set_quietly.new.machine c.args.out.now c.set_quietly.new.out c.begin_event.ensures h).1) c.set_quietly.ensures
