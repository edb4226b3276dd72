use Rattle.std.proofs.Common.{◌≡◌, true, sym, subst, rules}
use Rattle.et_heap.specs.Objects.{IsHeld}
use Rattle.et_state.specs.State.{MachineState}
use Rattle.et_event.specs.Monitors.{OfObject, left_once}
use Rattle.et_event.specs.Locks.{owns_at}
use Rattle.et_sync.proofs.Monitored.{changed_led, exited_answers, operand_there_is}
use Rattle.et_sync.proofs.monitoring.monitorexit.Goals as goal

pub begin_past-requires-clause-operand : goal.begin_past-requires-clause-operand
begin_past-requires-clause-operand g c = operand_there_is c.args.machine.now c.args.thread c.args.object c.requires.locks.operand

pub leave_monitor-requires : goal.leave_monitor-requires
leave_monitor-requires g c = subst (λ (n : MachineState). IsHeld n.heap c.args.object) (sym c.begin_past.ensures) c.requires.locks.held

pub returns-clause-ok : goal.returns-clause-ok
returns-clause-ok g c at same =
    let t = c.args.thread in
    let o = c.args.object in
    let m = c.args.machine.now in
    let owned : owns_at t (OfObject o) m ≡ true = search rules in
    exited_answers c.args.program.now t o c.args.next m c.leave_monitor.new.machine at c.args.out.now same c.requires.locks.operand owned
    (changed_led left_once m t o c.args.next c.begin_past.new.machine c.leave_monitor.new.machine c.requires.locks.sound.held c.requires.locks.frame c.requires.locks.held (operand_there_is m t o c.requires.locks.operand) c.begin_past.ensures c.leave_monitor.ensures.new)
