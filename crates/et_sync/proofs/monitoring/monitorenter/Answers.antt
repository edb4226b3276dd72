use Rattle.std.proofs.Common.{◌≡◌, ◌≤◌, ◌^◌, true, false, sym, subst, rules}
use Rattle.et_heap.specs.Objects.{IsHeld, object_at}
use Rattle.et_state.specs.State.{MachineState}
use Rattle.et_event.specs.Monitors.{OfObject}
use Rattle.et_event.specs.Locks.{may_enter_at}
use Rattle.et_sync.proofs.Monitored.{changed_led, entered_answers, object_few, once_more, operand_there_is, waited_answers}
use Rattle.et_sync.proofs.monitoring.monitorenter.Goals as goal

pub returns-then-not-may_enter-clause-ok : goal.returns-then-not-may_enter-clause-ok
returns-then-not-may_enter-clause-ok g c at out same =
    let shut : may_enter_at c.args.thread (OfObject c.args.object) c.args.machine.now ≡ false = search rules in
    waited_answers c.args.program.now c.args.thread c.args.object c.args.machine.now _ at out c.wait_event.result c.requires.locks.operand shut (c.wait_event.ensures c.args.program.now c.args.thread out)

pub begin_past-requires-clause-operand : goal.begin_past-requires-clause-operand
begin_past-requires-clause-operand g c = operand_there_is c.args.machine.now c.args.thread c.args.object c.requires.locks.operand

pub enter_monitor-requires-clause-there : goal.enter_monitor-requires-clause-there
enter_monitor-requires-clause-there g c = subst (λ (n : MachineState). IsHeld n.heap c.args.object) (sym c.begin_past.ensures) c.requires.locks.held

pub enter_monitor-requires-clause-count : goal.enter_monitor-requires-clause-count
enter_monitor-requires-clause-count g c =
    subst (λ (n : MachineState). (object_at n.heap c.args.object).monitor.count ≤ 2 ^ 40) (sym c.begin_past.ensures) (object_few c.args.program.now c.args.machine.now c.args.object c.requires.locks.sound c.requires.locks.held)

pub returns-clause-ok : goal.returns-clause-ok
returns-clause-ok g c at out same =
    let t = c.args.thread in
    let o = c.args.object in
    let m = c.args.machine.now in
    let may : may_enter_at t (OfObject o) m ≡ true = search rules in
    entered_answers c.args.program.now t o c.args.next m c.enter_monitor.new.machine at out same c.requires.locks.operand may
    (changed_led (once_more t) m t o c.args.next c.begin_past.new.machine c.enter_monitor.new.machine c.requires.locks.sound.held c.requires.locks.frame c.requires.locks.held (operand_there_is m t o c.requires.locks.operand) c.begin_past.ensures c.enter_monitor.ensures.new)
