-- What the machine keeps where a monitor is written.
use Rattle.std.proofs.Common.{◌≡◌, List, Option, Some, None, refl}
use Rattle.et_heap.specs.declared.monitor.Monitor.{Monitor}
use Rattle.et_state.specs.State.{Kept, MachineState, kept_of}
use Rattle.et_state.specs.Moves.{IsOnWay}
use Rattle.et_state.proofs.Calls.{on_set_monitor, on_set_class_monitor}
use Rattle.et_state.specs.declared.records.Record.{Record}
use Rattle.et_event.specs.Moments.{Moment}
use Rattle.et_event.specs.Monitors.{Lock, OfObject, OfClass, entered_some, left_some}
use Rattle.et_event.specs.Locks.{HasMonitor, with_monitor_at, entering_some, leaving_some}

pub monitor_on_way : (s : Kept) (m : MachineState) (lock : Lock) (x : Monitor) → IsOnWay s m → HasMonitor m lock → IsOnWay s (with_monitor_at lock x m)
monitor_on_way s m (OfObject o) x w has = on_set_monitor s m o x w has
monitor_on_way s m (OfClass c) x w has = on_set_class_monitor s m c x w

pub entered_is : (e : Moment) (lock : Option Lock) (m : MachineState) (records : List Record)
    → entered_some e lock (record { state = kept_of m; records = records }) ≡ record { state = kept_of (entering_some e.thread lock m); records = records }
entered_is e None m records = refl
entered_is e (Some (OfObject o)) m records = refl
entered_is e (Some (OfClass c)) m records = refl

pub left_is : (lock : Option Lock) (m : MachineState) (records : List Record)
    → left_some lock (record { state = kept_of m; records = records }) ≡ record { state = kept_of (leaving_some lock m); records = records }
left_is None m records = refl
left_is (Some (OfObject o)) m records = refl
left_is (Some (OfClass c)) m records = refl
