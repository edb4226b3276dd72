-- The locks of the machine, and what it keeps where a monitor is entered or left.
use Rattle.std.specs.Prelude.{ℕ, ◌+◌, ◌<◌, ◌≤◌, ◌^◌, Bool, true, [], length, Option, Some, None}
use Rattle.et_heap.specs.declared.monitor.Monitor.{Monitor}
use Rattle.et_heap.specs.Objects.{IsHeld}
use Rattle.et_state.specs.State.{Kept, MachineState, kept_of}
use Rattle.et_event.specs.Moments.{Doing}
use Rattle.et_event.specs.Monitors as table
use Rattle.et_event.specs.declared.locks.Lock.{Lock}
use Rattle.et_event.specs.declared.locks.Lock.TheVariants.{OfObject, OfClass}

-- a lock as the table of events has it
abbrev pub lock_of : Lock → table.Lock
lock_of (OfObject o) = table.OfObject o
lock_of (OfClass c) = table.OfClass c

abbrev pub locks_of : Option Lock → Option table.Lock
locks_of None = None
locks_of (Some lock) = Some (lock_of lock)

-- what has the monitor is there
abbrev pub HasMonitor : MachineState → table.Lock → Type 0
HasMonitor m (table.OfObject o) = IsHeld m.heap o
HasMonitor m (table.OfClass c) = c < length m.guest.class_monitors

abbrev pub HasSome : MachineState → Option table.Lock → Type 0
HasSome m None = Unit {0}
HasSome m (Some lock) = HasMonitor m lock

-- an event has come to what the machine keeps
abbrev pub doing : MachineState → Doing
doing m = record { state = kept_of m; records = [] }

abbrev pub monitor_at : MachineState → table.Lock → Monitor
monitor_at m lock = table.monitor_of (doing m) lock

-- the thread owns the monitor; it may enter it
abbrev pub owns_at : ℕ → table.Lock → MachineState → Bool
owns_at t lock m = table.is_owner t (monitor_at m lock).owner

abbrev pub owns_some_at : ℕ → Option table.Lock → MachineState → Bool
owns_some_at t None m = true
owns_some_at t (Some lock) m = owns_at t lock m

abbrev pub may_enter_at : ℕ → table.Lock → MachineState → Bool
may_enter_at t lock m = table.is_open_to t (monitor_at m lock).owner

abbrev pub may_enter_some_at : ℕ → Option table.Lock → MachineState → Bool
may_enter_some_at t None m = true
may_enter_some_at t (Some lock) m = may_enter_at t lock m

-- it was entered no more often than there may be events
abbrev pub IsFewTimes : MachineState → table.Lock → Type 0
IsFewTimes m lock = (monitor_at m lock).count ≤ 2 ^ 40

abbrev pub IsSomeFewTimes : MachineState → Option table.Lock → Type 0
IsSomeFewTimes m None = Unit {0}
IsSomeFewTimes m (Some lock) = IsFewTimes m lock

-- the machine keeps another state, and has lost nothing more
abbrev pub keeping : Kept → MachineState → MachineState
keeping s m = record { heap = s.heap; guest = s.guest; lost = m.lost }

abbrev pub with_monitor_at : table.Lock → Monitor → MachineState → MachineState
with_monitor_at lock x m = keeping (table.with_monitor_of lock x (doing m)).state m

-- a thread enters the monitor once more
abbrev pub entering_lock : ℕ → table.Lock → MachineState → MachineState
entering_lock t lock m = with_monitor_at lock (record { owner = Some t; count = (monitor_at m lock).count + 1 }) m

abbrev pub entering_some : ℕ → Option table.Lock → MachineState → MachineState
entering_some t None m = m
entering_some t (Some lock) m = entering_lock t lock m

-- .. and its owner leaves it once
abbrev pub leaving_lock : table.Lock → MachineState → MachineState
leaving_lock lock m = with_monitor_at lock (table.left_once (monitor_at m lock)) m

abbrev pub leaving_some : Option table.Lock → MachineState → MachineState
leaving_some None m = m
leaving_some (Some lock) m = leaving_lock lock m
