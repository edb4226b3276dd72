-- Monitors (JVMS 2.11.10): each object has one, and each class.
use Rattle.std.specs.Prelude.{ℕ, ◌+◌, ◌-◌, ◌==◌, nat_le, Bool, true, false, if◌then◌else◌, Option, Some, None, option_map}
use Rattle.et_class.specs.Names.{has}
use Rattle.et_class.specs.declared.flags.TheConstants.{STATIC, SYNCHRONIZED}
use Rattle.et_program.specs.declared.info.MethodInfo.{MethodInfo}
use Rattle.et_heap.specs.declared.monitor.Monitor.{Monitor}
use Rattle.et_heap.specs.Objects.{free_monitor, object_at, with_monitor, with_object_at}
use Rattle.et_state.specs.declared.stage.Stage.{Stage}
use Rattle.et_state.specs.declared.stage.Stage.TheVariants.{Plain, Before, Clinit}
use Rattle.et_state.specs.Words.{class_monitor_at, with_class_monitor}
use Rattle.et_event.specs.Moments.{Moment, Doing, doing_with_guest}

-- what has a monitor
pub data Lock : Type 0 where
  OfObject : (o : ℕ) → Lock
  OfClass : (c : ℕ) → Lock

abbrev pub monitor_of : Doing → Lock → Monitor
monitor_of d (OfObject o) = (object_at d.state.heap o).monitor
monitor_of d (OfClass c) = class_monitor_at d.state.guest c

abbrev pub with_monitor_of : Lock → Monitor → Doing → Doing
with_monitor_of (OfObject o) m d =
    record { state = record { heap = with_object_at d.state.heap o (with_monitor m (object_at d.state.heap o)); guest = d.state.guest }; records = d.records }
with_monitor_of (OfClass c) m d = doing_with_guest (with_class_monitor d.state.guest c m) d

abbrev pub is_owner : ℕ → Option ℕ → Bool
is_owner t None = false
is_owner t (Some owner) = owner == t

-- the thread owns the monitor
abbrev pub owns : Moment → Doing → Lock → Bool
owns e d lock = is_owner e.thread (monitor_of d lock).owner

abbrev pub is_open_to : ℕ → Option ℕ → Bool
is_open_to t None = true
is_open_to t (Some owner) = owner == t

-- nobody owns the monitor, or the thread does
abbrev pub may_enter : Moment → Doing → Lock → Bool
may_enter e d lock = is_open_to e.thread (monitor_of d lock).owner

-- the thread enters the monitor once more
abbrev pub entered : Moment → Lock → Doing → Doing
entered e lock d = with_monitor_of lock (record { owner = Some e.thread; count = (monitor_of d lock).count + 1 }) d

-- .. and leaves it once: after the last time nobody owns it
abbrev pub left_once : Monitor → Monitor
left_once m = if nat_le m.count 1 then free_monitor else record { owner = m.owner; count = m.count - 1 }

abbrev pub left : Lock → Doing → Doing
left lock d = with_monitor_of lock (left_once (monitor_of d lock)) d

-- SYNCHRONIZED METHODS: a static one has the monitor of its class, another one that of its receiver

abbrev pub lock_for : MethodInfo → Option ℕ → Option Lock
lock_for m receiver =
    if has m.flags SYNCHRONIZED
    then (if has m.flags STATIC then Some (OfClass m.class) else option_map OfObject receiver)
    else None

-- what a frame holds; an initializer holds nothing
abbrev pub lock_in : Stage → MethodInfo → Option ℕ → Option Lock
lock_in Plain m receiver = lock_for m receiver
lock_in (Before c) m receiver = None
lock_in (Clinit c) m receiver = None

abbrev pub may_enter_some : Moment → Doing → Option Lock → Bool
may_enter_some e d None = true
may_enter_some e d (Some lock) = may_enter e d lock

abbrev pub entered_some : Moment → Option Lock → Doing → Doing
entered_some e None d = d
entered_some e (Some lock) d = entered e lock d

abbrev pub owns_some : Moment → Doing → Option Lock → Bool
owns_some e d None = true
owns_some e d (Some lock) = owns e d lock

abbrev pub left_some : Option Lock → Doing → Doing
left_some None d = d
left_some (Some lock) d = left lock d
