-- WHAT AN EVENT DOES TO MONITORS: the one that it enters or leaves changes, and no other does.
use Rattle.std.specs.Prelude.{◌≡◌, ℕ, ◌+◌, ◌<◌, ◌≤◌, ◌⊎◌, true, if◌then◌else◌, length, Option, Some, IfSome}
use Rattle.et_heap.specs.declared.monitor.Monitor.{Monitor}
use Rattle.et_heap.specs.Objects.{IsHeld, free_monitor}
use Rattle.et_program.specs.Entries.{Linked}
use Rattle.et_state.specs.Sound.{IsSound}
use Rattle.et_state.specs.State.{Kept}
use Rattle.et_state.specs.Outcome.{Outcome}
use Rattle.et_state.specs.Outcome as outcome
use Rattle.et_event.specs.Moments.{Moment, begins, later}
use Rattle.et_event.specs.Sound.{IsSoundFor}
use Rattle.et_event.specs.Monitors.{Lock, OfObject, is_owner, left_once, may_enter}
use Rattle.et_history.specs.soundness.WellFormed.{IsThere}
use Rattle.et_history.specs.steps.Holding.{entry_of, exit_of, is_held_lock, monitor_in}

abbrev pub entered_once : ℕ → Monitor → Monitor
entered_once t m = record { owner = Some t; count = m.count + 1 }

-- a thread leaves it once, where it owns it
abbrev pub left_by_owner : ℕ → Monitor → Monitor
left_by_owner t m = if is_owner t m.owner then left_once m else m

-- the monitor of a lock after an entry and an exit of a thread
abbrev pub becomes : ℕ → Option Lock → Option Lock → Lock → Monitor → Monitor
becomes t entry exit lock m =
    if is_held_lock entry lock then entered_once t m else (if is_held_lock exit lock then left_by_owner t m else m)

-- So far an event has come to a state, with these monitors entered and left.
pub record Changes (e : Moment) (entry exit : Option Lock) (after : Kept) : Type 0 where
  -- what is referred to is held
  pub sound : IsSound after
  pub clock : after.guest.clock ≡ e.before.guest.clock + 1
  -- no object is taken out, and one that is made has a monitor that nobody entered
  pub stays : (o : ℕ) → IsHeld e.before.heap o → IsHeld after.heap o
  pub fresh : (o : ℕ) → IsHeld after.heap o →
      IsHeld e.before.heap o ⊎ ((length e.before.heap ≤ o) × (monitor_in after (OfObject o) ≡ free_monitor))
  pub longer : length e.before.heap ≤ length after.heap
  -- each number that is new is of an object that is held
  pub full : (o : ℕ) → length e.before.heap ≤ o → o < length after.heap → IsHeld after.heap o
  pub monitor : (lock : Lock) → IsThere e.before lock →
      monitor_in after lock ≡ becomes e.thread entry exit lock (monitor_in e.before lock)

-- .. and it ends there: what it enters or leaves was there, and what it enters was open to its thread
pub record MovesMonitors (e : Moment) (entry exit : Option Lock) (after : Kept) : Type 0 where
  pub changes : Changes e entry exit after
  pub entered : IfSome entry (λ lock. IsThere e.before lock × (may_enter e (begins e) lock ≡ true))
  pub left : IfSome exit (λ lock. IsThere e.before lock)

-- where the thread waits, the clock alone goes on
abbrev pub KeepsMonitors : Moment → Outcome Kept → Type 0
KeepsMonitors e (outcome.Goes after records) = MovesMonitors e (entry_of e after) (exit_of e after) after
KeepsMonitors e (outcome.Waits after) = after ≡ later e.before
KeepsMonitors e (outcome.IllTyped method pc) = Unit {0}
KeepsMonitors e outcome.ObjectLimit = Unit {0}

-- what holds of the next state, where the event is done, or the thread waits
abbrev pub LeadsTo : (Kept → Type 0) → Outcome Kept → Type 0
LeadsTo P (outcome.Goes next records) = P next
LeadsTo P (outcome.Waits next) = P next
LeadsTo P (outcome.IllTyped method pc) = Unit {0}
LeadsTo P outcome.ObjectLimit = Unit {0}

-- it is a sound one
abbrev pub LeadsToSound : Linked → Outcome Kept → Type 0
LeadsToSound p o = LeadsTo (IsSoundFor p) o
