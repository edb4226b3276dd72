-- MONITORS OF OBJECTS AND THE END OF A THREAD (JVMS 2.11.10, 6.5 monitorenter and monitorexit).
use Rattle.et_state.specs.Threads.{as_ended}
use Rattle.et_state.specs.State.{Kept}
use Rattle.et_state.specs.Outcome.{Outcome}
use Rattle.et_event.specs.declared.rows.MonitorRow.{MonitorRow}
use Rattle.et_event.specs.declared.rows.MonitorRow.TheVariants.{Enter, Exit}
use Rattle.et_event.specs.declared.errors.GuestError.TheVariants.{IllegalMonitorStateException}
use Rattle.et_event.specs.Moments.{Moment, thread_of, current_frame, begins, with_thread_state, ill_typed, goes}
use Rattle.et_event.specs.Checks.{with_reference, throws_unless, not_null, waits_unless}
use Rattle.et_event.specs.Sites.{Site}
use Rattle.et_event.specs.Monitors.{OfObject, owns, may_enter, entered, left}
use Rattle.et_event.specs.Heap.{leaving_values}

abbrev pub monitor_event : Moment → Site → MonitorRow → Outcome Kept
monitor_event e at Enter =
    with_reference (ill_typed e) (current_frame e).operands (λ r below.
    not_null e (begins e) r (λ o.
    waits_unless e (may_enter e (begins e) (OfObject o)) (goes (entered e (OfObject o) (leaving_values e at below (begins e))))))
monitor_event e at Exit =
    with_reference (ill_typed e) (current_frame e).operands (λ r below.
    not_null e (begins e) r (λ o.
    throws_unless e (begins e) IllegalMonitorStateException (owns e (begins e) (OfObject o)) (goes (left (OfObject o) (leaving_values e at below (begins e))))))

-- a thread ends: what it left pending, its entry slot and its Thread object are no roots any more
abbrev pub end_of_thread : Moment → Outcome Kept
end_of_thread e = goes (with_thread_state e (as_ended (thread_of e)) (begins e))
