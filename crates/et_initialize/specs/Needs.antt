-- What an event does that needs a class (JVMS 5.5).
use Rattle.std.specs.Prelude.{ℕ, ◌==◌, if◌then◌else◌}
use Rattle.et_state.specs.declared.class_state.ClassState.{ClassState}
use Rattle.et_state.specs.declared.class_state.ClassState.TheVariants as state
use Rattle.et_state.specs.State.{Kept}
use Rattle.et_state.specs.Outcome.{Outcome}
use Rattle.et_event.specs.declared.errors.GuestError.TheVariants.{NoClassDefFoundError}
use Rattle.et_event.specs.Moments.{Moment, Doing, waits, throws}
use Rattle.et_event.specs.Initialization.{state_of, is_quiet, quietly_done, begins_class}
use Rattle.et_initialize.specs.declared.needs.Need.{Need}
use Rattle.et_initialize.specs.declared.needs.Need.TheVariants.{Ready, Waits, Failed, Quiet, Begins}

-- what is to be done, by how far the class is
abbrev pub need_by : Moment → Doing → ℕ → ClassState → Need
need_by e d c state.Done = Ready
need_by e d c (state.Begun t) = if t == e.thread then Ready else Waits
need_by e d c state.Failed = Failed
need_by e d c state.Untouched = if is_quiet e d c then Quiet else Begins

abbrev pub need_of : Moment → Doing → ℕ → Need
need_of e d c = need_by e d c (state_of d c)

-- and what the event comes to
abbrev pub met : Moment → Doing → ℕ → (Doing → Outcome Kept) → Need → Outcome Kept
met e d c go Ready = go d
met e d c go Waits = waits e
met e d c go Failed = throws e NoClassDefFoundError d
met e d c go Quiet = go (quietly_done e c d)
met e d c go Begins = begins_class e c d
