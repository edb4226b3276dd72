-- THE HISTORY OF A PROGRAM OVER WHAT A MACHINE KEEPS: what its events lead to, which threads take turns, what is reached, and
-- what a flush leaves.
use Rattle.std.specs.Prelude.{ℕ, ◌+◌, ◌*◌, Bool, List, length}
use Rattle.et_heap.specs.Objects.{held_count}
use Rattle.et_state.specs.Enqueuing.{flushed_heap}
use Rattle.et_state.specs.Threads as threads
use Rattle.et_state.specs.Roots.{graph_of}
use Rattle.et_state.specs.State.{Kept}
use Rattle.et_state.specs.Texts.{texts_left}
use Rattle.et_state.specs.History.{Setting}
use Rattle.et_state.specs.declared.options.Options.{Options}
use Rattle.et_program.specs.Entries.{Linked}
use Rattle.et_program.specs.Tables.{IsTabled}
use Rattle.et_heap.specs.Cleared.{cleared_references}
pub use Rattle.et_event.specs.Told.{said_by}
use Rattle.et_event.specs.Told.{event_with_texts}
use Rattle.et_event.specs.Runnable.{IsRunnable}
use Rattle.et_event.specs.Sound.{IsSoundFor}
use Rattle.et_event.specs.SoundTexts.{HasSoundTexts}
use Rattle.et_history.specs.steps.Telling.{names_of_program}
use Rattle.et_loop.specs.Options.{setting_of}

-- the threads that have not ended, in order of start
abbrev pub unended_threads : Kept → List ℕ
unended_threads s = threads.unended_of s.guest.threads

-- a flush takes out what isn't here, clears what refers to it weakly, puts what it cleared in its queue, and forgets the texts
-- of what it took out
abbrev pub flushed_of : (ℕ → Bool) → Kept → Kept
flushed_of here s = record { heap = flushed_heap here s.heap; guest = record s.guest { texts = texts_left here s.guest.texts } }

abbrev pub setting : Linked → Options → Setting Kept
setting p options = setting_of (event_with_texts p) unended_threads graph_of flushed_of (names_of_program p) options

-- the program may be run, and the state is one of its sound ones, with sound texts
pub record IsSoundRun (p : Linked) (s : Kept) : Type 0 where
  pub tabled : IsTabled p
  pub runnable : IsRunnable p
  pub state : IsSoundFor p s
  pub texts : HasSoundTexts p s

-- how many visits of objects a flush makes at most: two for each that is held, and two for each weak reference that it clears
abbrev pub flush_visits_of : (ℕ → Bool) → Kept → ℕ
flush_visits_of here s = 2 * held_count s.heap + 2 * length (cleared_references here 0 s.heap)
