-- WHAT HOLDS OF EACH EVENT
use Rattle.std.specs.Prelude.{ℕ}
use Rattle.et_program.specs.Entries.{Linked}
use Rattle.et_state.specs.State.{Kept}
use Rattle.et_state.specs.Words.{IsUnended}
use Rattle.et_event.specs.Runnable.{IsRunnable}
use Rattle.et_event.specs.Sound.{IsSoundFor}

-- it holds of the event of each thread that has not ended, in each sound state of a program that may be run
abbrev pub OfEachEvent : (Linked → Kept → ℕ → Type 0) → Type 0
OfEachEvent Holds = (p : Linked) (s : Kept) (t : ℕ) → IsSoundFor p s → IsUnended s.guest t → IsRunnable p → Holds p s t
