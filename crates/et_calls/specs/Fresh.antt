-- Threads that are to be entered.
use Rattle.std.specs.Prelude.{◌≡◌, ℕ, [], Contains, Option, Some}
use Rattle.et_state.specs.Threads.{ended_roots}
use Rattle.et_state.specs.State.{GuestState}
use Rattle.et_state.specs.Words.{thread_at, IsUnended}

-- the thread has not ended, and it has no frame
pub record IsFresh (g : GuestState) (t : ℕ) : Type 0 where
  pub unended : IsUnended g t
  pub frames : (thread_at g t).frames ≡ []

-- an argument of its first method stands in a root place of the thread
abbrev pub IsArgument : GuestState → ℕ → Option ℕ → Type 0
IsArgument g t argument = (o : ℕ) → argument ≡ Some o → Contains (ended_roots (thread_at g t)) o
