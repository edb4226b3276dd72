-- WHAT U RECORDS TELL where there are texts: each write of a reference but the one to the static of System.out, of which none
-- tells. It is made where it is read first, and stays.
use Rattle.std.specs.Prelude.{◌≡◌, ℕ, ◌==◌, ◌&&◌, if◌then◌else◌}
use Rattle.et_program.specs.Entries.{Linked}
use Rattle.et_state.specs.State.{Kept}
use Rattle.et_state.specs.Outcome.{Outcome}
use Rattle.et_state.specs.Outcome as outcome
use Rattle.et_history.specs.steps.Writes.{TellWrites, is_out_slot, reference_at}

-- the reference in a slot of an object, or in a static for the object 0, as records tell it: in the static of System.out they
-- tell none
abbrev pub reference_told : Linked → Kept → (object slot : ℕ) → ℕ
reference_told p s o i = if (o == 0) && is_out_slot p i then 0 else reference_at s o i

-- an event that is done tells its writes; where the thread waits, nothing is written
abbrev pub TellsOtherWrites : Linked → Kept → Outcome Kept → Type 0
TellsOtherWrites p s (outcome.Goes next records) = TellWrites (reference_told p s) records (reference_told p next)
TellsOtherWrites p s (outcome.Waits next) = (o i : ℕ) → reference_told p next o i ≡ reference_told p s o i
TellsOtherWrites p s (outcome.IllTyped method pc) = Unit {0}
TellsOtherWrites p s outcome.ObjectLimit = Unit {0}
