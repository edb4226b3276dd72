-- Outcomes after which a state of a program is sound.
use Rattle.et_program.specs.Entries.{Linked}
use Rattle.et_state.specs.State.{Kept}
use Rattle.et_state.specs.Sound.{IsSound}
use Rattle.et_state.specs.Outcome.{Outcome}
use Rattle.et_state.specs.Outcome as outcome
use Rattle.et_event.specs.Sound.{IsSoundFor}

-- where the event is done, or the thread waits, the next state is sound for the program if what it refers to is held
abbrev pub KeepsSound : Linked → Outcome Kept → Type 0
KeepsSound p (outcome.Goes next records) = IsSound next → IsSoundFor p next
KeepsSound p (outcome.Waits next) = IsSound next → IsSoundFor p next
KeepsSound p (outcome.IllTyped method pc) = Unit {0}
KeepsSound p outcome.ObjectLimit = Unit {0}
