-- What a call that does an event answers, and what it leaves.
use Rattle.std.specs.Prelude.{◌≡◌, ℕ, Bool, true, false, List, ◌++◌, Option, Some, None}
use Rattle.et_state.specs.Threads.{FrameState}
use Rattle.et_state.specs.State.{Kept, MachineState, kept_of}
use Rattle.et_state.specs.Words.{with_top, ticked}
use Rattle.et_state.specs.Moves.{Led}
use Rattle.et_state.specs.Spoken.{silent}
use Rattle.et_state.specs.Texts.{Texts}
use Rattle.et_state.specs.declared.records.Record.{Record}
use Rattle.et_state.specs.declared.ends.EventEnd.{EventEnd}
use Rattle.et_state.specs.declared.ends.EventEnd.TheVariants as ends
use Rattle.et_state.specs.Outcome.{Outcome}
use Rattle.et_state.specs.Outcome as outcome

-- The answer is the one of the outcome. Where the event was done, a legal step led from what the machine m kept to what m'
-- keeps, which is the next state and sound, and the records of the event stand behind those that were there. Where it was
-- not done, machine and records are as before.
abbrev pub EventAnswers : Outcome Kept → EventEnd → MachineState → MachineState → List Record → List Record → Type 0
EventAnswers (outcome.Goes next records) ends.Done m m' out out' = Led (kept_of m) next m' × (out' ≡ out ++ records)
EventAnswers (outcome.Waits next) ends.Waited m m' out out' = Led (kept_of m) next m' × (out' ≡ out)
EventAnswers (outcome.IllTyped method pc) (ends.IllTyped named at) m m' out out' = (named ≡ method) × (at ≡ pc) × (m' ≡ m) × (out' ≡ out)
EventAnswers outcome.ObjectLimit ends.ObjectLimit m m' out out' = (m' ≡ m) × (out' ≡ out)
EventAnswers o end m m' out out' = ⊥

-- .. for an event that changes nothing but the topmost frame of thread t: true exactly where there is a frame after it
abbrev pub StepsFrame : Option FrameState → Bool → ℕ → MachineState → MachineState → Type 0
StepsFrame (Some f) true t m m' = Led (kept_of m) (record { heap = m.heap; guest = with_top (ticked m.guest) t f }) m'
StepsFrame None false t m m' = m' ≡ m
StepsFrame f done t m m' = ⊥

-- WHAT IS ANSWERED BY A CALL THAT DEFERS: the method, and then machine and records are as before. Else it does the event
abbrev pub DefersOrAnswers : Option ℕ → Outcome Kept → EventEnd → MachineState → MachineState → List Record → List Record → Type 0
DefersOrAnswers (Some method) o end m m' out out' = (end ≡ ends.Native method) × (m' ≡ m) × (out' ≡ out)
DefersOrAnswers None o end m m' out out' = EventAnswers o end m m' out out'

-- .. for an event of a state that has texts, which stand beside the machine
abbrev pub TextAnswers : Outcome Kept → EventEnd → MachineState → MachineState → Texts → Texts → List Record → List Record → Type 0
TextAnswers (outcome.Goes next records) ends.Done m m' x x' out out' = Led (kept_of m) (silent next) m' × (x' ≡ next.guest.texts) × (out' ≡ out ++ records)
TextAnswers (outcome.Waits next) ends.Waited m m' x x' out out' = Led (kept_of m) (silent next) m' × (x' ≡ next.guest.texts) × (out' ≡ out)
TextAnswers (outcome.IllTyped method pc) (ends.IllTyped named at) m m' x x' out out' = (named ≡ method) × (at ≡ pc) × (m' ≡ m) × (x' ≡ x) × (out' ≡ out)
TextAnswers outcome.ObjectLimit ends.ObjectLimit m m' x x' out out' = (m' ≡ m) × (x' ≡ x) × (out' ≡ out)
TextAnswers o end m m' x x' out out' = ⊥
