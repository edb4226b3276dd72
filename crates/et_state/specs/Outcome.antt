-- What one event leads to. S is what a state is.
use Rattle.std.specs.Prelude.{ℕ, List, [], Option, Some, None}
use Rattle.et_base.specs.declared.value.End.{End}
use Rattle.et_base.specs.declared.value.End.TheVariants as ends
use Rattle.et_state.specs.declared.records.Record.{Record}

pub data Outcome (S : Type 0) : Type 0 where
  -- the next state, and the records of the event in order
  Goes : (next : S) → (records : List Record) → Outcome S
  -- the thread has to wait: the next state differs in its clock alone
  Waits : (next : S) → Outcome S
  -- the event has no meaning; the method and the pc of the thread's topmost frame
  IllTyped : (method pc : ℕ) → Outcome S
  -- the event makes more objects or slots than there may be
  ObjectLimit : Outcome S

-- the state after an event that left s where it is not done
abbrev pub state_after : {S : Type 0} → S → Outcome S → S
state_after s (Goes next records) = next
state_after s (Waits next) = next
state_after s (IllTyped method pc) = s
state_after s ObjectLimit = s

abbrev pub records_of : {S : Type 0} → Outcome S → List Record
records_of (Goes next records) = records
records_of (Waits next) = []
records_of (IllTyped method pc) = []
records_of ObjectLimit = []

-- how a history ends where the next event, which is this thread's, leads to this
abbrev pub end_by : {S : Type 0} → ℕ → Outcome S → Option End
end_by thread (Goes next records) = None
end_by thread (Waits next) = None
end_by thread (IllTyped method pc) = Some (ends.IllTyped thread method pc)
end_by thread ObjectLimit = Some ends.ObjectLimit
