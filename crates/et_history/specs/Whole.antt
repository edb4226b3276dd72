-- THE HISTORY OF A PROGRAM IN WHICH NOTHING IS FREED: each object that was ever made stays in the state, those that were
-- reported beside the others, and the graph has what they all lead to.
use Rattle.std.specs.Prelude.{ℕ, Bool, List, [], Option, Some, None, map}
use Rattle.et_heap.specs.Objects.{ObjectState, Objects}
use Rattle.et_state.specs.Past.{kept_referent, flushed}
use Rattle.et_state.specs.Roots.{graph}
use Rattle.et_state.specs.State.{Kept, State}
use Rattle.et_state.specs.History.{Setting}
use Rattle.et_state.specs.Outcome.{Outcome}
use Rattle.et_state.specs.Outcome as outcome
use Rattle.et_state.specs.Start.{start}
use Rattle.et_state.specs.declared.options.Options.{Options}
use Rattle.et_program.specs.Entries.{Linked}
use Rattle.et_event.specs.Told.{event_with_texts}
use Rattle.et_loop.specs.Options.{setting_of}
use Rattle.et_history.specs.steps.Telling.{names_of_program}
use Rattle.et_history.specs.Settings.{flushed_of, unended_threads, flush_visits_of}

-- what an event leads to where these objects were reported, which it leaves as they are
abbrev pub beside : Objects → Outcome Kept → Outcome State
beside reported (outcome.Goes next records) = outcome.Goes (record { kept = next; reported = reported }) records
beside reported (outcome.Waits next) = outcome.Waits (record { kept = next; reported = reported })
beside reported (outcome.IllTyped method pc) = outcome.IllTyped method pc
beside reported outcome.ObjectLimit = outcome.ObjectLimit

abbrev pub whole_event : Linked → State → ℕ → Outcome State
whole_event p s t = beside s.reported (event_with_texts p s.kept t)

abbrev pub whole_unended : State → List ℕ
whole_unended s = unended_threads s.kept

-- an object that refers weakly to what isn't here refers to nothing
abbrev pub cleared : (ℕ → Bool) → Option ObjectState → Option ObjectState
cleared here None = None
cleared here (Some x) = Some (record x { referent = kept_referent here x.referent })

-- A FLUSH reports what isn't here, clears each object that refers weakly to such, also one that was reported, puts what it
-- cleared and that stays in its queue, and forgets the texts of what it reports. It does nothing else.
abbrev pub whole_flushed : (ℕ → Bool) → State → State
whole_flushed here s = record { kept = flushed_of here s.kept; reported = map (cleared here) (flushed here s).reported }

abbrev pub whole_setting : Linked → Options → Setting State
whole_setting p options = setting_of (whole_event p) whole_unended graph whole_flushed (names_of_program p) options

-- the first state: nothing was reported
abbrev pub whole_start : Linked → State
whole_start p = record { kept = start p; reported = [] }

-- how many visits of objects a flush makes at most: as many as over what a machine keeps
abbrev pub whole_visits_of : (ℕ → Bool) → State → ℕ
whole_visits_of here s = flush_visits_of here s.kept

-- what an event prints, by what the machine keeps
abbrev pub whole_said : (Kept → ℕ → List ℕ) → State → ℕ → List ℕ
whole_said said s t = said s.kept t
