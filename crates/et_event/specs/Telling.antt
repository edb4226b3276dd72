-- Where a machine stands in the middle of an event, with its records.
use Rattle.std.specs.Prelude.{◌≡◌, ℕ, List, []}
use Rattle.et_base.specs.declared.value.Value.{Value}
use Rattle.et_state.specs.State.{Kept, MachineState, kept_of}
use Rattle.et_state.specs.declared.records.Record.{Record}
use Rattle.et_program.specs.Entries.{Linked}
use Rattle.et_event.specs.Moments.{Doing, updated}

-- what the machine keeps, and these records
abbrev pub so_far : MachineState → List Record → Doing
so_far m out = record { state = kept_of m; records = out }

-- an event of this number has come to what the machine keeps, and has told nothing yet
abbrev pub in_event : ℕ → MachineState → Doing
in_event event m = record { state = record { heap = m.heap; guest = record m.guest { clock = event } }; records = [] }

-- a machine that keeps something else, and has lost nothing more
abbrev pub with_kept : MachineState → Kept → MachineState
with_kept m k = record { heap = k.heap; guest = k.guest; lost = m.lost }

-- MACHINE AND RECORDS STAND AT WHAT WAS DONE, from m on, and nothing more is lost
abbrev pub StandsAt : Doing → MachineState → MachineState → List Record → Type 0
StandsAt d m m' out = (m' ≡ with_kept m d.state) × (out ≡ d.records)

-- What the event of this number tells of a value that is written over another one, to a slot of an object, or to a static
-- slot, where the object is 0
abbrev pub TellsUpdate : ℕ → ℕ → ℕ → ℕ → Value → Value → List Record → List Record → Type 0
TellsUpdate event t o i old value out out' =
    (p : Linked) (b s : Kept) → s.guest.clock ≡ event → out' ≡ (updated (record { program = p; before = b; thread = t }) o i old value (record { state = s; records = out })).records
