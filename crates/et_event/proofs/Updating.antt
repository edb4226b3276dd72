-- What is told of a value that is written.
use Rattle.std.proofs.Common.{◌≡◌, ℕ, List, [], ◌∷◌, ◌++◌, refl}
use Rattle.et_base.specs.declared.value.Value.{Value}
use Rattle.et_base.specs.declared.value.Value.TheVariants.{Ref}
use Rattle.et_state.specs.State.{Kept}
use Rattle.et_state.specs.Texts.{no_texts}
use Rattle.et_state.specs.declared.records.Record.{Record}
use Rattle.et_state.specs.declared.records.Record.TheVariants.{Update}
use Rattle.et_program.specs.Entries.{Linked}
use Rattle.et_event.specs.Moments.{number_of_value}
use Rattle.et_event.specs.Telling.{TellsUpdate}

-- any program, and any state at this event
some_program : Linked
some_program = record { classes = []; methods = []; fields = []; statics = []; file_methods = []; main = 0; pools = [] }

abbrev at_event : ℕ → Kept
at_event event = record {
  heap = [];
  guest = record { clock = event; statics = []; threads = []; classes = []; class_monitors = []; interned = []; texts = no_texts };
}

-- a reference that is written gives one record
pub tells_reference : (event t o i new : ℕ) (old : Value) (out out' : List Record) → TellsUpdate event t o i old (Ref new) out out' → out' ≡ out ++ Update event t o i (number_of_value old) new ∷ []
tells_reference event t o i new old out out' tells = tells some_program (at_event event) (at_event event) refl
