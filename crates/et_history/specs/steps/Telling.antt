-- WHAT AN EVENT NAMES is of its program.
use Rattle.std.specs.Prelude.{◌≡◌, ◌+◌, All, length}
use Rattle.et_program.specs.Entries.{Linked, class_at, method_at}
use Rattle.et_state.specs.State.{Kept}
use Rattle.et_state.specs.Naming.{IsNamed, Names}
use Rattle.et_state.specs.Outcome.{Outcome}
use Rattle.et_state.specs.Outcome as outcome

-- the names of the classes and methods of a program
abbrev pub names_of_program : Linked → Names
names_of_program p = record {
  class_count = length p.classes;
  method_count = length p.methods;
  class_name = λ c. (class_at p c).info.name;
  method_class = λ m. (method_at p m).class;
  method_name = λ m. (method_at p m).name;
  method_descriptor = λ m. (method_at p m).descriptor;
}

-- where the event was done, or the thread waited, the clock went on by one, and what the records name is of the program
abbrev pub IsToldOf : Linked → Kept → Outcome Kept → Type 0
IsToldOf p s (outcome.Goes next records) = (next.guest.clock ≡ s.guest.clock + 1) × All (IsNamed (names_of_program p)) records
IsToldOf p s (outcome.Waits next) = next.guest.clock ≡ s.guest.clock + 1
IsToldOf p s (outcome.IllTyped method pc) = Unit {0}
IsToldOf p s outcome.ObjectLimit = Unit {0}
