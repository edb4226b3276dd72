-- The records of the state before the first event.
use Rattle.std.specs.Prelude.{List, [], ◌∷◌}
use Rattle.et_program.specs.Entries.{Linked}
use Rattle.et_state.specs.Start.{argument_class}
use Rattle.et_state.specs.declared.records.Record.{Record}
use Rattle.et_state.specs.declared.records.Record.TheVariants.{Alloc}
use Rattle.et_event.specs.Moments.{array_size}

abbrev pub start_records : Linked → List Record
start_records p = Alloc 0 0 1 (argument_class p) (array_size 0 8) 0 ∷ []
