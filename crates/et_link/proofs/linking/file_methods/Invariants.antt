use Rattle.std.proofs.Common.{◌≡◌, ◌++◌, drop}
use Rattle.et_program.specs.Slots.{places_from}
use Rattle.et_program.specs.ProgramOf.{is_of_file}
use Rattle.et_link.proofs.linking.file_methods.Given as goal

abbrev pub invariant-loop-i : goal.invariant-loop-i
invariant-loop-i l = l.list.items ++ places_from is_of_file l.i (drop l.i l.methods) ≡ places_from is_of_file 0 l.methods
