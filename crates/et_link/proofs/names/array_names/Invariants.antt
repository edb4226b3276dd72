use Rattle.std.proofs.Common.{◌≡◌, take}
use Rattle.et_program.specs.Indices.{number_of_name}
use Rattle.et_program.specs.ArrayTypes.{array_names}
use Rattle.et_link.specs.Naming.{AreIndexed}
use Rattle.et_link.proofs.names.array_names.Given as goal

abbrev pub invariant-loop-name : goal.invariant-loop-name
invariant-loop-name l = record {
  first : l.arrays.first ≡ l.first;
  names : l.arrays.names.items ≡ array_names (number_of_name l.places) (take l.name-index l.met);
  index : AreIndexed l.arrays;
}
