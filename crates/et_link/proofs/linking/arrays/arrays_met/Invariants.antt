use Rattle.std.proofs.Common.{◌≡◌, ◌∷◌, map, take}
use Rattle.std.specs.Prelude.{codes}
use Rattle.std.specs.List.{flat_map}
use Rattle.et_program.specs.Loaded.{loaded_file}
use Rattle.et_program.specs.ArrayTypes.{file_arrays}
use Rattle.et_link.proofs.linking.arrays.arrays_met.Given as goal

abbrev pub invariant-loop-file : goal.invariant-loop-file
invariant-loop-file l = l.met.items ≡ codes "[Ljava/lang/String;" ∷ flat_map file_arrays (map loaded_file (take l.file-index l.files))
