use Rattle.std.proofs.Common.{◌≡◌, ◌++◌, map, take}
use Rattle.std.specs.List.{flat_map}
use Rattle.et_program.specs.Loaded.{LoadedMember, loaded_member}
use Rattle.et_program.specs.ArrayTypes.{made_in_method}
use Rattle.et_link.proofs.linking.arrays.add_file_arrays.Given as goal

abbrev pub invariant-loop-method : goal.invariant-loop-method
invariant-loop-method l = l.list.items ≡ l.initial.list.items ++ flat_map (λ (m : LoadedMember). made_in_method l.file.pool.slots m.code) (map loaded_member (take l.method-index l.method-items))
