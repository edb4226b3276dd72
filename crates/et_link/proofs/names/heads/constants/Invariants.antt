use Rattle.std.proofs.Common.{◌≡◌, ℕ, ◌<◌, ◌++◌, [], ◌==◌, ◌&&◌, length, drop}
use Rattle.std.specs.List.{slice_index_or}
use Rattle.et_program.specs.declared.info.FieldInfo.{FieldInfo}
use Rattle.et_program.specs.Slots.{places_from}
use Rattle.et_program.specs.Heads.{has_constant, constants_of}
use Rattle.et_link.proofs.names.heads.constants.Given as goal

abbrev pub invariant-loop-i : goal.invariant-loop-i
invariant-loop-i l = record {
  size : length l.lists.items ≡ l.count;
  lists : (k : ℕ) → k < l.count → slice_index_or l.lists.items k [] ++ places_from (λ (f : FieldInfo). (f.class == k) && has_constant f) l.i (drop l.i l.fields) ≡ constants_of l.fields k;
}
