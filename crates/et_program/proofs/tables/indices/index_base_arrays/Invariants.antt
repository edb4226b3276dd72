use Rattle.std.proofs.Common.{◌≡◌, ℕ, ◌<◌, length, take, None}
use Rattle.std.specs.List.{position_from, slice_index_or}
use Rattle.et_program.specs.Entries.{ClassEntry}
use Rattle.et_program.specs.Members.{is_base_array}
use Rattle.et_program.proofs.tables.indices.index_base_arrays.Given as goal

abbrev pub invariant-loop-i : goal.invariant-loop-i
invariant-loop-i l = record {
  size : length l.arrays.items ≡ 256;
  places : (kind : ℕ) → kind < 256 → slice_index_or l.arrays.items kind None ≡ position_from (λ (c : ClassEntry). is_base_array kind c.info.element) 0 (take l.i l.classes);
}
