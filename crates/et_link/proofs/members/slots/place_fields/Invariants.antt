use Rattle.std.proofs.Common.{◌≡◌, ◌++◌, length, []}
use Rattle.std.specs.List.{slice_index_or}
use Rattle.std.specs.Vec.Iter.{into_iter_items, into_iter_len}
use Rattle.et_program.specs.Slots.{placed_behind}
use Rattle.et_link.specs.Counts.{Counts}
use Rattle.et_link.proofs.members.slots.place_fields.Given as goal

abbrev pub invariant-loop-field : goal.invariant-loop-field
invariant-loop-field l = record {
  taken : l.yielded ++ into_iter_items l.field-iterator ≡ into_iter_items l.initial.field-iterator;
  left : into_iter_len l.field-iterator ≡ length (into_iter_items l.field-iterator);
  size : length l.next.items ≡ length l.above;
  counts : Counts (λ k. slice_index_or l.above k 0) l.yielded l.next.items l.statics;
  put : l.list.items ≡ placed_behind (λ k. slice_index_or l.above k 0) [] l.yielded;
}
