use Rattle.std.proofs.Common.{◌≡◌, ◌++◌, length, map}
use Rattle.std.specs.Vec.Iter.{into_iter_items, into_iter_len}
use Rattle.et_program.specs.Loaded.{loaded_member}
use Rattle.et_program.specs.MembersOf.{file_method}
use Rattle.et_link.proofs.members.add_file_methods.Given as goal

abbrev pub invariant-loop-method : goal.invariant-loop-method
invariant-loop-method l = record {
  taken : l.yielded ++ into_iter_items l.method-iterator ≡ into_iter_items l.initial.method-iterator;
  left : into_iter_len l.method-iterator ≡ length (into_iter_items l.method-iterator);
  put : l.list.items ≡ l.initial.list.items ++ map (file_method l.pool.slots l.class) (map loaded_member l.yielded);
}
