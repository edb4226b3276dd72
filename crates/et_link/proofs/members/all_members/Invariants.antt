use Rattle.std.proofs.Common.{◌≡◌, ◌+◌, ◌++◌, length, map}
use Rattle.std.specs.Vec.Iter.{into_iter_items, into_iter_len}
use Rattle.et_program.specs.Loaded.{loaded_file}
use Rattle.et_program.specs.Files.{boots}
use Rattle.et_program.specs.MembersOf.{numbered, file_methods, file_pool}
use Rattle.et_link.proofs.members.all_members.Given as goal

abbrev pub invariant-loop-file : goal.invariant-loop-file
invariant-loop-file l = record {
  taken : l.yielded ++ into_iter_items l.file-iterator ≡ into_iter_items l.initial.file-iterator;
  left : into_iter_len l.file-iterator ≡ length (into_iter_items l.file-iterator);
  place : l.place ≡ length boots + length l.yielded;
  methods : l.methods.items ≡ l.initial.methods.items ++ numbered file_methods (length boots) (map loaded_file l.yielded);
  pools : l.pools.items ≡ l.initial.pools.items ++ map file_pool (map loaded_file l.yielded);
}
