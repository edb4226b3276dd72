use Rattle.std.proofs.Common.{◌≡◌, ◌++◌, map, take}
use Rattle.et_program.specs.Loaded.{loaded_member}
use Rattle.et_program.specs.MembersOf.{file_field}
use Rattle.et_link.proofs.members.add_file_fields.Given as goal

abbrev pub invariant-loop-field : goal.invariant-loop-field
invariant-loop-field l = l.list.items ≡ l.initial.list.items ++ map (file_field l.file.pool.slots l.class) (map loaded_member (take l.field-index l.field-items))
