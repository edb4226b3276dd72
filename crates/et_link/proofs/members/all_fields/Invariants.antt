use Rattle.std.proofs.Common.{◌≡◌, ◌++◌, length, map, take, false}
use Rattle.et_program.specs.Loaded.{loaded_file}
use Rattle.et_program.specs.Files.{boots}
use Rattle.et_program.specs.MembersOf.{numbered, boot_fields, file_fields}
use Rattle.et_link.proofs.members.all_fields.Given as goal

abbrev pub invariant-loop-i : goal.invariant-loop-i
invariant-loop-i l = l.list.items ≡ numbered (boot_fields false) 0 boots ++ numbered file_fields (length boots) (map loaded_file (take l.i l.files))
