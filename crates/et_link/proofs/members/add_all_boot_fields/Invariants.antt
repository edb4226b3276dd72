use Rattle.std.proofs.Common.{◌≡◌, ◌++◌, take}
use Rattle.et_program.specs.Files.{boots}
use Rattle.et_program.specs.MembersOf.{numbered, boot_fields}
use Rattle.et_link.proofs.members.add_all_boot_fields.Given as goal

abbrev pub invariant-classes : goal.invariant-classes
invariant-classes l = l.list.items ≡ l.initial.list.items ++ numbered (boot_fields l.statics) 0 (take l.i boots)
