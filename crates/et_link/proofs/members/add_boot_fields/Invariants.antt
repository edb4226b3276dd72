use Rattle.std.proofs.Common.{◌≡◌, ◌++◌, map, take}
use Rattle.std.specs.List.{filter}
use Rattle.et_boot.specs.Shown.{shown_field}
use Rattle.et_program.specs.MembersOf.{boot_field, is_boot_static}
use Rattle.et_link.proofs.members.add_boot_fields.Given as goal

abbrev pub invariant-loop-field : goal.invariant-loop-field
invariant-loop-field l = l.list.items ≡ l.initial.list.items ++ map (boot_field l.class) (filter (is_boot_static l.statics) (map shown_field (take l.field-index l.field-items)))
