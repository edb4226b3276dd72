use Rattle.std.proofs.Common.{◌≡◌, ◌++◌, map, take}
use Rattle.et_boot.specs.Shown.{shown_method}
use Rattle.et_program.specs.MembersOf.{boot_method}
use Rattle.et_link.proofs.members.add_boot_methods.Given as goal

abbrev pub invariant-loop-method : goal.invariant-loop-method
invariant-loop-method l = l.list.items ≡ l.initial.list.items ++ map (boot_method l.class) (map shown_method (take l.method-index l.method-items))
