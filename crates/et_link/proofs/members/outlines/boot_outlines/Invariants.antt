use Rattle.std.proofs.Common.{◌≡◌, map, take}
use Rattle.et_program.specs.Files.{boots, boot_outline}
use Rattle.et_link.proofs.members.outlines.boot_outlines.Given as goal

abbrev pub invariant-classes : goal.invariant-classes
invariant-classes l = l.set.items ≡ map boot_outline (take l.i boots)
