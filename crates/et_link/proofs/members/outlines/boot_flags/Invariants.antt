use Rattle.std.proofs.Common.{◌≡◌, map, take}
use Rattle.et_boot.specs.Classes.{BootClassOf}
use Rattle.et_program.specs.Files.{boots}
use Rattle.et_link.proofs.members.outlines.boot_flags.Given as goal

abbrev pub invariant-classes : goal.invariant-classes
invariant-classes l = l.flags.items ≡ map (λ (c : BootClassOf). c.flags) (take l.i boots)
