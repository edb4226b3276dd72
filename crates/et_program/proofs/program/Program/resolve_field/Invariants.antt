use Rattle.std.proofs.Common.{◌≡◌, drop}
use Rattle.et_program.specs.Members.{field_in, first_in}
use Rattle.et_program.proofs.program.Program.resolve_field.Given as goal

abbrev pub invariant-loop-class : goal.invariant-loop-class
invariant-loop-class l = first_in (field_in l.self l.name l.descriptor) (drop l.class-index l.order) ≡ first_in (field_in l.self l.name l.descriptor) l.order
