use Rattle.std.proofs.Common.{◌≡◌, drop}
use Rattle.et_program.specs.Members.{method_in, first_in}
use Rattle.et_program.specs.Signatures.{sought_name, sought_descriptor}
use Rattle.et_program.proofs.program.Program.first_method.Given as goal

abbrev pub invariant-loop-class : goal.invariant-loop-class
invariant-loop-class l = first_in (method_in l.self (sought_name l.self l.sought) (sought_descriptor l.self l.sought)) (drop l.class-index l.classes) ≡ first_in (method_in l.self (sought_name l.self l.sought) (sought_descriptor l.self l.sought)) l.classes
