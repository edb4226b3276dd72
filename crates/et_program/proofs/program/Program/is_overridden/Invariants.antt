use Rattle.std.proofs.Common.{◌≡◌, ◌&&◌, drop, is_some}
use Rattle.std.specs.List.{list_any}
use Rattle.et_program.specs.Members.{open_in, is_above, is_overridden}
use Rattle.et_program.specs.Signatures.{sought_name, sought_descriptor}
use Rattle.et_program.proofs.program.Program.is_overridden.Given as goal

abbrev pub invariant-loop-other : goal.invariant-loop-other
invariant-loop-other l = list_any (λ j. is_above l.self l.interface j && is_some (open_in l.self (sought_name l.self l.sought) (sought_descriptor l.self l.sought) j)) (drop l.other-index l.all) ≡ is_overridden l.self (sought_name l.self l.sought) (sought_descriptor l.self l.sought) l.all l.interface
