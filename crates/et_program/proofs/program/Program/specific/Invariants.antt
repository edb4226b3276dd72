use Rattle.std.proofs.Common.{◌≡◌, length, drop}
use Rattle.std.specs.List.{filter_map}
use Rattle.et_program.specs.Counted.{IsOneBelow}
use Rattle.et_program.proofs.Counting.{amount_after}
use Rattle.et_program.specs.Members.{amount, specific_in}
use Rattle.et_program.specs.Signatures.{sought_name, sought_descriptor}
use Rattle.et_program.proofs.program.Program.specific.Given as goal

abbrev pub invariant-loop-interface : goal.invariant-loop-interface
invariant-loop-interface l = record {
  counted : amount_after l.found (filter_map (specific_in l.self (sought_name l.self l.sought) (sought_descriptor l.self l.sought) l.all) (drop l.interface-index l.all)) ≡ amount (filter_map (specific_in l.self (sought_name l.self l.sought) (sought_descriptor l.self l.sought) l.all) l.all);
  within : IsOneBelow (length l.self.methods) l.found;
}
