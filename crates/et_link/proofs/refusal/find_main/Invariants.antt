use Rattle.std.proofs.Common.{◌≡◌, drop}
use Rattle.std.specs.List.{position_from}
use Rattle.et_program.specs.ProgramOf.{is_main, main_of}
use Rattle.et_link.proofs.refusal.find_main.Given as goal

abbrev pub invariant-loop-i : goal.invariant-loop-i
invariant-loop-i l = position_from is_main l.i (drop l.i l.methods) ≡ main_of l.methods
