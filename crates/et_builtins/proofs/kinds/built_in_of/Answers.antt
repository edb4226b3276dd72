use Rattle.std.proofs.Common.{◌≡◌, ◌≤◌, Option, Some, None, sym}
use Rattle.std.specs.Prelude.{IfSome}
use Rattle.et_program.specs.BootMethods.BuiltIn.{BuiltIn}
use Rattle.et_program.specs.BuiltIns.{built_in_of as kind_of}
use Rattle.et_program.specs.Entries.{method_at}
use Rattle.et_program.specs.declared.info.MethodInfo.{MethodInfo}
use Rattle.et_event.specs.BuiltIns.{entries_answered}
use Rattle.et_event.specs.Operands.{returned_width}
use Rattle.et_event.specs.Sound.{returned_of}
use Rattle.et_event.proofs.BuiltInRoom.{answers_fit}
use Rattle.et_builtins.proofs.kinds.built_in_of.Goals as goal

fits : (m : MethodInfo) (r : Option BuiltIn) → r ≡ kind_of m → IfSome r (λ b. entries_answered b ≤ returned_width (returned_of m))
fits m None e = tt
fits m (Some b) e = answers_fit m b (sym e)

pub returns-clause-width : goal.returns-clause-width
returns-clause-width c = fits (method_at c.args.program.now c.args.method) c.built_in.result c.built_in.ensures
