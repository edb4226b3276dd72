use Rattle.std.proofs.Common.{◌∙◌, Some, sym}
use Rattle.et_program.proofs.PlaceLemmas.{class_found_within}
use Rattle.et_program.proofs.program.Program.resolve_class.Goals as goal

pub returns-in-Some-clause-within : goal.returns-in-Some-clause-within
returns-in-Some-clause-within c = class_found_within c.args.self.now c.args.name.now (Some c.in-Some.class) (sym c.in-Some.is ∙ c.class_named.ensures)
