use Rattle.std.proofs.lemmas.List.Elements.{All-weaker}
use Rattle.et_history.specs.programs.Fields.{HasStaticConstants, KeepsFieldRules}
use Rattle.et_history.proofs.programs.Programs.{in_order as proof}
use Rattle.et_history.proofs.program_laws.programs_are_in_order.Goals as goal

pub returns : goal.returns
returns c = λ files p rules linkable is. proof files p (All-weaker KeepsFieldRules HasStaticConstants (λ x h. h.constants) files rules) linkable is
