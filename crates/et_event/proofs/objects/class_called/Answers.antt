use Rattle.std.proofs.Common.{ℕ, Option, Some, sym, ◌∙◌, ap}
use Rattle.std.specs.Prelude.{unwrap_or}
use Rattle.et_program.specs.BootNames.{built_in_class_name}
use Rattle.et_program.proofs.PlaceLemmas.{class_found_within}
use Rattle.et_program.proofs.Standing.{named_at}
use Rattle.et_event.proofs.objects.class_called.Goals as goal

pub returns-clause-value : goal.returns-clause-value
returns-clause-value c = c.new.ensures ∙ sym (ap (λ (o : Option ℕ). unwrap_or o 0) (named_at c.args.program.now (built_in_class_name c.args.class) c.place.result c.is_linked.ensures.linked c.place.ensures))

pub returns-clause-within : goal.returns-clause-within
returns-clause-within c = class_found_within c.args.program.now (built_in_class_name c.args.class) (Some c.new.result) (ap Some c.new.ensures ∙ sym (named_at c.args.program.now (built_in_class_name c.args.class) c.place.result c.is_linked.ensures.linked c.place.ensures))
