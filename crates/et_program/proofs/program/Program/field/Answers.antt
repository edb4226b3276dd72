use Rattle.et_program.proofs.TableLemmas.{field_class_within}
use Rattle.et_program.proofs.program.Program.field.Goals as goal

pub returns-clause-class : goal.returns-clause-class
returns-clause-class c = field_class_within _ _ c.number.result _ c.self.invariant.0 c.self.view_is (rw c.number.ensures.value c.requires) c.index.ensures
