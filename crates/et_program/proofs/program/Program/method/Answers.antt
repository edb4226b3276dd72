use Rattle.et_program.proofs.TableLemmas.{owner_within}
use Rattle.et_program.proofs.program.Program.method.Goals as goal

pub returns-clause-class : goal.returns-clause-class
returns-clause-class c = owner_within _ _ c.number.result _ c.self.invariant.0 c.self.view_is (rw c.number.ensures.value c.requires) c.index.ensures
