use Rattle.et_program.proofs.TableLemmas.{class_within, info_within}
use Rattle.et_program.proofs.program.Program.entry.Goals as goal

pub returns-clause-within : goal.returns-clause-within
returns-clause-within c = class_within _ _ c.number.result _ c.self.invariant.0 c.self.view_is (rw c.number.ensures.value c.requires) c.index.ensures

pub returns-clause-info : goal.returns-clause-info
returns-clause-info c = info_within _ _ c.number.result _ c.self.invariant.0 c.self.view_is (rw c.number.ensures.value c.requires) c.index.ensures
