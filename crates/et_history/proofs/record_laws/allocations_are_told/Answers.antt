use Rattle.et_history.proofs.Allocations.{allocations_told}
use Rattle.et_history.proofs.record_laws.allocations_are_told.Goals as goal

pub returns : goal.returns
returns c reached p options pick e up plain arguments = allocations_told reached p options pick up.is plain arguments e up.comes
