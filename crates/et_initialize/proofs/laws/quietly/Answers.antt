use Rattle.et_initialize.proofs.Legal.{quietly_ready, quietly_made}
use Rattle.et_initialize.proofs.laws.quietly.Goals as goal

pub returns-clause-ready : goal.returns-clause-ready
returns-clause-ready c = quietly_ready

pub returns-clause-made : goal.returns-clause-made
returns-clause-made c = quietly_made
