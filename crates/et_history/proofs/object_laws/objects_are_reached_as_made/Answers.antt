use Rattle.std.proofs.Common.{arith}
use Rattle.et_history.proofs.Reached.{first_reached, made_then}
use Rattle.et_history.proofs.object_laws.objects_are_reached_as_made.Goals as goal

pub returns-clause-first : goal.returns-clause-first
returns-clause-first c reached p options pick o decides some within = first_reached reached p options pick decides o some within

pub returns-clause-made : goal.returns-clause-made
returns-clause-made c reached p options pick e o decides goes above within = made_then reached p options pick decides e _ o (omega arith) goes above within
