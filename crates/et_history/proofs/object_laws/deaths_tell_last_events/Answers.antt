use Rattle.et_history.proofs.Reached.{told_reached, told_earlier, told_last}
use Rattle.et_history.proofs.object_laws.deaths_tell_last_events.Goals as goal

pub returns-clause-told : goal.returns-clause-told
returns-clause-told c reached p options pick e o time decides goes told = told_reached reached p options pick decides e o time goes told

pub returns-clause-earlier : goal.returns-clause-earlier
returns-clause-earlier c reached p options pick e o time decides goes told = told_earlier reached p options pick decides e o time goes told

pub returns-clause-last : goal.returns-clause-last
returns-clause-last c reached p options pick e o time k told lt le = told_last reached p options pick e o time k told lt le
