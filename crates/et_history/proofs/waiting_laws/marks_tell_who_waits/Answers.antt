use Rattle.et_history.proofs.Runs.{linked_history}
use Rattle.et_history.proofs.Waits.{waits_is, waits_in_one, waits_once}
use Rattle.et_history.proofs.waiting_laws.marks_tell_who_waits.Goals as goal

pub returns-clause-marked : goal.returns-clause-marked
returns-clause-marked c reached p options pick e r decides tabled is are goes = waits_is reached p options pick (linked_history reached p options decides tabled is are) e r goes

pub returns-clause-one : goal.returns-clause-one
returns-clause-one c reached p options pick e q u r decides tabled is are goes a b = waits_in_one reached p options pick (linked_history reached p options decides tabled is are) e q u r goes a b

pub returns-clause-once : goal.returns-clause-once
returns-clause-once c reached p options pick e q decides tabled is are goes = waits_once reached p options pick (linked_history reached p options decides tabled is are) e q goes
