use Rattle.et_history.proofs.Deaths.{deaths_exact, reported_is}
use Rattle.et_history.proofs.object_laws.deaths_are_exact.Goals as goal

pub returns-clause-exact : goal.returns-clause-exact
returns-clause-exact c reached p options pick e o time up = deaths_exact reached p options pick up.is e o time up.comes

pub returns-clause-reported : goal.returns-clause-reported
returns-clause-reported c reached p options pick e o up = reported_is reached p options pick up.is e o up.comes
