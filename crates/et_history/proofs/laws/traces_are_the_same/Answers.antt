use Rattle.et_history.proofs.Wholes.{trace, prefix, visits, cut}
use Rattle.et_history.proofs.laws.traces_are_the_same.Goals as goal

pub returns-clause-trace : goal.returns-clause-trace
returns-clause-trace c = trace

pub returns-clause-prefix : goal.returns-clause-prefix
returns-clause-prefix c = prefix

pub returns-clause-visits : goal.returns-clause-visits
returns-clause-visits c = visits

pub returns-clause-cut : goal.returns-clause-cut
returns-clause-cut c = cut
