use Rattle.et_history.proofs.Wholes.{says, says_prefix, says_cut}
use Rattle.et_history.proofs.laws.histories_say_the_same.Goals as goal

pub returns-clause-said : goal.returns-clause-said
returns-clause-said c = says

pub returns-clause-prefix : goal.returns-clause-prefix
returns-clause-prefix c = says_prefix

pub returns-clause-cut : goal.returns-clause-cut
returns-clause-cut c = says_cut
