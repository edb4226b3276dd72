use Rattle.et_history.proofs.Histories.{one, owner, count}
use Rattle.et_history.proofs.laws.monitors_exclude.Goals as goal

pub returns-clause-one : goal.returns-clause-one
returns-clause-one c = one

pub returns-clause-owner : goal.returns-clause-owner
returns-clause-owner c = owner

pub returns-clause-count : goal.returns-clause-count
returns-clause-count c = count
