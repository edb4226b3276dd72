use Rattle.et_history.proofs.Freed.{here_on, reported_on, all_here, gone_is}
use Rattle.et_history.proofs.laws.nothing_is_freed.Goals as goal

pub returns-clause-here : goal.returns-clause-here
returns-clause-here c reached p options pick e n o up h = here_on reached p options pick up.is e n o up.comes h

pub returns-clause-reported : goal.returns-clause-reported
returns-clause-reported c reached p options pick e n o x up h = reported_on reached p options pick up.is e n o x up.comes h

pub returns-clause-all : goal.returns-clause-all
returns-clause-all c reached p options pick e o up some le = all_here reached p options pick up.is e o up.comes some le

pub returns-clause-gone : goal.returns-clause-gone
returns-clause-gone c reached p options pick e o up = gone_is reached p options pick up.is e o up.comes
