use Rattle.et_history.proofs.Causes.{has_cause}
use Rattle.et_history.proofs.LinkedSizes.{plain_strings, arguments_are}
use Rattle.et_history.proofs.record_laws.programs_have_sizes.Goals as goal

pub returns-clause-strings : goal.returns-clause-strings
returns-clause-strings c files p is = plain_strings files p is

pub returns-clause-arguments : goal.returns-clause-arguments
returns-clause-arguments c files p named is = arguments_are files p named is

pub returns-clause-cause : goal.returns-clause-cause
returns-clause-cause c files p is may = has_cause files p is may
