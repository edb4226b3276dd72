use Rattle.std.proofs.Common.{◌∙◌, ap, subst}
use Rattle.et_files.specs.Refusals.{status_of}
use Rattle.et_files.specs.Status.{is_read_status}
use Rattle.et_top.specs.Visits.{IsBeforeRun}
use Rattle.et_top.proofs.FaultLemmas.{fault_no_read}
use Rattle.et_top.proofs.VisitLemmas.{fault_of_run}
use Rattle.et_top.proofs.answers.answer_fault.Goals as goal

pub returns-clause-no_read : goal.returns-clause-no_read
returns-clause-no_read g c = ap is_read_status (c.refuse.ensures.status ∙ ap status_of c.of_fault.ensures) ∙ fault_no_read c.args.fault

pub returns-clause-of_run : goal.returns-clause-of_run
returns-clause-of_run g c before = fault_of_run c.args.fault (subst IsBeforeRun (c.refuse.ensures.status ∙ ap status_of c.of_fault.ensures) before)
