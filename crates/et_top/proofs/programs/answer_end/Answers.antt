use Rattle.std.proofs.Common.{◌∙◌, ap, subst}
use Rattle.et_files.specs.Status.{is_read_status, is_write_status}
use Rattle.et_top.specs.Visits.{IsBeforeRun}
use Rattle.et_top.proofs.FaultLemmas.{end_no_read, end_no_write}
use Rattle.et_top.proofs.VisitLemmas.{end_of_run}
use Rattle.et_top.proofs.programs.answer_end.Goals as goal

pub returns-clause-status : goal.returns-clause-status
returns-clause-status g c = c.answer.ensures ∙ c.ended.ensures

pub returns-clause-no_read : goal.returns-clause-no_read
returns-clause-no_read g c = ap is_read_status (c.answer.ensures ∙ c.ended.ensures) ∙ end_no_read c.args.end

pub returns-clause-no_write : goal.returns-clause-no_write
returns-clause-no_write g c = ap is_write_status (c.answer.ensures ∙ c.ended.ensures) ∙ end_no_write c.args.end

pub returns-clause-of_run : goal.returns-clause-of_run
returns-clause-of_run g c before = end_of_run c.args.end (subst IsBeforeRun (c.answer.ensures ∙ c.ended.ensures) before)
