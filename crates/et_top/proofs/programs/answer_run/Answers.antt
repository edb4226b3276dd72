use Rattle.std.proofs.Common.{◌∙◌, ap}
use Rattle.et_files.specs.Status.{is_write_status}
use Rattle.et_loop.specs.declared.options.Ran.{Ran}
use Rattle.et_top.proofs.FaultLemmas.{fault_write_status}
use Rattle.et_top.proofs.programs.answer_run.Goals as goal

pub returns-in-Err-clause-writes : goal.returns-in-Err-clause-writes
returns-in-Err-clause-writes g c = rw c.in-Err.is (ap is_write_status c.answer_fault.ensures.status ∙ fault_write_status Ran c.in-Err.fault)
