use Rattle.std.proofs.Common.{◌∙◌, ap}
use Rattle.et_files.specs.Status.{is_read_status, is_write_status}
use Rattle.et_files.proofs.FaultLemmas.{read_status, no_write_status}
use Rattle.et_files.proofs.refusal.refuse.Goals as goal

pub returns-clause-reads : goal.returns-clause-reads
returns-clause-reads g c = ap is_read_status c.status.ensures ∙ read_status c.args.refusal.now

pub returns-clause-writes : goal.returns-clause-writes
returns-clause-writes g c of = ap is_write_status c.status.ensures ∙ no_write_status c.args.refusal.now of
