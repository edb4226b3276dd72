use Rattle.std.proofs.Common.{refl, ap, ◌∙◌, sym}
use Rattle.et_io.specs.Faults.{Rose}
use Rattle.et_files.specs.Status.{is_read_status, is_write_status}
use Rattle.et_files.proofs.FaultLemmas.{same_count}
use Rattle.et_top.proofs.TopLemmas.{unverified_gives, told_no_write, told_no_read, told_no_usage}
use Rattle.et_top.proofs.verdict.tell_verdict.Goals as goal

pub returns-in-Ok-clause-gives : goal.returns-in-Ok-clause-gives
returns-in-Ok-clause-gives g c reached old new from to = c.put_count.ensures.gives c.args.program.now c.in-Ok.ensures.verdict.0 c.in-Ok.ensures.verdict.1 reached old new from to

pub returns-in-Err-clause-gives : goal.returns-in-Err-clause-gives
returns-in-Err-clause-gives g c reached old new from to =
    unverified_gives reached (g.O.Sink.taken c.args.out.now) old new (Rose from to) (Rose (g.O.Sink.faults c.args.out.now) (g.O.Sink.faults c.args.out.now)) c.args.program.now c.in-Err.fault c.unverified.result c.refuse.result c.in-Err.ensures.verdict c.unverified.ensures c.refuse.ensures.status

pub returns-in-Err-clause-write_fault : goal.returns-in-Err-clause-write_fault
returns-in-Err-clause-write_fault g c = same_count (is_write_status c.refuse.result) _ _ refl (ap is_write_status c.refuse.ensures.status ∙ told_no_write c.args.program.now c.in-Err.fault c.unverified.result c.unverified.ensures)

pub returns-in-Err-clause-no_read : goal.returns-in-Err-clause-no_read
returns-in-Err-clause-no_read g c = ap is_read_status c.refuse.ensures.status ∙ told_no_read c.args.program.now c.in-Err.fault c.unverified.result c.unverified.ensures

pub returns-in-Err-clause-usage : goal.returns-in-Err-clause-usage
returns-in-Err-clause-usage g c e = told_no_usage c.args.program.now c.in-Err.fault c.unverified.result c.unverified.ensures (sym c.refuse.ensures.status ∙ e)
