use Rattle.std.proofs.Common.{Err, ◌∙◌, ap, subst}
use Rattle.et_io.specs.Faults.{Rose, is_write_fault}
use Rattle.et_files.specs.Status.{is_write_status}
use Rattle.et_top.specs.Visits.{IsBeforeBench}
use Rattle.et_top.proofs.BenchHistory.{summary_gives, cut_gives, end_of_bench, fault_of_bench}
use Rattle.et_top.proofs.FaultLemmas.{rose_fault, fault_write_status}
use Rattle.et_files.proofs.FaultLemmas.{same_count, counted_as}
use Rattle.et_top.proofs.bench.put_summary.Goals as goal

pub returns-in-Ok-clause-gives : goal.returns-in-Ok-clause-gives
returns-in-Ok-clause-gives g c reached old new event lines back is =
    summary_gives reached (g.O.Sink.taken c.args.out.now) (g.O.Sink.taken c.put_all.new.sink) old new (Rose (g.O.Sink.faults c.args.out.now) (g.O.Sink.faults c.put_all.new.sink)) c.args.program.now event c.args.summary.now.end lines back _ (c.as_bytes.ensures.value ∙ is) c.answer_end.result c.answer_end.ensures.status c.in-Ok.ensures.ok

pub returns-in-Ok-clause-write_fault : goal.returns-in-Ok-clause-write_fault
returns-in-Ok-clause-write_fault g c = same_count (is_write_status c.answer_end.result) _ _ c.in-Ok.ensures.write c.answer_end.ensures.no_write

pub returns-in-Ok-clause-of_run : goal.returns-in-Ok-clause-of_run
returns-in-Ok-clause-of_run g c early = end_of_bench c.args.summary.now.end (subst IsBeforeBench c.answer_end.ensures.status early)

pub returns-in-Err-clause-gives : goal.returns-in-Err-clause-gives
returns-in-Err-clause-gives g c reached old new event lines back is =
    cut_gives reached (g.O.Sink.taken c.args.out.now) (g.O.Sink.taken c.put_all.new.sink) old new (Rose (g.O.Sink.faults c.args.out.now) (g.O.Sink.faults c.put_all.new.sink)) c.args.program.now event c.args.summary.now.end lines back _ (c.as_bytes.ensures.value ∙ is) c.in-Err.fault c.answer_fault.result c.answer_fault.ensures.status c.in-Err.ensures.err (rose_fault (Unit {0}) c.in-Err.fault _ _ c.in-Err.ensures.write)

pub returns-in-Err-clause-write_fault : goal.returns-in-Err-clause-write_fault
returns-in-Err-clause-write_fault g c =
    counted_as (is_write_fault {A = Unit {0}} (Err c.in-Err.fault)) (is_write_status c.answer_fault.result) _ _ c.in-Err.ensures.write
    (ap is_write_status c.answer_fault.ensures.status ∙ fault_write_status (Unit {0}) c.in-Err.fault)

pub returns-in-Err-clause-of_run : goal.returns-in-Err-clause-of_run
returns-in-Err-clause-of_run g c early = fault_of_bench c.in-Err.fault (subst IsBeforeBench c.answer_fault.ensures.status early)
