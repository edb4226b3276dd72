use Rattle.et_io.specs.Faults.{Rose, is_write_fault}
use Rattle.et_files.specs.Status.{is_write_status}
use Rattle.et_files.proofs.FaultLemmas.{counted_as}
use Rattle.et_top.proofs.FaultLemmas.{counted_alone, counted_beside, rose_writing}
use Rattle.et_top.proofs.RunLemmas.{trace_gives, print_gives}
use Rattle.et_top.proofs.programs.run_program.Goals as goal

pub returns-in-Trace-clause-gives : goal.returns-in-Trace-clause-gives
returns-in-Trace-clause-gives g c from to reached decides =
    rw (c.in-Trace.is, c.answer_run.ensures.status)
    (trace_gives reached (g.O.Sink.taken c.args.out.now) (g.O.Sink.taken c.run-ran.new.trace) c.args.visits.now c.run-ran.new.visits (Rose from to) (Rose (g.O.Sink.faults c.args.out.now) (g.O.Sink.faults c.run-ran.new.trace)) c.args.options.now c.args.program.now _ _ c.run-ran.result
    (c.run-ran.ensures.over reached decides) (c.run-ran.ensures.cut_off reached decides) (rose_writing c.run-ran.result _ _ (counted_alone (is_write_fault c.run-ran.result) _ _ c.run-ran.ensures.write)))

pub returns-in-Trace-clause-write_fault : goal.returns-in-Trace-clause-write_fault
returns-in-Trace-clause-write_fault g c =
    counted_as (is_write_fault c.run-ran.result) (is_write_status c.answer_run.result) _ _ (counted_alone (is_write_fault c.run-ran.result) _ _ c.run-ran.ensures.write) c.answer_run.ensures.writes

pub returns-in-Prints-clause-gives : goal.returns-in-Prints-clause-gives
returns-in-Prints-clause-gives g c from to reached decides =
    rw (c.in-Prints.is, c.answer_run-in-Prints.ensures.status)
    (print_gives reached (g.O.Sink.taken c.args.out.now) (g.O.Sink.taken c.run-ran-in-Prints.new.printed) c.args.visits.now c.run-ran-in-Prints.new.visits (Rose from to) (Rose (g.O.Sink.faults c.args.out.now) (g.O.Sink.faults c.run-ran-in-Prints.new.printed)) c.args.options.now c.args.program.now _ _ c.run-ran-in-Prints.result
    (c.run-ran-in-Prints.ensures.over reached decides) (c.run-ran-in-Prints.ensures.cut_off reached decides) (rose_writing c.run-ran-in-Prints.result _ _ (counted_beside (is_write_fault c.run-ran-in-Prints.result) _ _ c.run-ran-in-Prints.ensures.write)))

pub returns-in-Prints-clause-write_fault : goal.returns-in-Prints-clause-write_fault
returns-in-Prints-clause-write_fault g c =
    counted_as (is_write_fault c.run-ran-in-Prints.result) (is_write_status c.answer_run-in-Prints.result) _ _ (counted_beside (is_write_fault c.run-ran-in-Prints.result) _ _ c.run-ran-in-Prints.ensures.write) c.answer_run-in-Prints.ensures.writes
