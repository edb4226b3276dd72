use Rattle.std.proofs.Common.{refl, ap, subst}
use Rattle.et_io.specs.Faults.{Rose}
use Rattle.et_top.specs.Bench.{IsNotReadBack}
use Rattle.et_files.specs.Status.{is_write_status}
use Rattle.et_top.specs.Visits.{IsBeforeBench}
use Rattle.et_top.proofs.BenchHistory.{bad_gives, want_gives}
use Rattle.et_files.proofs.FaultLemmas.{same_count}
use Rattle.et_top.proofs.bench.sum_up.Goals as goal

pub returns-in-Ok-clause-gives : goal.returns-in-Ok-clause-gives
returns-in-Ok-clause-gives g c reached decides =
    let is = c.in-Ok.ensures.ok reached decides in
    c.put_summary.ensures.gives reached c.args.visits.now c.summary_of.new.visits is.0 is.1 is.2 is.3

pub returns-in-Err-At-clause-gives : goal.returns-in-Err-At-clause-gives
returns-in-Err-At-clause-gives g c reached decides =
    bad_gives reached (g.O.Sink.taken c.args.out.now) c.args.visits.now c.summary_of.new.visits (Rose (g.O.Sink.faults c.args.out.now) (g.O.Sink.faults c.args.out.now)) c.args.program.now c.refuse.result c.in-Err-At.kind c.in-Err-At.line c.refuse.ensures.status
    (subst (IsNotReadBack reached c.args.program.now c.args.visits.now c.summary_of.new.visits) c.in-Err-At.field-0-is (c.in-Err-At.ensures.err reached decides))

pub returns-in-Err-NoMemory-clause-gives : goal.returns-in-Err-NoMemory-clause-gives
returns-in-Err-NoMemory-clause-gives g c reached decides =
    want_gives reached (g.O.Sink.taken c.args.out.now) c.args.visits.now c.summary_of.new.visits (Rose (g.O.Sink.faults c.args.out.now) (g.O.Sink.faults c.args.out.now)) c.args.program.now c.refuse-in-Err-NoMemory.result c.refuse-in-Err-NoMemory.ensures.status
    (subst (IsNotReadBack reached c.args.program.now c.args.visits.now c.summary_of.new.visits) c.in-Err-NoMemory.field-0-is (c.in-Err-NoMemory.ensures.err reached decides))

pub returns-in-Err-At-clause-write_fault : goal.returns-in-Err-At-clause-write_fault
returns-in-Err-At-clause-write_fault g c = same_count (is_write_status c.refuse.result) _ _ refl (ap is_write_status c.refuse.ensures.status)

pub returns-in-Err-NoMemory-clause-write_fault : goal.returns-in-Err-NoMemory-clause-write_fault
returns-in-Err-NoMemory-clause-write_fault g c = same_count (is_write_status c.refuse-in-Err-NoMemory.result) _ _ refl (ap is_write_status c.refuse-in-Err-NoMemory.ensures.status)

pub returns-in-Err-At-clause-of_run : goal.returns-in-Err-At-clause-of_run
returns-in-Err-At-clause-of_run g c early = subst IsBeforeBench c.refuse.ensures.status early

pub returns-in-Err-NoMemory-clause-of_run : goal.returns-in-Err-NoMemory-clause-of_run
returns-in-Err-NoMemory-clause-of_run g c early = subst IsBeforeBench c.refuse-in-Err-NoMemory.ensures.status early
