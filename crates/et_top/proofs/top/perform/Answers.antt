use Rattle.std.proofs.Common.{[], refl, sym, subst, arith, rules}
use Rattle.et_command.specs.Asked.{AreInRange}
use Rattle.et_io.specs.Faults.{Rose}
use Rattle.et_files.specs.Status.{is_read_status}
use Rattle.et_files.proofs.FaultLemmas.{same_count}
use Rattle.et_files.proofs.ReadLemmas.{none_read}
use Rattle.et_top.specs.Top.{GivesDefined}
use Rattle.et_top.specs.Visits.{IsNoTrace}
use Rattle.et_top.specs.declared.programs.Output.TheVariants as output
use Rattle.et_top.proofs.AnswerLemmas.{of_arm, run_answers}
use Rattle.et_top.proofs.BenchHistory.{bench_more}
use Rattle.et_top.proofs.top.perform.Goals as goal

pub returns-in-Trace : goal.returns-in-Trace
returns-in-Trace g c = of_arm _ _ _ _ _ _ _ _ _ _ _ _ c.in-Trace.is (run_answers g.F.Files g.O.Sink _ _ _ _ _ _ _ _ _ output.Trace c.load_program-loaded.result c.run.result c.load_program-loaded.ensures.tells c.load_program-loaded.ensures.reads
    c.run.ensures.gives c.run.ensures.usage c.run.ensures.read_fault c.run.ensures.write_fault c.run.ensures.refused c.run.ensures.no_visits c.run.ensures.unread)

pub returns-in-Run : goal.returns-in-Run
returns-in-Run g c = of_arm _ _ _ _ _ _ _ _ _ _ _ _ c.in-Run.is (run_answers g.F.Files g.O.Sink _ _ _ _ _ _ _ _ _ output.Prints c.load_program-loaded-in-Run.result c.run-in-Run.result c.load_program-loaded-in-Run.ensures.tells c.load_program-loaded-in-Run.ensures.reads
    c.run-in-Run.ensures.gives c.run-in-Run.ensures.usage c.run-in-Run.ensures.read_fault c.run-in-Run.ensures.write_fault c.run-in-Run.ensures.refused c.run-in-Run.ensures.no_visits c.run-in-Run.ensures.unread)

pub returns-in-Assemble : goal.returns-in-Assemble
returns-in-Assemble g c = of_arm _ _ _ _ _ _ _ _ _ _ _ _ c.in-Assemble.is (rw c.answer.ensures (c.assemble.ensures _ _))

pub returns-in-Verify : goal.returns-in-Verify
returns-in-Verify g c = of_arm _ _ _ _ _ _ _ _ _ _ _ _ c.in-Verify.is (c.verify.ensures _ _)

pub returns-in-Convert : goal.returns-in-Convert
returns-in-Convert g c = of_arm _ _ _ _ _ _ _ _ _ _ _ _ c.in-Convert.is (rw c.answer-in-Convert.ensures (c.convert.ensures _ _))

pub returns-in-Curve : goal.returns-in-Curve
returns-in-Curve g c = of_arm _ _ _ _ _ _ _ _ _ _ _ _ c.in-Curve.is (rw c.answer-in-Curve.ensures (c.curve.ensures _ _))

pub returns-in-Snapshot : goal.returns-in-Snapshot
returns-in-Snapshot g c = of_arm _ _ _ _ _ _ _ _ _ _ _ _ c.in-Snapshot.is (rw c.answer-in-Snapshot.ensures (c.snapshot.ensures _ _))

pub returns-in-Replay : goal.returns-in-Replay
returns-in-Replay g c = of_arm _ _ _ _ _ _ _ _ _ _ _ _ c.in-Replay.is (rw c.answer-in-Replay.ensures (c.replay.ensures _))

pub returns-in-Bench : goal.returns-in-Bench
returns-in-Bench g c = of_arm g.F.Files g.O.Sink c.args.files.now c.args.files.now c.args.out.now c.bench.new.out c.args.visits.now c.bench.new.visits _ _ _ c.bench.result c.in-Bench.is (record {
  gives = λ held told d defined reached decides.
      let before = g.O.Sink.taken c.args.out.now in
      let after = g.O.Sink.taken c.bench.new.out in
      let read = Rose (g.F.Files.faults c.args.files.now) (g.F.Files.faults c.args.files.now) in
      let written = Rose (g.O.Sink.faults c.args.out.now) (g.O.Sink.faults c.bench.new.out) in
      subst (λ x. GivesDefined reached before after c.args.visits.now c.bench.new.visits read written x c.bench.result) (sym defined.2)
      (bench_more reached before after c.args.visits.now c.bench.new.visits read written defined.0 c.bench.result (c.bench.ensures.gives defined.0 defined.1 reached decides));
  usage = c.bench.ensures.usage;
  read_fault = same_count (is_read_status c.bench.result) _ _ refl c.bench.ensures.no_read;
  write_fault = c.bench.ensures.write_fault;
  reads = none_read _ _ _ [] c.bench.result (λ late. refl);
  no_visits = c.bench.ensures.no_visits;
  no_trace = λ held told d defined none. c.bench.ensures.no_trace defined.0 defined.1 (subst IsNoTrace defined.2 none);
  unread = λ few. absurd (omega (arith, few));
})

pub bench-requires : goal.bench-requires
bench-requires g c = record { choices = subst AreInRange c.in-Bench.is c.requires.range; size = (first_of (search rules, omega arith), first_of (search rules, omega arith)); turns = first_of (search rules, omega arith) }
