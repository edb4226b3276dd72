use Rattle.std.proofs.Common.{refl, ◌∙◌, sym, subst}
use Rattle.std.specs.Prelude.{IfErr, Result}
use Rattle.et_io.specs.Faults.{Rose}
use Rattle.et_program.specs.Entries.{Linked}
use Rattle.et_files.specs.Status.{is_write_status}
use Rattle.et_files.specs.Told.{Tells, IsFileRefusal, cause_of}
use Rattle.et_files.specs.declared.refusal.Refusal.{Refusal}
use Rattle.et_files.proofs.FaultLemmas.{same_count}
use Rattle.et_top.proofs.FaultLemmas.{no_usage_file}
use Rattle.et_top.proofs.RunLemmas.{run_gives}
use Rattle.et_top.proofs.TopLemmas.{refused_run}
use Rattle.et_top.proofs.VisitLemmas.{never_usage}
use Rattle.et_top.proofs.programs.run.Goals as goal

pub returns-in-Ok-clause-gives : goal.returns-in-Ok-clause-gives
returns-in-Ok-clause-gives g c from to found told reached decides =
    run_gives reached (g.O.Sink.taken c.args.out.now) (g.O.Sink.taken c.run_program.new.out) c.args.visits.now c.run_program.new.visits (Rose from to) (Rose (g.O.Sink.faults c.args.out.now) (g.O.Sink.faults c.run_program.new.out)) c.args.options.now c.in-Ok.program c.args.output found c.run_program.result
    (subst (Tells (Rose from to) (λ (program : Linked). program) found) c.in-Ok.is told) (c.run_program.ensures.gives from to reached decides)

pub returns-in-Ok-clause-usage : goal.returns-in-Ok-clause-usage
returns-in-Ok-clause-usage g c = never_usage c.run_program.result c.run_program.ensures.of_run

pub returns-in-Err-clause-gives : goal.returns-in-Err-clause-gives
returns-in-Err-clause-gives g c from to found told reached decides =
    refused_run reached (g.O.Sink.taken c.args.out.now) c.args.visits.now c.args.visits.now (Rose from to) (Rose (g.O.Sink.faults c.args.out.now) (g.O.Sink.faults c.args.out.now)) c.args.output c.args.options.now found c.in-Err.refusal c.refuse.result
    (subst (Tells (Rose from to) (λ (program : Linked). program) found) c.in-Err.is told) c.refuse.ensures.status refl

pub returns-in-Err-clause-usage : goal.returns-in-Err-clause-usage
returns-in-Err-clause-usage g c e =
    no_usage_file c.in-Err.refusal (subst (λ (l : Result Linked Refusal). IfErr l (λ refusal. IsFileRefusal (cause_of refusal))) c.in-Err.is c.requires.file) (sym c.refuse.ensures.status ∙ e)

pub returns-in-Err-clause-write_fault : goal.returns-in-Err-clause-write_fault
returns-in-Err-clause-write_fault g c =
    same_count (is_write_status c.refuse.result) _ _ refl (c.refuse.ensures.writes (subst (λ (l : Result Linked Refusal). IfErr l (λ refusal. IsFileRefusal (cause_of refusal))) c.in-Err.is c.requires.file))
