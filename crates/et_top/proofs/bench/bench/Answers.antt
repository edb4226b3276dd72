use Rattle.std.proofs.Common.{refl, ◌∙◌, ap, sym, subst}
use Rattle.et_io.specs.Faults.{Rose}
use Rattle.et_files.specs.Status.{is_read_status, is_write_status}
use Rattle.et_top.specs.Top.{benches, GivesDefined}
use Rattle.et_files.specs.Told.{cause_of}
use Rattle.et_top.specs.Visits.{IsNoTrace, IsBeforeBench}
use Rattle.et_files.proofs.FaultLemmas.{same_count, read_status, no_write_status, no_read_cause}
use Rattle.et_files.proofs.Found.{of_file}
use Rattle.et_top.proofs.FaultLemmas.{no_usage_file}
use Rattle.et_top.proofs.TopLemmas.{refused_bench}
use Rattle.et_top.proofs.bench.bench.Goals as goal

pub returns-in-Ok : goal.returns-in-Ok
returns-in-Ok g c = record {
  gives = λ found linked reached decides.
      subst (λ d. GivesDefined reached (g.O.Sink.taken c.args.out.now) (g.O.Sink.taken c.sum_up.new.out) c.args.visits.now c.sum_up.new.visits ⊥ (Rose (g.O.Sink.faults c.args.out.now) (g.O.Sink.faults c.sum_up.new.out)) d c.sum_up.result)
      (sym (ap benches (c.in-Ok.ensures.tells found linked))) (c.sum_up.ensures.gives reached decides);
  write_fault = c.sum_up.ensures.write_fault;
  no_read = c.sum_up.ensures.no_read;
  usage = λ e. c.sum_up.ensures.of_run (subst IsBeforeBench (sym e) tt);
  no_visits = λ early. absurd (c.sum_up.ensures.of_run early);
  no_trace = λ found linked none. absurd (subst IsNoTrace (ap benches (c.in-Ok.ensures.tells found linked)) none);
}

pub returns-in-Err : goal.returns-in-Err
returns-in-Err g c =
    let file = of_file (cause_of c.in-Err.refusal) c.in-Err.ensures.bytes in
    record {
      gives = λ found linked reached decides.
          refused_bench reached (g.O.Sink.taken c.args.out.now) c.args.visits.now c.args.visits.now ⊥ (Rose (g.O.Sink.faults c.args.out.now) (g.O.Sink.faults c.args.out.now)) found c.in-Err.refusal c.refuse.result (c.in-Err.ensures.tells found linked) c.refuse.ensures.status refl (λ never. never);
      write_fault = same_count (is_write_status c.refuse.result) _ _ refl (ap is_write_status c.refuse.ensures.status ∙ no_write_status c.in-Err.refusal file);
      no_read = ap is_read_status c.refuse.ensures.status ∙ (read_status c.in-Err.refusal ∙ no_read_cause (cause_of c.in-Err.refusal) c.in-Err.ensures.bytes);
      usage = λ e. no_usage_file c.in-Err.refusal file (sym c.refuse.ensures.status ∙ e);
      no_visits = λ early. refl;
      no_trace = λ found linked none. refl;
    }
