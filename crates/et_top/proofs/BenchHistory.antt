-- A history that was run into memory, and what is answered of it.
use Rattle.std.proofs.Common.{◌≡◌, ◌≤◌, ◌+◌, ◌++◌, ℕ, Bool, inl, inr, List, [], map, Some, Result, Ok, Err, refl, sym, ◌∙◌, ap, subst}
use Rattle.et_base.specs.declared.format.Format.TheVariants.{Text}
use Rattle.et_base.specs.declared.line.TraceLine.{TraceLine}
use Rattle.et_base.specs.declared.value.End.{End}
use Rattle.et_graph.specs.Graph.{Graph}
use Rattle.et_io.specs.Sink.{Mark, Taken, Log, taken_bytes, with_more, TakesPrefix}
use Rattle.et_io.proofs.Taking.{bytes_of_taken}
use Rattle.et_io.specs.declared.putting.RunFault.{RunFault}
use Rattle.et_io.specs.declared.putting.RunFault.TheVariants as write
use Rattle.et_program.specs.Entries.{Linked}
use Rattle.et_state.specs.declared.options.Options.{Options}
use Rattle.et_text.specs.Text.{IsTextOf, IsTraceFault}
use Rattle.et_text.specs.declared.fault.TraceFault.{TraceFault}
use Rattle.et_text.specs.declared.fault.TraceFault.TheVariants as faults
use Rattle.et_convert.specs.Spellings.{IsAnswerIn}
use Rattle.et_loop.specs.declared.options.Ran.{Ran}
use Rattle.et_loop.specs.Traced.{WritesTrace}
use Rattle.et_loop.specs.Visits.{allowed_visits, IsCut}
use Rattle.et_run.specs.Start.{start_records}
use Rattle.et_run.specs.Whole.{whole_setting, whole_start, whole_visits_of}
use Rattle.et_top.specs.Bench.{bench_options, bench_trace, IsBenchRun, IsReadBack, IsNotReadBack}
use Rattle.et_top.proofs.RunLemmas.{of_end, of_fault}
use Rattle.et_bench.specs.Totals.{summary_text}
use Rattle.et_files.specs.Faults.{Fault}
use Rattle.et_files.specs.Refusals.{status_of}
use Rattle.et_top.specs.Told.{refusal_of}
use Rattle.et_top.specs.Top.{benches, status_of_end, WritesSummary, CutsSummary, GivesBench, GivesDefined}
use Rattle.et_top.specs.Visits.{IsBeforeBench}
use Rattle.et_files.specs.declared.status.Status.{Status}
use Rattle.et_files.specs.declared.status.Status.TheVariants as status

-- THE RUN

-- what a sink in memory has taken, from nothing on
taken_is : (before taken : List Mark) (text : List ℕ) → before ≡ [] → ◌≡◌ {A = Log} (Some taken) (with_more (Some before) text) → taken_bytes taken ≡ text
taken_is before taken text none is =
    let more : taken ≡ before ++ map Taken text = cc in
    ap taken_bytes (more ∙ ap (λ (t : List Mark). t ++ map Taken text) none) ∙ bytes_of_taken text

module _ (reached : Graph → ℕ → Bool) (program : Linked) (old new : ℕ) (options : Options) (is : options ≡ bench_options) (before taken : List Mark) (none : before ≡ []) where
  -- a run that memory ran out in
  pub cut_off : IsCut reached (whole_setting program options) whole_visits_of (whole_start program) (start_records program) (Some before) (Some taken) old new → IsNotReadBack reached program old new faults.NoMemory
  cut_off cut =
      let cut' = subst (λ (o : Options). IsCut reached (whole_setting program o) whole_visits_of (whole_start program) (start_records program) (Some before) (Some taken) old new) is cut in
      inl (taken, subst (λ (b : List Mark). IsCut reached (whole_setting program bench_options) whole_visits_of (whole_start program) (start_records program) (Some b) (Some taken) old new) none cut')

  module _ (ran : Ran) (wrote : WritesTrace reached (whole_setting program options) (whole_start program) (start_records program) ran (Some before) (Some taken)) (visits : new ≤ old + allowed_visits reached (whole_setting program options) whole_visits_of (whole_start program) (start_records program) ran.event) where
    wrote_bench : WritesTrace reached (whole_setting program bench_options) (whole_start program) (start_records program) ran (Some before) (Some taken)
    wrote_bench = subst (λ (o : Options). WritesTrace reached (whole_setting program o) (whole_start program) (start_records program) ran (Some before) (Some taken)) is wrote

    ran_bench : IsBenchRun reached program old new ran.event ran.end
    ran_bench = record {
      last = wrote_bench.ends;
      visits = subst (λ (o : Options). new ≤ old + allowed_visits reached (whole_setting program o) whole_visits_of (whole_start program) (start_records program) ran.event) is visits;
    }

    trace_is : taken_bytes taken ≡ bench_trace reached program ran.event ran.end
    trace_is = taken_is before taken (bench_trace reached program ran.event ran.end) none wrote_bench.taken

    pub back : (lines : List TraceLine) → IsTextOf lines (taken_bytes taken) → IsReadBack reached program old new ran.event ran.end lines
    back lines read = record { run = ran_bench; read = subst (λ (bytes : List ℕ). IsTextOf lines bytes) trace_is read }

    pub not_back : (fault : TraceFault) → IsAnswerIn Text (taken_bytes taken) fault → IsNotReadBack reached program old new fault
    not_back (faults.At kind line) shows = (ran.event, ran.end, ran_bench, subst (λ (bytes : List ℕ). IsTraceFault bytes kind line) trace_is shows)
    not_back faults.NoMemory shows = inr (ran.event, ran.end, ran_bench)

-- THE ANSWER

module _ (reached : Graph → ℕ → Bool) (before after : Log) (old new : ℕ) (written : Type 0) (program : Linked) where
  module _ (event : ℕ) (end : End) (lines : List TraceLine) (back : IsReadBack reached program old new event end lines) (bytes : List ℕ) (is : bytes ≡ summary_text reached lines) where
    -- the summary was written whole
    pub summary_gives : (answer : Status) → answer ≡ status_of_end end → after ≡ with_more before bytes → GivesBench reached before after old new written program answer
    summary_gives answer ended took =
        let h : WritesSummary reached before after old new program (status_of_end end) = record { event = event; end = end; lines = lines; back = back; ended = refl; wrote = took ∙ ap (with_more before) is } in
        subst (GivesBench reached before after old new written program) (sym ended) (of_end (λ s. WritesSummary reached before after old new program s → GivesBench reached before after old new written program s) (λ h. h) (λ h. h) (λ h. h) end h)

    cut : TakesPrefix before after bytes → CutsSummary reached before after old new program
    cut prefix = record { event = event; end = end; lines = lines; back = back; wrote = subst (TakesPrefix before after) is prefix }

    -- .. or not whole
    pub cut_gives : (fault : RunFault) (answer : Status) → answer ≡ status_of (refusal_of fault) → TakesPrefix before after bytes → ((fault ≡ write.Write) → written) → GivesBench reached before after old new written program answer
    cut_gives write.Write answer how prefix rose = subst (GivesBench reached before after old new written program) (sym how) (rose refl, cut prefix)
    cut_gives write.NoMemory answer how prefix rose = subst (GivesBench reached before after old new written program) (sym how) (inr (cut prefix))

module _ (reached : Graph → ℕ → Bool) (taken : Log) (old new : ℕ) (written : Type 0) (program : Linked) (answer : Status) where
  -- there is no summary
  pub bad_gives : (kind line : ℕ) → answer ≡ status.BadTrace → IsNotReadBack reached program old new (faults.At kind line) → GivesBench reached taken taken old new written program answer
  bad_gives kind line is bad = subst (GivesBench reached taken taken old new written program) (sym is) (refl, (kind, line, bad))

  pub want_gives : answer ≡ status.NoMemory → IsNotReadBack reached program old new faults.NoMemory → GivesBench reached taken taken old new written program answer
  want_gives is wants = subst (GivesBench reached taken taken old new written program) (sym is) (inl (refl, wants))

-- what is given where no read can fail is given where one can
pub bench_more : (reached : Graph → ℕ → Bool) (before after : Log) (old new : ℕ) (read written : Type 0) (found : Result Linked Fault) (answer : Status)
    → GivesDefined reached before after old new ⊥ written (benches found) answer → GivesDefined reached before after old new read written (benches found) answer
bench_more reached before after old new read written (Ok program) answer h = h
bench_more reached before after old new read written (Err fault) answer (same, inl e) = (same, inl e)
bench_more reached before after old new read written (Err fault) answer (same, inr (inl (e, never))) = absurd never
bench_more reached before after old new read written (Err fault) answer (same, inr (inr e)) = (same, inr (inr e))

-- A RUN WAS BEGUN

pub end_of_bench : (end : End) → IsBeforeBench (status_of_end end) → ⊥
end_of_bench = of_end (λ s. IsBeforeBench s → ⊥) (λ early. early) (λ early. early) (λ early. early)

pub fault_of_bench : (fault : RunFault) → IsBeforeBench (status_of (refusal_of fault)) → ⊥
fault_of_bench = of_fault (λ s. IsBeforeBench s → ⊥) (λ early. early) (λ early. early)
