-- A HISTORY THAT WAS RUN, whose trace was written, or what it prints.
use Rattle.std.proofs.Common.{◌≡◌, ℕ, Bool, Result, Ok, Err, IfOk, refl, sym, subst}
use Rattle.std.specs.Prelude.{OnErr}
use Rattle.et_base.specs.declared.value.End.{End}
use Rattle.et_base.specs.declared.value.End.TheVariants as ends
use Rattle.et_graph.specs.Graph.{Graph}
use Rattle.et_io.specs.Sink.{Log}
use Rattle.et_io.specs.declared.putting.RunFault.{RunFault}
use Rattle.et_io.specs.declared.putting.RunFault.TheVariants as write
use Rattle.et_state.specs.declared.options.Options.{Options}
use Rattle.et_loop.specs.declared.options.Ran.{Ran}
use Rattle.et_loop.specs.Ends.{IsOver, IsCutOff}
use Rattle.et_program.specs.Entries.{Linked}
use Rattle.et_run.specs.Start.{start_records}
use Rattle.et_run.specs.Settings.{said_by}
use Rattle.et_run.specs.Whole.{whole_setting, whole_start, whole_visits_of, whole_said}
use Rattle.et_files.specs.Faults.{Fault}
use Rattle.et_files.specs.Refusals.{status_of}
use Rattle.et_top.specs.Runs.{defines, history_of, status_of_run}
use Rattle.et_top.specs.Told.{refusal_of}
use Rattle.et_top.specs.Top.{Defined, Traces, Prints, traces, prints, status_of_end, WritesHistory, PrintsHistory, GivesDefined}
use Rattle.et_top.specs.Visits.{IsNoTrace}
use Rattle.et_top.specs.declared.programs.Output.{Output}
use Rattle.et_top.specs.declared.programs.Output.TheVariants as output
use Rattle.et_files.specs.declared.status.Status.{Status}
use Rattle.et_files.specs.declared.status.Status.TheVariants as status

-- what holds of the three statuses of an end holds of that of each end
pub of_end : (P : Status → Type 0) → P status.Done → P status.IllTyped → P status.ObjectLimit → (end : End) → P (status_of_end end)
of_end P done ill limit ends.Finished = done
of_end P done ill limit ends.EventLimit = done
of_end P done ill limit (ends.IllTyped thread method pc) = ill
of_end P done ill limit ends.ObjectLimit = limit

-- .. and of the two of a fault
pub of_fault : (P : Status → Type 0) → P status.WriteFault → P status.NoMemory → (fault : RunFault) → P (status_of (refusal_of fault))
of_fault P failed memory write.Write = failed
of_fault P failed memory write.NoMemory = memory

module _ (reached : Graph → ℕ → Bool) (before after : Log) (old new : ℕ) (read written : Type 0) (options : Options) (program : Linked) where
  -- the run came to the end of the history, by what the sink of the trace took and by what that of the prints took
  abbrev Over : (wrote writes heard hears : Log) → Ran → Type 0
  Over wrote writes heard hears ran =
      IsOver reached (whole_setting program options) (whole_said (said_by program)) whole_visits_of (whole_start program) (start_records program) wrote writes heard hears old new ran

  -- .. or it was cut off before
  abbrev CutOff : (wrote writes heard hears : Log) → Type 0
  CutOff wrote writes heard hears =
      IsCutOff reached (whole_setting program options) (whole_said (said_by program)) whole_visits_of (whole_start program) (start_records program) wrote writes heard hears old new

  abbrev Given : Defined → Status → Type 0
  Given d answer = GivesDefined reached before after old new read written d answer

  pub trace_gives : (heard hears : Log) (ran : Result Ran RunFault) → IfOk ran (Over before after heard hears) → OnErr ran (CutOff before after heard hears) → (ran ≡ Err write.Write → written) → Given (Traces program options) (status_of_run ran)
  trace_gives heard hears (Ok ran) over cut_off rose =
      of_end (λ s. WritesHistory reached before after old new program options s → Given (Traces program options) s) (λ h. h) (λ h. h) (λ h. h) ran.end (record { ran = ran; ended = refl; wrote = over.trace; visits = over.visits })
  trace_gives heard hears (Err write.Write) over cut_off rose = (rose refl, record { wrote = cut_off.prefix; visits = cut_off.cut })
  trace_gives heard hears (Err write.NoMemory) over cut_off rose = record { wrote = cut_off.prefix; visits = cut_off.cut }

  pub print_gives : (wrote writes : Log) (ran : Result Ran RunFault) → IfOk ran (Over wrote writes before after) → OnErr ran (CutOff wrote writes before after) → (ran ≡ Err write.Write → written) → Given (Prints program options) (status_of_run ran)
  print_gives wrote writes (Ok ran) over cut_off rose =
      of_end (λ s. PrintsHistory reached before after old new program options s → Given (Prints program options) s) (λ h. h) (λ h. h) (λ h. h) ran.end (record { ran = ran; ended = refl; printed = over.said; visits = over.visits })
  print_gives wrote writes (Err write.Write) over cut_off rose = (rose refl, record { printed = cut_off.said_prefix; visits = cut_off.said_cut })
  print_gives wrote writes (Err write.NoMemory) over cut_off rose = record { printed = cut_off.said_prefix; visits = cut_off.said_cut }

  -- what is given of the history is what is defined where the program was found
  pub run_gives : (o : Output) (found : Result Linked Fault) (answer : Status) → found ≡ Ok program → Given (history_of o options program) answer → Given (defines o options found) answer
  run_gives output.Trace found answer is h = subst (λ p. Given (traces options p) answer) (sym is) h
  run_gives output.Prints found answer is h = subst (λ p. Given (prints options p) answer) (sym is) h

-- a program that is run is a history
pub is_run : (o : Output) (options : Options) (program : Linked) → IsNoTrace (defines o options (Ok program)) → ⊥
is_run output.Trace options program none = none
is_run output.Prints options program none = none
