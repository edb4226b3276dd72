-- WHAT IS WRITTEN OF A HISTORY: its trace, or what its events print.
use Rattle.std.specs.Prelude.{Result, Ok, Err}
use Rattle.et_program.specs.Entries.{Linked}
use Rattle.et_io.specs.declared.putting.RunFault.{RunFault}
use Rattle.et_loop.specs.declared.options.Ran.{Ran}
use Rattle.et_state.specs.declared.options.Options.{Options}
use Rattle.et_files.specs.Faults.{Fault}
use Rattle.et_files.specs.Refusals.{status_of}
use Rattle.et_files.specs.declared.status.Status.{Status}
use Rattle.et_top.specs.Told.{refusal_of}
use Rattle.et_top.specs.Top.{Defined, Traces, Prints, traces, prints, status_of_end}
use Rattle.et_top.specs.declared.programs.Output.{Output}
use Rattle.et_top.specs.declared.programs.Output.TheVariants as output

abbrev pub history_of : Output → Options → Linked → Defined
history_of output.Trace options program = Traces program options
history_of output.Prints options program = Prints program options

-- .. of the program that was found, or why there is none
abbrev pub defines : Output → Options → Result Linked Fault → Defined
defines output.Trace options found = traces options found
defines output.Prints options found = prints options found

-- the status of a run: that of the history's end, or of the fault that cut it off
abbrev pub status_of_run : Result Ran RunFault → Status
status_of_run (Ok ran) = status_of_end ran.end
status_of_run (Err fault) = status_of (refusal_of fault)
