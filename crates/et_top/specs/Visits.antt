-- WHERE OBJECTS ARE VISITED: only in the run of a program, for its trace or for what it prints, and in that of a bench.
use Rattle.std.specs.Prelude.{ℕ, ◌+◌, ◌<◌, List, length, Option, Some}
use Rattle.et_io.specs.Files.{Reading}
use Rattle.et_command.specs.Command.{Asked, Trace, Run, Bench}
use Rattle.et_top.specs.Top.{Defined, Usage, Refused, Writes, Verifies, Traces, Prints, Benches}
use Rattle.et_files.specs.declared.status.Status.{Status}
use Rattle.et_files.specs.declared.status.Status.TheVariants as status

-- a trace, and what is printed, is answered so where its run was not begun: a file was refused, or a read failed
abbrev pub IsBeforeRun : Status → Type 0
IsBeforeRun status.Done = ⊥
IsBeforeRun status.IllTyped = ⊥
IsBeforeRun status.ObjectLimit = ⊥
IsBeforeRun status.WriteFault = ⊥
IsBeforeRun status.NoMemory = ⊥
IsBeforeRun _ = Unit {0}

-- a bench is answered so where its run was not begun: a bad trace is found behind the run
abbrev pub IsBeforeBench : Status → Type 0
IsBeforeBench status.BadTrace = ⊥
IsBeforeBench answer = IsBeforeRun answer

-- the words ask for no run, or for one that was not begun
abbrev pub IsWithoutRun : Option Asked → Status → Type 0
IsWithoutRun (Some (Trace options paths)) answer = IsBeforeRun answer
IsWithoutRun (Some (Run options paths)) answer = IsBeforeRun answer
IsWithoutRun (Some (Bench number)) answer = IsBeforeBench answer
IsWithoutRun _ answer = Unit {0}

-- the words and the files define no history, so that there is no run, whatever is answered
abbrev pub IsNoTrace : Defined → Type 0
IsNoTrace (Traces program options) = ⊥
IsNoTrace (Prints program options) = ⊥
IsNoTrace (Benches program) = ⊥
IsNoTrace Usage = Unit {0}
IsNoTrace (Refused fault) = Unit {0}
IsNoTrace (Writes text) = Unit {0}
IsNoTrace (Verifies program) = Unit {0}

-- one of these paths was not asked for; old and new are the reads that were made before and after
abbrev pub HasUnread : (old new : List Reading) → (paths : List (List ℕ)) → Type 0
HasUnread old new paths = length new < length old + length paths
