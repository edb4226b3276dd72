-- WHAT A COMMAND LINE ASKS FOR. The first word is the command, and each command has its own options and operands.
use Rattle.std.specs.Prelude.{ℕ, ◌-◌, ◌^◌, ◌==◌, ◌&&◌, ◌||◌, List, [], ◌∷◌, Bool, true, not, Option, Some, None, option_map, option_and_then, is_some, length, bytes_eq, codes, if◌then◌else◌}
use Rattle.std.specs.List.{list_any}
use Rattle.et_state.specs.declared.options.Options.{Options}
use Rattle.et_state.specs.declared.options.Schedule.{Schedule}
use Rattle.et_state.specs.declared.options.Schedule.TheVariants.{Quantum, Words}
use Rattle.et_convert.specs.Conversions.{version_format}
use Rattle.et_command.specs.declared.command.Models.{Models}
use Rattle.et_command.specs.declared.command.Generations.{Generations}
use Rattle.et_command.specs.declared.command.Output.{Output}
use Rattle.et_command.specs.declared.command.Output.TheVariants as output
use Rattle.et_command.specs.Words.{Given, Split, split}
use Rattle.et_command.specs.Numbers.{number_within, numbers}

pub data Asked : Type 0 where
  -- the trace of the classes of these files
  Trace : (options : Options) → (paths : List (List ℕ)) → Asked
  -- what the program of the classes of these files prints
  Run : (options : Options) → (paths : List (List ℕ)) → Asked
  -- the class file of a listing
  Assemble : (path : List ℕ) → Asked
  -- whether each method of these files has a typing
  Verify : (paths : List (List ℕ)) → Asked
  -- what these models of a heap report of a trace
  Replay : (models : Models) → (path : List ℕ) → Asked
  -- a trace in its other spelling
  Convert : (path : List ℕ) → Asked
  -- the live curve of a trace
  Curve : (path : List ℕ) → Asked
  -- what stood in the heap of a trace at an event
  Snapshot : (path : List ℕ) → (event : ℕ) → Asked
  -- the summary of the run of a large program, whose choices are made from this number
  Bench : (number : ℕ) → Asked

-- the value of the option of this name
abbrev pub option_value : List ℕ → List Given → Option (List ℕ)
option_value name [] = None
option_value name (o ∷ options) = if bytes_eq name o.name then Some o.value else option_value name options

-- each option is one of these, and none stands twice
abbrev pub are_options : List (List ℕ) → List Given → Bool
are_options names [] = true
are_options names (o ∷ options) =
    list_any (λ name. bytes_eq name o.name) names && not (is_some (option_value o.name options)) && are_options names options

-- a number in a range, or the default where the option isn't there
abbrev pub number_or : ℕ → ℕ → ℕ → Option (List ℕ) → Option ℕ
number_or default low high None = Some default
number_or default low high (Some text) = number_within low high text

-- how the turns go: by a quantum, or by words, but not by both
abbrev pub schedule_of : Option (List ℕ) → Option (List ℕ) → Option Schedule
schedule_of quantum None = option_map Quantum (number_or 100 1 (2 ^ 40) quantum)
schedule_of None (Some text) = option_map Words (numbers text)
schedule_of (Some quantum) (Some text) = None

-- how a program is run, in the format of this version
abbrev pub options_of : Option ℕ → List Given → Option Options
options_of version options =
    option_and_then (λ interval. option_and_then (λ limit. option_and_then (λ version. option_map (λ schedule.
    record { interval = interval; limit = limit; schedule = schedule; format = version_format version })
    (schedule_of (option_value (codes "quantum") options) (option_value (codes "words") options)))
    version)
    (number_or 1000000000 0 (2 ^ 40) (option_value (codes "limit") options)))
    (number_or 0 0 (2 ^ 40) (option_value (codes "flush") options))

-- the options that `trace` and `run` have
abbrev pub option_names : Output → List (List ℕ)
option_names output.Trace = codes "flush" ∷ codes "limit" ∷ codes "format" ∷ codes "quantum" ∷ codes "words" ∷ []
option_names output.Prints = codes "flush" ∷ codes "limit" ∷ codes "quantum" ∷ codes "words" ∷ []

-- what is printed has one format
abbrev pub format_version : Output → List Given → Option ℕ
format_version output.Trace options = number_or 1 1 2 (option_value (codes "format") options)
format_version output.Prints options = Some 1

abbrev pub output_options : Output → List Given → Option Options
output_options out options = if are_options (option_names out) options then options_of (format_version out options) options else None

abbrev pub trace_options : List Given → Option Options
trace_options options = output_options output.Trace options

abbrev pub run_options : List Given → Option Options
run_options options = output_options output.Prints options

-- a capacity in bytes, where the option is there
abbrev pub capacity : Option (List ℕ) → Option (Option ℕ)
capacity None = Some None
capacity (Some text) = option_map Some (number_within 1 (2 ^ 60) text)

-- a nursery and an old space, or neither
abbrev pub generations : Option ℕ → Option ℕ → Option (Option Generations)
generations None None = Some None
generations (Some nursery) (Some old) = Some (Some (record { nursery = nursery; old = old }))
generations None (Some old) = None
generations (Some nursery) None = None

abbrev pub is_any_model : Models → Bool
is_any_model m = is_some m.mark_sweep || is_some m.semispace || is_some m.generational || is_some m.ref_count

-- the models, at least one
abbrev pub models_of : Option ℕ → Option ℕ → Option Generations → Option ℕ → Option Models
models_of mark_sweep semispace generational ref_count =
    let m : Models = record { mark_sweep = mark_sweep; semispace = semispace; generational = generational; ref_count = ref_count } in
    if is_any_model m then Some m else None

abbrev pub replay_options : List Given → Option Models
replay_options options =
    if are_options (codes "mark-sweep" ∷ codes "semispace" ∷ codes "nursery" ∷ codes "old" ∷ codes "refcount" ∷ []) options
    then option_and_then (λ mark_sweep. option_and_then (λ semispace. option_and_then (λ nursery. option_and_then (λ old.
    option_and_then (λ generational. option_and_then (λ ref_count. models_of mark_sweep semispace generational ref_count)
    (capacity (option_value (codes "refcount") options)))
    (generations nursery old))
    (capacity (option_value (codes "old") options)))
    (capacity (option_value (codes "nursery") options)))
    (capacity (option_value (codes "semispace") options)))
    (capacity (option_value (codes "mark-sweep") options))
    else None

-- the one operand
abbrev pub only_path : List (List ℕ) → Option (List ℕ)
only_path (path ∷ []) = Some path
only_path _ = None

-- .. where there are no options
abbrev pub plain_path : Split → Option (List ℕ)
plain_path s = if length s.options == 0 then only_path s.operands else None

-- one or more operands
abbrev pub some_paths : List (List ℕ) → Option (List (List ℕ))
some_paths paths = if length paths == 0 then None else Some paths

-- .. where there are no options
abbrev pub plain_paths : Split → Option (List (List ℕ))
plain_paths s = if length s.options == 0 then some_paths s.operands else None

-- a program that runs, by what is written out of it
abbrev pub runs : Output → Options → List (List ℕ) → Asked
runs output.Trace options paths = Trace options paths
runs output.Prints options paths = Run options paths

abbrev pub program : Output → Split → Option Asked
program out s = option_and_then (λ paths. option_map (λ options. runs out options paths) (output_options out s.options)) (some_paths s.operands)

abbrev pub trace : Split → Option Asked
trace s = program output.Trace s

abbrev pub run : Split → Option Asked
run s = program output.Prints s

abbrev pub replay : Split → Option Asked
replay s = option_and_then (λ path. option_map (λ models. Replay models path) (replay_options s.options)) (only_path s.operands)

-- two operands, without options: a path, and an event of at most 2^40
abbrev pub path_and_event : List (List ℕ) → Option Asked
path_and_event (path ∷ event ∷ []) = option_map (Snapshot path) (number_within 0 (2 ^ 40) event)
path_and_event _ = None

abbrev pub snapshot : Split → Option Asked
snapshot s = if length s.options == 0 then path_and_event s.operands else None

-- a number of at most 2^63 - 1 alone
abbrev pub bench : Split → Option Asked
bench s = option_map Bench (option_and_then (number_within 0 (2 ^ 63 - 1)) (plain_path s))

abbrev pub asked : List ℕ → Split → Option Asked
asked name s =
    if bytes_eq name (codes "trace") then trace s
    else if bytes_eq name (codes "run") then run s
    else if bytes_eq name (codes "asm") then option_map Assemble (plain_path s)
    else if bytes_eq name (codes "verify") then option_map Verify (plain_paths s)
    else if bytes_eq name (codes "replay") then replay s
    else if bytes_eq name (codes "convert") then option_map Convert (plain_path s)
    else if bytes_eq name (codes "curve") then option_map Curve (plain_path s)
    else if bytes_eq name (codes "snapshot") then snapshot s
    else if bytes_eq name (codes "bench") then bench s
    else None

-- THE COMMAND that the words are, if they are one
abbrev pub command : List (List ℕ) → Option Asked
command [] = None
command (name ∷ words) = option_and_then (asked name) (split words)
