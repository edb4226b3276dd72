-- A command `trace`, `run` or `verify` has a path.
use Rattle.std.proofs.Common.{ℕ, ◌-◌, ◌^◌, ◌<◌, Bool, true, false, List, [], ◌∷◌, length, Option, Some, None, option_map, arith}
use Rattle.std.specs.Prelude.{◌==◌, if◌then◌else◌, option_and_then}
use Rattle.et_state.specs.declared.options.Options.{Options}
use Rattle.et_command.specs.declared.command.Models.{Models}
use Rattle.et_command.specs.Words.{Split, split}
use Rattle.et_command.specs.Numbers.{number_within}
use Rattle.et_command.specs.Command.{Asked, Trace, Run, Assemble, Verify, Replay, Convert, Curve, Bench, command, asked, some_paths, plain_path, plain_paths, only_path, trace_options, run_options, replay_options, Snapshot, path_and_event, snapshot}

-- where it is one of these, there is a path
pub HasPaths : Option Asked → Type 0
HasPaths None = Unit {0}
HasPaths (Some (Trace options paths)) = 0 < length paths
HasPaths (Some (Run options paths)) = 0 < length paths
HasPaths (Some (Assemble path)) = Unit {0}
HasPaths (Some (Verify paths)) = 0 < length paths
HasPaths (Some (Replay models path)) = Unit {0}
HasPaths (Some (Convert path)) = Unit {0}
HasPaths (Some (Curve path)) = Unit {0}
HasPaths (Some (Snapshot path event)) = Unit {0}
HasPaths (Some (Bench number)) = Unit {0}

pub paths_of_trace : (options : Options) (paths : List (List ℕ)) → HasPaths (Some (Trace options paths)) → 0 < length paths
unfolding HasPaths
paths_of_trace options paths has = has

pub paths_of_run : (options : Options) (paths : List (List ℕ)) → HasPaths (Some (Run options paths)) → 0 < length paths
unfolding HasPaths
paths_of_run options paths has = has

pub paths_of_verify : (paths : List (List ℕ)) → HasPaths (Some (Verify paths)) → 0 < length paths
unfolding HasPaths
paths_of_verify paths has = has

nothing_has : HasPaths None
unfolding HasPaths
nothing_has = tt

either_has : (b : Bool) (x y : Option Asked) → HasPaths x → HasPaths y → HasPaths (if b then x else y)
either_has true x y h i = h
either_has false x y h i = i

-- EACH COMMAND

-- a command of options and paths
module _ (make : Options → List (List ℕ) → Asked) (made : (options : Options) (paths : List (List ℕ)) → 0 < length paths → HasPaths (Some (make options paths))) where
  options_have : (paths : List (List ℕ)) (o : Option Options) → 0 < length paths → HasPaths (option_map (λ options. make options paths) o)
  options_have paths None some = nothing_has
  options_have paths (Some options) some = made options paths some

  some_or_none : (b : Bool) (paths : List (List ℕ)) (o : Option Options) → 0 < length paths → HasPaths (option_and_then (λ paths. option_map (λ options. make options paths) o) (if b then None else Some paths))
  some_or_none true paths o some = nothing_has
  some_or_none false paths o some = options_have paths o some

  with_options : (paths : List (List ℕ)) (o : Option Options) → HasPaths (option_and_then (λ paths. option_map (λ options. make options paths) o) (some_paths paths))
  with_options [] o = nothing_has
  with_options (path ∷ paths) o = some_or_none (length (path ∷ paths) == 0) (path ∷ paths) o (let some : 0 < length (path ∷ paths) = omega arith in some)

trace_has : (options : Options) (paths : List (List ℕ)) → 0 < length paths → HasPaths (Some (Trace options paths))
unfolding HasPaths
trace_has options paths some = some

run_has : (options : Options) (paths : List (List ℕ)) → 0 < length paths → HasPaths (Some (Run options paths))
unfolding HasPaths
run_has options paths some = some

assemble_has : (o : Option (List ℕ)) → HasPaths (option_map Assemble o)
unfolding HasPaths
assemble_has None = tt
assemble_has (Some path) = tt

paths_have : (paths : List (List ℕ)) → 0 < length paths → HasPaths (option_map Verify (Some paths))
unfolding HasPaths
paths_have paths some = some

operands_have : (b : Bool) (paths : List (List ℕ)) → 0 < length paths → HasPaths (option_map Verify (if b then None else Some paths))
operands_have true paths some = nothing_has
operands_have false paths some = paths_have paths some

some_have : (paths : List (List ℕ)) → HasPaths (option_map Verify (some_paths paths))
some_have [] = nothing_has
some_have (path ∷ paths) = operands_have (length (path ∷ paths) == 0) (path ∷ paths) (let some : 0 < length (path ∷ paths) = omega arith in some)

verify_has : (s : Split) → HasPaths (option_map Verify (plain_paths s))
verify_has s = by (length s.options == 0)
  where
    by : (b : Bool) → HasPaths (option_map Verify (if b then some_paths s.operands else None))
    by true = some_have s.operands
    by false = nothing_has

convert_has : (o : Option (List ℕ)) → HasPaths (option_map Convert o)
unfolding HasPaths
convert_has None = tt
convert_has (Some path) = tt

curve_has : (o : Option (List ℕ)) → HasPaths (option_map Curve o)
unfolding HasPaths
curve_has None = tt
curve_has (Some path) = tt

event_has : (path : List ℕ) (o : Option ℕ) → HasPaths (option_map (Snapshot path) o)
unfolding HasPaths
event_has path None = tt
event_has path (Some event) = tt

path_has : (operands : List (List ℕ)) → HasPaths (path_and_event operands)
path_has [] = nothing_has
path_has (path ∷ []) = nothing_has
path_has (path ∷ event ∷ []) = event_has path (number_within 0 (2 ^ 40) event)
path_has (path ∷ event ∷ other ∷ operands) = nothing_has

snapshot_has : (s : Split) → HasPaths (snapshot s)
snapshot_has s = either_has (length s.options == 0) (path_and_event s.operands) None (path_has s.operands) nothing_has

replay_has : (r : Option Models) (o : Option (List ℕ)) → HasPaths (option_and_then (λ path. option_map (λ models. Replay models path) r) o)
unfolding HasPaths
replay_has r None = tt
replay_has None (Some path) = tt
replay_has (Some models) (Some path) = tt

bench_has : (o : Option ℕ) → HasPaths (option_map Bench o)
unfolding HasPaths
bench_has None = tt
bench_has (Some number) = tt

-- WHAT THE WORDS ARE

asked_has : (name : List ℕ) (s : Split) → HasPaths (asked name s)
asked_has name s =
    either_has _ _ _ (with_options Trace trace_has s.operands (trace_options s.options))
    (either_has _ _ _ (with_options Run run_has s.operands (run_options s.options))
    (either_has _ _ _ (assemble_has (plain_path s))
    (either_has _ _ _ (verify_has s)
    (either_has _ _ _ (replay_has (replay_options s.options) (only_path s.operands))
    (either_has _ _ _ (convert_has (plain_path s))
    (either_has _ _ _ (curve_has (plain_path s))
    (either_has _ _ _ (snapshot_has s)
    (either_has _ _ _ (bench_has (option_and_then (number_within 0 (2 ^ 63 - 1)) (plain_path s))) nothing_has))))))))

split_has : (name : List ℕ) (o : Option Split) → HasPaths (option_and_then (asked name) o)
split_has name None = nothing_has
split_has name (Some s) = asked_has name s

pub command_has : (words : List (List ℕ)) → HasPaths (command words)
command_has [] = nothing_has
command_has (name ∷ words) = split_has name (split words)
