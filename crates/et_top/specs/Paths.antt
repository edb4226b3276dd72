-- Which files the words name, and how many bytes are asked for of each.
use Rattle.std.specs.Prelude.{ℕ, List, [], ◌∷◌, Option, None, Some}
use Rattle.et_command.specs.Command.{Asked, Trace, Run, Assemble, Verify, Replay, Convert, Curve, Bench, Snapshot}
use Rattle.et_files.specs.Loaded.{most_of_class, most_of_trace}

-- the paths that the words name
abbrev pub paths_of : Option Asked → List (List ℕ)
paths_of None = []
paths_of (Some (Trace options paths)) = paths
paths_of (Some (Run options paths)) = paths
paths_of (Some (Assemble path)) = path ∷ []
paths_of (Some (Verify paths)) = paths
paths_of (Some (Replay models path)) = path ∷ []
paths_of (Some (Convert path)) = path ∷ []
paths_of (Some (Curve path)) = path ∷ []
paths_of (Some (Snapshot path event)) = path ∷ []
paths_of (Some (Bench number)) = []

-- the most bytes that are asked for of each file that the words name
abbrev pub most_of : Option Asked → ℕ
most_of None = 0
most_of (Some (Trace options paths)) = most_of_class
most_of (Some (Run options paths)) = most_of_class
most_of (Some (Assemble path)) = most_of_class
most_of (Some (Verify paths)) = most_of_class
most_of (Some (Replay models path)) = most_of_trace
most_of (Some (Convert path)) = most_of_trace
most_of (Some (Curve path)) = most_of_trace
most_of (Some (Snapshot path event)) = most_of_trace
most_of (Some (Bench number)) = 0
