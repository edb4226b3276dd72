-- What the command that the code answers asks for.
use Rattle.std.specs.Prelude.{◌<◌, ◌≤◌, ◌^◌, length, map, string_bytes}
use Rattle.et_state.specs.Options.{AreOptions}
use Rattle.et_command.specs.declared.command.Command.{Command}
use Rattle.et_command.specs.declared.command.Command.TheVariants as words
use Rattle.et_command.specs.Command.{Asked, Trace, Run, Assemble, Verify, Replay, Convert, Curve, Bench, Snapshot}

abbrev pub asked_by : Command → Asked
asked_by (words.Trace options paths) = Trace options (map string_bytes paths.now)
asked_by (words.Run options paths) = Run options (map string_bytes paths.now)
asked_by (words.Assemble path) = Assemble path.now
asked_by (words.Verify paths) = Verify (map string_bytes paths.now)
asked_by (words.Replay models path) = Replay models path.now
asked_by (words.Convert path) = Convert path.now
asked_by (words.Curve path) = Curve path.now
asked_by (words.Snapshot path event) = Snapshot path.now event
asked_by (words.Bench number) = Bench number

-- the options of a run are in range, and it has a file; `verify` has one; the number of a bench is in range
abbrev pub AreInRange : Command → Type 0
AreInRange (words.Trace options paths) = AreOptions options × (0 < length paths.now)
AreInRange (words.Run options paths) = AreOptions options × (0 < length paths.now)
AreInRange (words.Assemble path) = Unit {0}
AreInRange (words.Verify paths) = 0 < length paths.now
AreInRange (words.Replay models path) = Unit {0}
AreInRange (words.Convert path) = Unit {0}
AreInRange (words.Curve path) = Unit {0}
AreInRange (words.Snapshot path event) = event ≤ 2 ^ 40
AreInRange (words.Bench number) = number < 2 ^ 63
