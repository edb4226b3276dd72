-- The bytes of a trace in a format.
use Rattle.std.specs.Prelude.{ℕ, List}
use Rattle.std.specs.List.{flat_map}
use Rattle.et_base.specs.declared.format.Format.{Format}
use Rattle.et_base.specs.declared.format.Format.TheVariants as formats
use Rattle.et_base.specs.declared.line.TraceLine.{TraceLine}
use Rattle.et_text.specs.Spelling.{spelling, text}
use Rattle.et_binary.specs.Packing.{pack, written_record}

-- what is written of one line
abbrev pub written_in : Format → TraceLine → List ℕ
written_in formats.Text line = spelling line
written_in formats.Binary line = written_record line

-- .. and of lines, one after the other
abbrev pub lines_written_in : Format → List TraceLine → List ℕ
lines_written_in format lines = flat_map (written_in format) lines

-- THE BYTES of a trace of these lines: its text or its pack
abbrev pub trace_bytes : Format → List TraceLine → List ℕ
trace_bytes formats.Text lines = text lines
trace_bytes formats.Binary lines = pack lines
