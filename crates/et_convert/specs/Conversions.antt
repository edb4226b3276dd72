-- THE SAME LINES in the other spelling.
use Rattle.std.specs.Prelude.{ℕ, ◌==◌, if◌then◌else◌, List, map, reverse}
use Rattle.et_base.specs.declared.format.Format.{Format}
use Rattle.et_base.specs.declared.format.Format.TheVariants as formats
use Rattle.et_base.specs.declared.line.TraceLine.{TraceLine}
use Rattle.et_base.specs.declared.line.TraceLine.TheVariants.{Header}
use Rattle.et_text.specs.Ranges.{header_version}
use Rattle.et_text.specs.Rules.{version_of}
use Rattle.et_binary.specs.Formats.{written_in, trace_bytes}

-- the format of a trace of this version: 1 is the text, and 2 the binary one
abbrev pub version_format : ℕ → Format
version_format version = if version == 1 then formats.Text else formats.Binary

-- .. which the header of a trace says
abbrev pub format_said : List TraceLine → Format
format_said lines = version_format (version_of (reverse lines))

abbrev pub other_format : Format → Format
other_format formats.Text = formats.Binary
other_format formats.Binary = formats.Text

-- the line in a trace of this version: the header says it
abbrev pub line_of_version : ℕ → TraceLine → TraceLine
line_of_version version (Header v interval) = Header version interval
line_of_version version line = line

-- what is written of the line in a trace of this format
abbrev pub converted_line : Format → TraceLine → List ℕ
converted_line format line = written_in format (line_of_version (header_version format) line)

-- the same lines in a trace of the other format
abbrev pub converted_lines : List TraceLine → List TraceLine
converted_lines lines = map (line_of_version (header_version (other_format (format_said lines)))) lines

-- what the lines of a trace are converted to
abbrev pub converted_bytes : List TraceLine → List ℕ
converted_bytes lines = trace_bytes (other_format (format_said lines)) (converted_lines lines)
