-- The letter and the fields of a line, as they are written in any spelling.
use Rattle.std.specs.Prelude.{ℕ, List, [], ◌∷◌}
use Rattle.std.specs.Int.{w8, w32, w64}
use Rattle.std.specs.Int.{Width as IntWidth}
use Rattle.std.specs.List.{flat_map}
use Rattle.et_base.specs.declared.line.TraceLine.{TraceLine}
use Rattle.et_base.specs.declared.line.TraceLine.TheVariants.{Header}
use Rattle.et_text.specs.Spelling.{LineField, Number, letter, fields}
use Rattle.et_text.specs.declared.fields.Width.{Width}
use Rattle.et_text.specs.declared.fields.Width.TheVariants as widths

abbrev pub width_of : Width → IntWidth
width_of widths.Byte = w8
width_of widths.Word = w32
width_of widths.Long = w64

-- numbers of these widths, in order
abbrev pub numbers_of : List Width → List ℕ → List LineField
numbers_of [] numbers = []
numbers_of (w ∷ widths) [] = []
numbers_of (w ∷ widths) (n ∷ numbers) = Number (width_of w) n ∷ numbers_of widths numbers

-- the bytes of a line, of the bytes of a header and of each field
abbrev pub line_bytes : (ℕ → ℕ → List ℕ) → (LineField → List ℕ) → TraceLine → List ℕ
line_bytes header field (Header v interval) = header v interval
line_bytes header field line = letter line ∷ flat_map field (fields line)
