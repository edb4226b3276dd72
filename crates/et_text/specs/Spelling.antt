-- The text of a trace: each line has one spelling.
use Rattle.std.specs.Prelude.{ℕ, ◌/◌, ◌%◌, Bool, true, ◌||◌, ◌==◌, nat_lt, nat_le, if◌then◌else◌, List, [], ◌∷◌, ◌++◌}
use Rattle.std.specs.List.{flat_map}
use Rattle.std.specs.Fmt.{decimal, digit_glyph}
use Rattle.std.specs.Int.{Width, w8, w32, w64}
use Rattle.et_base.specs.declared.line.TraceLine.{TraceLine}
use Rattle.et_base.specs.declared.line.TraceLine.TheVariants.{Header, Class, Method, Alloc, Update, Enter, Exit, Unwind, Flush, Death, Finish}

-- whether a byte of a name is written as an escape: `%` (37), the bytes up to the space (32), and those from 7F (127) on
abbrev pub is_escaped : ℕ → Bool
is_escaped b = nat_lt b 33 || b == 37 || nat_le 127 b

-- a byte of a name: `%` and its two upper-case hexadecimal digits, or the byte itself
abbrev pub escape : ℕ → List ℕ
escape b = if is_escaped b then 37 ∷ digit_glyph true (b / 16) ∷ digit_glyph true (b % 16) ∷ [] else b ∷ []

-- the bytes of a name
abbrev pub escapes : List ℕ → List ℕ
escapes name = flat_map escape name

-- a field: a number, which has this width in the binary spelling, or the bytes of a name or descriptor
pub data LineField : Type 0 where
  Number : (w : Width) (n : ℕ) → LineField
  Text : (name : List ℕ) → LineField

-- a number is decimal, and has no leading zero. Each field stands behind a space (32).
abbrev pub number_field : ℕ → List ℕ
number_field n = 32 ∷ decimal n

-- a name or descriptor
abbrev pub text_field : List ℕ → List ℕ
text_field name = 32 ∷ escapes name

-- any field
abbrev pub field_text : LineField → List ℕ
field_text (Number w n) = number_field n
field_text (Text name) = text_field name

-- THE TABLE: the letter of a line
abbrev pub letter : TraceLine → ℕ
letter (Header v interval) = 72  -- H
letter (Class number name) = 67  -- C
letter (Method number class name descriptor) = 78  -- N
letter (Alloc event thread object class size length) = 65  -- A
letter (Update event thread object slot old new) = 85  -- U
letter (Enter event thread method receiver) = 77  -- M
letter (Exit event thread method) = 69  -- E
letter (Unwind event thread method exception) = 88  -- X
letter (Flush event deaths) = 70  -- F
letter (Death object time) = 68  -- D
letter (Finish event how) = 90  -- Z

-- .. and its fields
abbrev pub fields : TraceLine → List LineField
fields (Header v interval) = Number w32 v ∷ Number w64 interval ∷ []
fields (Class number name) = Number w32 number ∷ Text name ∷ []
fields (Method number class name descriptor) = Number w32 number ∷ Number w32 class ∷ Text name ∷ Text descriptor ∷ []
fields (Alloc event thread object class size length) = Number w64 event ∷ Number w8 thread ∷ Number w32 object ∷ Number w32 class ∷ Number w64 size ∷ Number w32 length ∷ []
fields (Update event thread object slot old new) = Number w64 event ∷ Number w8 thread ∷ Number w32 object ∷ Number w32 slot ∷ Number w32 old ∷ Number w32 new ∷ []
fields (Enter event thread method receiver) = Number w64 event ∷ Number w8 thread ∷ Number w32 method ∷ Number w32 receiver ∷ []
fields (Exit event thread method) = Number w64 event ∷ Number w8 thread ∷ Number w32 method ∷ []
fields (Unwind event thread method exception) = Number w64 event ∷ Number w8 thread ∷ Number w32 method ∷ Number w32 exception ∷ []
fields (Flush event deaths) = Number w64 event ∷ Number w32 deaths ∷ []
fields (Death object time) = Number w32 object ∷ Number w64 time ∷ []
fields (Finish event how) = Number w64 event ∷ Number w8 how ∷ []

-- a line without the LF (10) that ends it
abbrev pub line_body : TraceLine → List ℕ
line_body line = letter line ∷ flat_map field_text (fields line)

-- a line
abbrev pub spelling : TraceLine → List ℕ
spelling line = line_body line ++ 10 ∷ []

-- the text of the lines, in order
abbrev pub text : List TraceLine → List ℕ
text lines = flat_map spelling lines
