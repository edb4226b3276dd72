-- The binary spelling of a trace: each line has one record.
use Rattle.std.specs.Prelude.{ℕ, List, [], ◌∷◌, ◌++◌, length}
use Rattle.std.specs.List.{flat_map}
use Rattle.std.specs.Int.{w32, w64, to_be_bytes}
use Rattle.et_base.specs.declared.line.TraceLine.{TraceLine}
use Rattle.et_base.specs.declared.line.TraceLine.TheVariants.{Header}
use Rattle.et_text.specs.Spelling.{LineField, Number, Text, letter, fields}

-- the highest byte of a number stands first, and a length has 32 bits
abbrev pub packed_field : LineField → List ℕ
packed_field (Number w n) = to_be_bytes w n
packed_field (Text name) = to_be_bytes w32 (length name) ++ name

-- the fields behind the letter of a line: the version of a header does not stand in a record
abbrev pub packed_fields : TraceLine → List LineField
packed_fields (Header v interval) = Number w64 interval ∷ []
packed_fields line = fields line

-- the record of a line
abbrev pub packing : TraceLine → List ℕ
packing line = letter line ∷ flat_map packed_field (packed_fields line)

-- the first byte of a binary trace, FE
abbrev pub first_byte : ℕ
first_byte = 254

-- what stands before the first record: FE, and E, T and 2
abbrev pub opening : List ℕ
opening = first_byte ∷ 69 ∷ 84 ∷ 50 ∷ []

-- the bytes of the lines, in order
abbrev pub pack : List TraceLine → List ℕ
pack lines = opening ++ flat_map packing lines

-- what is written of a line: its record, behind the opening where it is the header
abbrev pub written_record : TraceLine → List ℕ
written_record (Header v interval) = opening ++ packing (Header v interval)
written_record line = packing line
