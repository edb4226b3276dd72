-- The constant pool of a listing: the entries in the order of their first use, each once, and the parts of an entry
-- before it (JVMS 4.4).
use Rattle.std.specs.Prelude.{◌≡◌, ℕ, ◌+◌, List, [], ◌∷◌, ◌++◌, length, take, filter, sum_by, position, codes, Bool, true, false, not, ◌&&◌, Option, Some, None, if◌then◌else◌}
use Rattle.std.specs.Option.{option_map_or}
use Rattle.std.specs.List.{flat_map}
use Rattle.std.specs.Ordering.{int_eq}
use Rattle.std.specs.Int.{w16, w32, w64, to_be_bytes, cast_unsigned}
use Rattle.et_class.specs.Layout.{u2, u4}
use Rattle.et_listing.specs.declared.entry.Entry.{Entry}
use Rattle.et_listing.specs.declared.entry.Entry.TheVariants as entry
use Rattle.et_listing.specs.declared.instruction.Instruction.{Instruction}
use Rattle.et_listing.specs.declared.instruction.Instruction.TheVariants as instruction
use Rattle.et_listing.specs.declared.line.Line.{Line}
use Rattle.et_listing.specs.declared.line.Line.TheVariants as line
use Rattle.et_listing.specs.declared.line.Parsed.{Parsed}
use Rattle.et_listing.specs.Words.{same_word, unescaped}
use Rattle.et_asm.specs.Along.{along_lines}
use Rattle.et_asm.specs.Order.{opens, lines_of_body, stage_of, is_inside}

abbrev pub same_entry : Entry → Entry → Bool
same_entry (entry.Utf8 a) (entry.Utf8 b) = same_word a b
same_entry (entry.Integer a) (entry.Integer b) = int_eq a b
same_entry (entry.Long a) (entry.Long b) = int_eq a b
same_entry (entry.Class a) (entry.Class b) = same_word a b
same_entry (entry.Text a) (entry.Text b) = same_word a b
same_entry (entry.NameAndType a b) (entry.NameAndType c d) = same_word a c && same_word b d
same_entry (entry.Field a b c) (entry.Field d e f) = same_word a d && (same_word b e && same_word c f)
same_entry (entry.Method a b c) (entry.Method d e f) = same_word a d && (same_word b e && same_word c f)
same_entry (entry.InterfaceMethod a b c) (entry.InterfaceMethod d e f) = same_word a d && (same_word b e && same_word c f)
same_entry a b = false

abbrev pub member_parts : List ℕ → List ℕ → List ℕ → List Entry
member_parts class name descriptor =
    entry.Utf8 class ∷ entry.Class class ∷ entry.Utf8 name ∷ entry.Utf8 descriptor ∷ entry.NameAndType name descriptor ∷ []

-- an entry behind its parts
abbrev pub parts : Entry → List Entry
parts (entry.Utf8 text) = entry.Utf8 text ∷ []
parts (entry.Integer value) = entry.Integer value ∷ []
parts (entry.Long value) = entry.Long value ∷ []
parts (entry.Class name) = entry.Utf8 name ∷ entry.Class name ∷ []
parts (entry.Text text) = entry.Utf8 text ∷ entry.Text text ∷ []
parts (entry.NameAndType name descriptor) = entry.Utf8 name ∷ entry.Utf8 descriptor ∷ entry.NameAndType name descriptor ∷ []
parts (entry.Field class name descriptor) = member_parts class name descriptor ++ entry.Field class name descriptor ∷ []
parts (entry.Method class name descriptor) = member_parts class name descriptor ++ entry.Method class name descriptor ∷ []
parts (entry.InterfaceMethod class name descriptor) = member_parts class name descriptor ++ entry.InterfaceMethod class name descriptor ∷ []

-- WHAT LINES USE

abbrev pub operand_entries : Instruction → List Entry
operand_entries (instruction.Load e) = e ∷ []
operand_entries (instruction.Pool opcode e) = e ∷ []
operand_entries (instruction.Interface class name descriptor) = entry.InterfaceMethod class name descriptor ∷ []
operand_entries (instruction.Array class dimensions) = entry.Class class ∷ []
operand_entries other = []

abbrev pub constant_entries : Option Entry → List Entry
constant_entries None = []
constant_entries (Some e) = entry.Utf8 (codes "ConstantValue") ∷ e ∷ []

abbrev pub attribute_entries : Option (ℕ × ℕ) → List Entry
attribute_entries None = []
attribute_entries (Some limits) = entry.Utf8 (codes "Code") ∷ []

-- the entries of a line outside of bodies
abbrev pub header_entries : Line → List Entry
header_entries (line.Class name super flags) = entry.Class name ∷ entry.Class super ∷ []
header_entries (line.Interface name) = entry.Class name ∷ []
header_entries (line.Field name descriptor flags constant) = entry.Utf8 name ∷ entry.Utf8 descriptor ∷ constant_entries constant
header_entries (line.Method name descriptor flags limits) = entry.Utf8 name ∷ entry.Utf8 descriptor ∷ attribute_entries limits
header_entries other = []

-- the entries of an instruction, and those of a handler
abbrev pub code_entries : Line → List Entry
code_entries (line.Instruction i) = operand_entries i
code_entries other = []

abbrev pub catch_entries : Line → List Entry
catch_entries (line.Catch from to handler (Some class)) = entry.Class class ∷ []
catch_entries other = []

-- the uses of a body: the operands in their order, and then the classes that handlers catch
abbrev pub body_uses : List Parsed → List Entry
body_uses body = flat_map (λ p. code_entries p.line) body ++ flat_map (λ p. catch_entries p.line) body

-- what a line outside of bodies uses, with the body that it opens
abbrev pub outside_uses : Line → List Parsed → List Entry
outside_uses l behind = header_entries l ++ (if opens l then body_uses (lines_of_body behind) else [])

-- what a line uses, by the lines before and behind it: a body is used by the line that opens it
abbrev pub line_uses : List Parsed → Parsed → List Parsed → List Entry
line_uses before p behind = if is_inside (stage_of before) then [] else outside_uses p.line behind

abbrev pub uses : List Parsed → List Entry
uses lines = along_lines line_uses lines

-- THE POOL

-- each of these entries once, in the order of their first places
unfoldable pub each_once : List Entry → List Entry
each_once [] = []
each_once (e ∷ more) = e ∷ filter (λ other. not (same_entry e other)) (each_once more)

unfoldable pub pool : List Parsed → List Entry
pool lines = each_once (flat_map parts (uses lines))

-- INDICES. The first entry has index 1, and behind a Long one index has no entry.

abbrev pub width : Entry → ℕ
width (entry.Long value) = 2
width other = 1

-- the index of an entry that stands behind entries: one more than the number of indices that they take
abbrev pub index_behind : List Entry → ℕ
index_behind entries = 1 + sum_by width entries

-- the index of an entry, or 0 where the pool lacks it
unfoldable pub entry_index : List Entry → Entry → ℕ
entry_index entries e = option_map_or (λ i. index_behind (take i entries)) (position (same_entry e) entries) 0

-- THE BYTES of an entry (JVMS 4.4): its tag, and what that asks for

abbrev pub reference_bytes : List Entry → ℕ → List ℕ → List ℕ → List ℕ → List ℕ
reference_bytes entries tag class name descriptor =
    tag ∷ u2 (entry_index entries (entry.Class class)) ++ u2 (entry_index entries (entry.NameAndType name descriptor))

unfoldable pub entry_bytes : List Entry → Entry → List ℕ
entry_bytes entries (entry.Utf8 text) = 1 ∷ u2 (length (unescaped text)) ++ unescaped text
entry_bytes entries (entry.Integer value) = 3 ∷ u4 (cast_unsigned w32 value)
entry_bytes entries (entry.Long value) = 5 ∷ to_be_bytes w64 (cast_unsigned w64 value)
entry_bytes entries (entry.Class name) = 7 ∷ u2 (entry_index entries (entry.Utf8 name))
entry_bytes entries (entry.Text text) = 8 ∷ u2 (entry_index entries (entry.Utf8 text))
entry_bytes entries (entry.Field class name descriptor) = reference_bytes entries 9 class name descriptor
entry_bytes entries (entry.Method class name descriptor) = reference_bytes entries 10 class name descriptor
entry_bytes entries (entry.InterfaceMethod class name descriptor) = reference_bytes entries 11 class name descriptor
entry_bytes entries (entry.NameAndType name descriptor) = 12 ∷ u2 (entry_index entries (entry.Utf8 name)) ++ u2 (entry_index entries (entry.Utf8 descriptor))

abbrev pub entry_pool_bytes : List Entry → List ℕ
entry_pool_bytes entries = u2 (index_behind entries) ++ flat_map (entry_bytes entries) entries
