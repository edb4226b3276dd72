-- The code of a body: lengths, labels and bytes (JVMS 6.5 for each instruction).
use Rattle.std.specs.Prelude.{◌≡◌, ℕ, ◌+◌, ◌-◌, ◌*◌, ◌/◌, ◌%◌, ◌^◌, ℤ, pos, neg_ℤ, int_le, List, [], ◌∷◌, ◌++◌, length, take, fold, position, count_by, Bool, true, false, not, ◌==◌, ◌&&◌, nat_le, Option, Some, None, is_some, unwrap_or, option_map, replicate, if◌then◌else◌}
use Rattle.std.specs.List.{flat_map}
use Rattle.std.specs.Int.{w8, w16, w32, cast_unsigned}
use Rattle.et_code.specs.declared.opcode.TheConstants.{LDC, LDC_W, IINC, WIDE, GOTO_W, TABLESWITCH, LOOKUPSWITCH, INVOKEINTERFACE, MULTIANEWARRAY}
use Rattle.et_code.specs.Decoding.{table_place}
use Rattle.et_pool.specs.Descriptors.{method_type, shape_of_method}
use Rattle.et_listing.specs.declared.entry.Entry.{Entry}
use Rattle.et_listing.specs.declared.entry.Entry.TheVariants as entry
use Rattle.et_listing.specs.declared.instruction.Instruction.{Instruction}
use Rattle.et_listing.specs.declared.instruction.Instruction.TheVariants as instruction
use Rattle.et_listing.specs.declared.line.Line.{Line}
use Rattle.et_listing.specs.declared.line.Line.TheVariants as line
use Rattle.et_listing.specs.declared.line.Parsed.{Parsed}
use Rattle.et_listing.specs.Words.{same_word, unescaped, value, is_int32}
use Rattle.et_listing.specs.Lines.{pairs}
use Rattle.et_asm.specs.Along.{along_lines}
use Rattle.et_asm.specs.Pool.{entry_index}
use Rattle.et_class.specs.Layout.{u4, u2}

-- LENGTHS. `wide` is put where a local variable is above 255 or a constant of iinc doesn't fit 8 bits, and `ldc`
-- becomes `ldc_w` above index 255.

abbrev pub is_short : ℕ → Bool
is_short n = nat_le n 255

abbrev pub is_short_increment : ℕ → ℤ → Bool
is_short_increment local constant = is_short local && int_le (neg_ℤ (pos 128)) constant && int_le constant (pos 127)

-- the bytes between the opcode at a place and the items of a switch
abbrev pub padding : ℕ → ℕ
padding at = table_place at - (at + 1)

abbrev pub instruction_size : List Entry → ℕ → Instruction → ℕ
instruction_size entries at (instruction.Plain opcode) = 1
instruction_size entries at (instruction.Byte opcode operand) = 2
instruction_size entries at (instruction.Short opcode operand) = 3
instruction_size entries at (instruction.Local opcode local) = if is_short local then 2 else 4
instruction_size entries at (instruction.Increment local constant) = if is_short_increment local constant then 3 else 6
instruction_size entries at (instruction.Load e) = if is_short (entry_index entries e) then 2 else 3
instruction_size entries at (instruction.Pool opcode e) = 3
instruction_size entries at (instruction.Interface class name descriptor) = 5
instruction_size entries at (instruction.Array class dimensions) = 4
instruction_size entries at (instruction.Branch opcode target) = if opcode == GOTO_W then 5 else 3
instruction_size entries at (instruction.Table low labels default) = 13 + padding at + length labels * 4
instruction_size entries at (instruction.Lookup words default) = 9 + padding at + length (pairs words) * 8

-- how many bytes a line of a body takes at a place of the code
abbrev pub size : List Entry → ℕ → Line → ℕ
size entries at (line.Instruction i) = instruction_size entries at i
size entries at other = 0

-- the place in the code behind lines of a body: the sum of their lengths
abbrev pub place_behind : List Entry → List Parsed → ℕ
place_behind entries lines = fold (λ at p. at + size entries at p.line) 0 lines

-- LABELS. A label stands for a place in the code: that of the first line which defines it.

abbrev pub Labels : Type 0
Labels = List ℕ → Option ℕ

-- whether a line defines this label
abbrev pub defines : List ℕ → Line → Bool
defines name (line.Label label) = same_word label name
defines name other = false

unfoldable pub labels_of : List Entry → List Parsed → Labels
labels_of entries body name = option_map (λ i. place_behind entries (take i body)) (position (λ p. defines name p.line) body)

abbrev pub is_defined : Labels → List ℕ → Bool
is_defined labels name = is_some (labels name)

abbrev pub label_place : Labels → List ℕ → ℕ
label_place labels name = unwrap_or (labels name) 0

-- THE BYTES of an instruction at a place of the code

-- the offset of a label from a place, in two's complement
abbrev pub offset_bits : Labels → ℕ → List ℕ → ℕ
offset_bits labels at name = (label_place labels name + (2 ^ 64 - at)) % 2 ^ 64

abbrev pub offset2 : Labels → ℕ → List ℕ → List ℕ
offset2 labels at name = u2 (offset_bits labels at name)

abbrev pub offset4 : Labels → ℕ → List ℕ → List ℕ
offset4 labels at name = u4 (offset_bits labels at name)

-- the entries of the arguments and the receiver, where the descriptor is a method's and they are at most 255
abbrev pub count_of : Option ℕ → ℕ
count_of None = 0
count_of (Some n) = if nat_le n 254 then n + 1 else 0

abbrev pub argument_count : List ℕ → ℕ
argument_count descriptor = count_of (option_map (λ m. (shape_of_method m).entries) (method_type (unescaped descriptor)))

-- a number of 32 bits, or 0 where it is none
abbrev pub key_bits : List ℕ → ℕ
key_bits word = if is_int32 word then cast_unsigned w32 (value word) else 0

-- the first and the last number of a table of so many rows
abbrev pub bounds_bytes : ℤ → ℕ → List ℕ
bounds_bytes low rows = u4 (cast_unsigned w32 low) ++ u4 (cast_unsigned w32 low + (rows - 1))

abbrev pub table_bytes : Labels → ℕ → ℤ → List (List ℕ) → List ℕ → List ℕ
table_bytes labels at low names default = offset4 labels at default ++ (bounds_bytes low (length names) ++ flat_map (offset4 labels at) names)

abbrev pub pair_bytes : Labels → ℕ → List ℕ × List ℕ → List ℕ
pair_bytes labels at p = u4 (key_bits p.0) ++ offset4 labels at p.1

abbrev pub lookup_bytes : Labels → ℕ → List (List ℕ) → List ℕ → List ℕ
lookup_bytes labels at words default = offset4 labels at default ++ (u4 (length (pairs words)) ++ flat_map (pair_bytes labels at) (pairs words))

abbrev pub branch_bytes : Labels → ℕ → ℕ → List ℕ → List ℕ
branch_bytes labels at opcode target = opcode ∷ (if opcode == GOTO_W then offset4 labels at target else offset2 labels at target)

abbrev pub local_bytes : ℕ → ℕ → List ℕ
local_bytes opcode local = if is_short local then opcode ∷ local ∷ [] else WIDE ∷ opcode ∷ u2 local

abbrev pub load_bytes : ℕ → List ℕ
load_bytes index = if is_short index then LDC ∷ index ∷ [] else LDC_W ∷ u2 index

abbrev pub increment_bytes : ℕ → ℤ → List ℕ
increment_bytes local constant =
    if is_short_increment local constant then IINC ∷ local ∷ cast_unsigned w8 constant ∷ [] else WIDE ∷ IINC ∷ u2 local ++ u2 (cast_unsigned w16 constant)

abbrev pub switch_bytes : ℕ → ℕ → List ℕ
switch_bytes opcode at = opcode ∷ replicate (padding at) 0

abbrev pub instruction_bytes : List Entry → Labels → ℕ → Instruction → List ℕ
instruction_bytes entries labels at (instruction.Plain opcode) = opcode ∷ []
instruction_bytes entries labels at (instruction.Byte opcode operand) = opcode ∷ operand ∷ []
instruction_bytes entries labels at (instruction.Short opcode operand) = opcode ∷ u2 operand
instruction_bytes entries labels at (instruction.Local opcode local) = local_bytes opcode local
instruction_bytes entries labels at (instruction.Increment local constant) = increment_bytes local constant
instruction_bytes entries labels at (instruction.Load e) = load_bytes (entry_index entries e)
instruction_bytes entries labels at (instruction.Pool opcode e) = opcode ∷ u2 (entry_index entries e)
instruction_bytes entries labels at (instruction.Interface class name descriptor) =
    INVOKEINTERFACE ∷ u2 (entry_index entries (entry.InterfaceMethod class name descriptor)) ++ argument_count descriptor ∷ 0 ∷ []
instruction_bytes entries labels at (instruction.Array class dimensions) = MULTIANEWARRAY ∷ u2 (entry_index entries (entry.Class class)) ++ dimensions ∷ []
instruction_bytes entries labels at (instruction.Branch opcode target) = branch_bytes labels at opcode target
instruction_bytes entries labels at (instruction.Table low names default) = switch_bytes TABLESWITCH at ++ table_bytes labels at low names default
instruction_bytes entries labels at (instruction.Lookup words default) = switch_bytes LOOKUPSWITCH at ++ lookup_bytes labels at words default

abbrev pub line_bytes : List Entry → Labels → ℕ → Line → List ℕ
line_bytes entries labels at (line.Instruction i) = instruction_bytes entries labels at i
line_bytes entries labels at other = []

-- the bytes of a line behind others, and of all lines of a body
abbrev pub encoded_at : List Entry → Labels → List Parsed → Parsed → List Parsed → List ℕ
encoded_at entries labels before p behind = line_bytes entries labels (place_behind entries before) p.line

abbrev pub code_bytes : List Entry → Labels → List Parsed → List ℕ
code_bytes entries labels body = along_lines (encoded_at entries labels) body

-- HANDLERS

abbrev pub is_catch : Line → Bool
is_catch (line.Catch from to handler class) = true
is_catch other = false

abbrev pub catch_count : List Parsed → ℕ
catch_count body = count_by (λ p. is_catch p.line) body

abbrev pub caught_index : List Entry → Option (List ℕ) → ℕ
caught_index entries None = 0
caught_index entries (Some class) = entry_index entries (entry.Class class)

abbrev pub row_bytes : List Entry → Labels → Line → List ℕ
row_bytes entries labels (line.Catch from to handler class) =
    u2 (label_place labels from) ++ (u2 (label_place labels to) ++ (u2 (label_place labels handler) ++ u2 (caught_index entries class)))
row_bytes entries labels other = []

-- A Code attribute behind its name (JVMS 4.7.3): its length, the two numbers and the length of the code
abbrev pub code_head : ℕ × ℕ → ℕ → ℕ → List ℕ
code_head limits size rows = u4 (12 + size + rows * 8) ++ (u2 limits.0 ++ (u2 limits.1 ++ u4 size))

-- and behind the code the handlers, and no attributes
abbrev pub code_tail : List Entry → Labels → List Parsed → List ℕ
code_tail entries labels body = u2 (catch_count body) ++ (flat_map (λ p. row_bytes entries labels p.line) body ++ u2 0)

abbrev pub code_attribute : List Entry → Labels → ℕ × ℕ → List Parsed → List ℕ
code_attribute entries labels limits body =
    code_head limits (place_behind entries body) (catch_count body) ++ (code_bytes entries labels body ++ code_tail entries labels body)
