-- The rules on code that the code itself, its exception table, its number of local variables and the tags of the
-- constant pool decide (JVMS 4.7.3 and 4.9.1), each marked at its item. Places count from the beginning of code_length.
use Rattle.std.specs.Prelude.{◌≡◌, ℕ, ◌+◌, ◌-◌, ◌^◌, ℤ, pos, negsuc, ◌+ℤ◌, List, [], ◌∷◌, ◌++◌, length, map, slice_index, slice_index_or, Bool, true, false, not, None, Result, Ok, Err, nat_lt, nat_le, int_lt, int_le, ◌==◌, ◌&&◌, ◌||◌, if◌then◌else◌}
use Rattle.std.specs.List.{list_all, flat_map}
use Rattle.std.specs.Int.{w32, cast_signed}
use Rattle.et_base.specs.Marks.{Mark, MarksAre, IsFirstBroken, mark}
use Rattle.et_code.specs.declared.instr.Instr.{Instr}
use Rattle.et_code.specs.declared.instr.CodeFault.{CodeFault}
use Rattle.et_code.specs.declared.instr.CodeFault.TheVariants as fault
use Rattle.et_code.specs.declared.body.TableRow.{TableRow}
use Rattle.et_code.specs.declared.body.RawCode.{RawCode}
use Rattle.et_code.specs.declared.body.CheckFault.{CheckFault}
use Rattle.et_code.specs.declared.body.CheckFault.TheVariants as check
use Rattle.et_code.specs.declared.body.TheConstants.{CODE, UNSUPPORTED}
use Rattle.et_code.specs.declared.opcode.TheConstants.{LDC, LDC_W, LDC2_W, ILOAD, LLOAD, ALOAD, ILOAD_0, LLOAD_0, ALOAD_0, ISTORE, LSTORE, ASTORE, ISTORE_0, LSTORE_0, ASTORE_0, IINC, IFEQ, GOTO, TABLESWITCH, LOOKUPSWITCH, GETSTATIC, PUTFIELD, INVOKEVIRTUAL, INVOKESPECIAL, INVOKESTATIC, INVOKEINTERFACE, NEW, NEWARRAY, ANEWARRAY, CHECKCAST, INSTANCEOF, MULTIANEWARRAY, IFNULL, GOTO_W}
use Rattle.et_code.specs.Decoding.{instruction_at, code_word_at}
use Rattle.et_code.specs.Switches.{table_rows, lookup_pairs}
use Rattle.et_code.specs.Bodies.{Body, body_of}
use Rattle.et_code.specs.Starts.{starts, is_start}

-- LOCAL VARIABLES: what an instruction names is below max_locals, and so is the second entry of a long

-- iload_0 to iload_3, and the like: four opcodes in a row, which have the local variable in them
abbrev pub is_one_of_four : ℕ → ℕ → Bool
is_one_of_four lowest opcode = nat_le lowest opcode && nat_le opcode (lowest + 3)

-- how many entries an instruction without an operand for the local variable needs
abbrev pub implicit_locals : ℕ → ℕ
implicit_locals opcode =
    if is_one_of_four ILOAD_0 opcode then opcode - ILOAD_0 + 1
    else (if is_one_of_four LLOAD_0 opcode then opcode - LLOAD_0 + 2
    else (if is_one_of_four ALOAD_0 opcode then opcode - ALOAD_0 + 1
    else (if is_one_of_four ISTORE_0 opcode then opcode - ISTORE_0 + 1
    else (if is_one_of_four LSTORE_0 opcode then opcode - LSTORE_0 + 2
    else (if is_one_of_four ASTORE_0 opcode then opcode - ASTORE_0 + 1 else 0)))))

-- how many entries of local variables an instruction needs
abbrev pub locals_needed : Instr → ℤ
locals_needed i =
    if (i.opcode == ILOAD) || (i.opcode == ALOAD) || (i.opcode == ISTORE) || (i.opcode == ASTORE) || (i.opcode == IINC) then i.first +ℤ pos 1
    else (if (i.opcode == LLOAD) || (i.opcode == LSTORE) then i.first +ℤ pos 2 else pos (implicit_locals i.opcode))

abbrev pub fits_locals : ℕ → Instr → Bool
fits_locals max_locals i = int_le (locals_needed i) (pos max_locals)

-- THE CONSTANT POOL: an index names an entry of a tag that the instruction may name

-- the tag of an entry, by its index; 0 where there is none
abbrev pub tag_in : List ℕ → ℤ → ℕ
tag_in tags (pos i) = slice_index tags i
tag_in tags (negsuc i) = 0

-- Integer, Float, Class, String, MethodHandle or MethodType
abbrev pub is_loadable : ℕ → Bool
is_loadable tag = (tag == 3) || (tag == 4) || (tag == 7) || (tag == 8) || (tag == 15) || (tag == 16)

-- Fieldref, by the four field instructions
abbrev pub is_field_instruction : ℕ → Bool
is_field_instruction opcode = nat_le GETSTATIC opcode && nat_le opcode PUTFIELD

-- Class, by these
abbrev pub is_class_instruction : ℕ → Bool
is_class_instruction opcode = (opcode == NEW) || (opcode == ANEWARRAY) || (opcode == CHECKCAST) || (opcode == INSTANCEOF) || (opcode == MULTIANEWARRAY)

-- whether the standard lets the instruction of an opcode name an entry of a tag; true where it names none
abbrev pub may_name : ℕ → ℕ → Bool
may_name opcode tag =
    if (opcode == LDC) || (opcode == LDC_W) then is_loadable tag
    -- Long or Double
    else (if opcode == LDC2_W then (tag == 5) || (tag == 6)
    else (if is_field_instruction opcode then tag == 9
    -- Methodref
    else (if opcode == INVOKEVIRTUAL then tag == 10
    -- Methodref or InterfaceMethodref
    else (if (opcode == INVOKESPECIAL) || (opcode == INVOKESTATIC) then (tag == 10) || (tag == 11)
    -- InterfaceMethodref
    else (if opcode == INVOKEINTERFACE then tag == 11
    else (if is_class_instruction opcode then tag == 7 else true))))))

-- whether the profile leaves out that the instruction of an opcode loads an entry of a tag: a Float, Class,
-- MethodHandle or MethodType, or a Double
abbrev pub is_left_out : ℕ → ℕ → Bool
is_left_out opcode tag =
    if (opcode == LDC) || (opcode == LDC_W) then is_loadable tag && not ((tag == 3) || (tag == 8))
    else ((opcode == LDC2_W) && (tag == 6))

-- ARRAYS: newarray makes an array of kind 4 to 11 (JVMS 6.5, newarray), of which 6 is float and 7 is double

abbrev pub is_array_kind : Instr → Bool
is_array_kind i = not (i.opcode == NEWARRAY) || (int_le (pos 4) i.first && int_le i.first (pos 11))

abbrev pub makes_float_array : Instr → Bool
makes_float_array i = (i.opcode == NEWARRAY) && (int_le (pos 6) i.first && int_le i.first (pos 7))

-- TARGETS: a branch, a switch and a handler lead to instruction starts

-- whether a place passes a test; one in front of the code doesn't
abbrev pub passes_test : (ℕ → Bool) → ℤ → Bool
passes_test test (pos place) = test place
passes_test test (negsuc n) = false

-- ifeq to goto, ifnull, ifnonnull and goto_w
abbrev pub is_branch : ℕ → Bool
is_branch opcode = (nat_le IFEQ opcode && nat_le opcode GOTO) || (nat_le IFNULL opcode && nat_le opcode GOTO_W)

-- all the offsets by which an instruction may branch
abbrev pub offsets : List ℕ → Instr → List ℤ
offsets code i =
    if is_branch i.opcode then i.first ∷ []
    else (if i.opcode == TABLESWITCH then code_word_at code i.table ∷ table_rows code i.table
    else (if i.opcode == LOOKUPSWITCH then code_word_at code i.table ∷ map (λ p. p.1) (lookup_pairs code i.table) else []))

abbrev pub has_targets : List ℕ → (ℕ → Bool) → ℕ → Instr → Bool
has_targets code test pc i = list_all (λ offset. passes_test test (pos pc +ℤ offset)) (offsets code i)

-- KEYS: those of a lookupswitch rise

abbrev pub rises : List ℤ → Bool
rises [] = true
rises (x ∷ []) = true
rises (x ∷ y ∷ more) = int_lt x y && rises (y ∷ more)

abbrev pub has_rising_keys : List ℕ → Instr → Bool
has_rising_keys code i = not (i.opcode == LOOKUPSWITCH) || rises (map (λ p. cast_signed w32 p.0) (lookup_pairs code i.table))

-- AN INSTRUCTION, or why there is none. The test tells instruction starts from other places.

abbrev pub operand_marks : Body → List ℕ → ℕ → Instr → List Mark
operand_marks b tags place i =
    mark place CODE (fits_locals b.max_locals i) ∷
    mark place CODE (may_name i.opcode (tag_in tags i.first)) ∷
    mark place UNSUPPORTED (not (is_left_out i.opcode (tag_in tags i.first))) ∷ []

abbrev pub array_marks : ℕ → Instr → List Mark
array_marks place i = mark place CODE (is_array_kind i) ∷ mark place UNSUPPORTED (not (makes_float_array i)) ∷ []

abbrev pub target_marks : Body → (ℕ → Bool) → ℕ → ℕ → Instr → List Mark
target_marks b test place pc i = mark place CODE (has_targets b.code test pc i) ∷ mark place CODE (has_rising_keys b.code i) ∷ []

-- the code begins behind the four bytes of code_length
abbrev pub decoded_marks : Body → List ℕ → (ℕ → Bool) → ℕ → Result (Instr × ℕ) CodeFault → List Mark
decoded_marks b tags test pc (Ok x) = operand_marks b tags (pc + 4) x.0 ++ (array_marks (pc + 4) x.0 ++ target_marks b test (pc + 4) pc x.0)
decoded_marks b tags test pc (Err fault.Opcode) = mark (pc + 4) CODE false ∷ []
decoded_marks b tags test pc (Err fault.Short) = mark (pc + 4) CODE false ∷ []
decoded_marks b tags test pc (Err fault.Unsupported) = mark (pc + 4) UNSUPPORTED false ∷ []

-- what stands at pc
abbrev pub marks_at : Body → List ℕ → (ℕ → Bool) → ℕ → List Mark
marks_at b tags test pc = decoded_marks b tags test pc (instruction_at b.code pc)

-- A ROW of the exception table: a range that begins at an instruction start and ends above that, at another or at the
-- end of the code; a handler at an instruction start; and a class, or 0

abbrev pub row_holds : ℕ → List ℕ → (ℕ → Bool) → TableRow → Bool
row_holds code_length tags test row =
    test row.start && nat_lt row.start row.end && (test row.end || (row.end == code_length)) && test row.handler && ((row.catch == 0) || (tag_in tags (pos row.catch) == 7))

-- rows of eight bytes each, the first of which stands at a place
unfoldable pub rows_marks : ℕ → List ℕ → (ℕ → Bool) → ℕ → List TableRow → List Mark
rows_marks code_length tags test place [] = []
rows_marks code_length tags test place (row ∷ more) = mark place CODE (row_holds code_length tags test row) ∷ rows_marks code_length tags test (place + 8) more

-- ALL RULES ON CODE. code_length is from 1 to 65,535; each instruction and each row of the exception table keeps its
-- rules. The table's count of two bytes stands behind the code.

abbrev pub is_code_length : ℕ → Bool
is_code_length n = nat_le 1 n && nat_lt n (2 ^ 16)

abbrev pub code_marks : Body → List ℕ → List Mark
code_marks b tags =
    mark 0 CODE (is_code_length (length b.code)) ∷ (flat_map (marks_at b tags (is_start b.code)) (starts b.code) ++ rows_marks (length b.code) tags (is_start b.code) (length b.code + 6) b.table)

-- there is a constant pool with whose tags the code keeps all rules
pub record KeepsRules (b : Body) : Type 0 where
  pub tags : List ℕ
  pub kept : MarksAre (code_marks b tags) None

-- the code keeps all rules, or this is the first item that breaks one, and the kind of that rule
abbrev pub ChecksCode : RawCode → List ℕ → Result Body CheckFault → Type 0
ChecksCode raw tags (Ok b) = (b ≡ body_of raw) × MarksAre (code_marks (body_of raw) tags) None
ChecksCode raw tags (Err (check.At kind place)) = IsFirstBroken (code_marks (body_of raw) tags) place kind
ChecksCode raw tags (Err check.NoMemory) = Unit {0}

-- HOW PLACES ARE TESTED: by a flag for each place

abbrev pub flag : List Bool → ℕ → Bool
flag flags place = slice_index_or flags place false
