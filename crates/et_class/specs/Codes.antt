-- The Code attribute (JVMS 4.7.3), and the rules on code that the entries of the pool decide (4.9.1, 6.5).
use Rattle.std.specs.Prelude.{ℕ, ◌+◌, ◌^◌, ℤ, pos, negsuc, List, [], ◌∷◌, ◌++◌, length, map, Bool, true, false, not, nat_lt, nat_le, int_le, ◌==◌, ◌&&◌, ◌||◌, if◌then◌else◌, Option, Some, None, option_and_then, Result, Ok, Err, ok_or}
use Rattle.std.specs.List.{flat_map}
use Rattle.std.specs.Int.{w16, w32}
use Rattle.et_base.specs.Numbers.{bytes_at}
use Rattle.et_base.specs.Steps.{◌>>=◌}
use Rattle.et_base.specs.Marks.{Mark, mark}
use Rattle.et_pool.specs.Entries.{Item}
use Rattle.et_pool.specs.Looks.{utf8_at, class_name_at, member_at as pair_at, name_and_type_at, tag_of_slot}
use Rattle.et_pool.specs.Descriptors.{is_array, is_floating_array, dimensions}
use Rattle.et_code.specs.declared.body.TableRow.{TableRow}
use Rattle.et_code.specs.declared.body.TheConstants.{CODE, UNSUPPORTED}
use Rattle.et_code.specs.declared.opcode.TheConstants.{GETSTATIC, INVOKESPECIAL, INVOKEINTERFACE, NEW, ANEWARRAY, MULTIANEWARRAY}
use Rattle.et_code.specs.declared.instr.Instr.{Instr}
use Rattle.et_code.specs.declared.instr.CodeFault.{CodeFault}
use Rattle.et_code.specs.Decoding.{instruction_at}
use Rattle.et_code.specs.Bodies.{Body}
use Rattle.et_code.specs.Starts.{starts}
use Rattle.et_code.specs.Rules.{is_class_instruction, code_marks}
use Rattle.et_class.specs.declared.fault.TheConstants.{ATTRIBUTE, SHORT}
use Rattle.et_class.specs.declared.names.TheConstants.{INIT, CLINIT}
use Rattle.et_class.specs.Layout.{AttributeOf}
use Rattle.et_class.specs.Reading.{number_read, counted_at, attribute_at}
use Rattle.et_class.specs.Names.{is_text}

-- THE ITEMS of the body of a Code attribute

-- its items, and where in the body the first of its attributes stands
pub record CodeOf : Type 0 where
  pub body : Body
  pub first : ℕ
  pub attributes : List AttributeOf

unfoldable pub exception_row_at : List ℕ → ℕ → Result (TableRow × ℕ) (ℕ × ℕ)
exception_row_at bytes at = do
  start ← number_read w16 bytes at
  end ← number_read w16 bytes start.1
  handler ← number_read w16 bytes end.1
  catch ← number_read w16 bytes handler.1
  Ok (record { start = start.0; end = end.0; handler = handler.0; catch = catch.0 }, catch.1)

-- max_stack, max_locals, the code, the exception table
unfoldable pub code_body_at : List ℕ → Result (Body × ℕ) (ℕ × ℕ)
code_body_at bytes = do
  stack ← number_read w16 bytes 0
  locals ← number_read w16 bytes stack.1
  size ← number_read w32 bytes locals.1
  code ← ok_or (bytes_at bytes size.0 size.1) (size.1, SHORT)
  table ← counted_at bytes (exception_row_at bytes) code.1
  Ok (record { max_stack = stack.0; max_locals = locals.0; code = code.0; table = table.0 }, table.1)

-- and attributes, which end where the body ends
unfoldable pub code_at : List ℕ → Result CodeOf (ℕ × ℕ)
code_at bytes = do
  body ← code_body_at bytes
  attributes ← counted_at bytes (attribute_at bytes) body.1
  if nat_lt attributes.1 (length bytes) then Err (attributes.1, ATTRIBUTE) else Ok (record { body = body.0; first = body.1 + 2; attributes = attributes.0 })

-- NAMES

-- the index that an instruction has as its first operand
abbrev pub index_of : ℤ → ℕ
index_of (pos n) = if nat_lt n (2 ^ 16) then n else 0
index_of (negsuc n) = 0

-- the name of the member that a member entry is of
abbrev pub member_name : List (Option Item) → ℕ → Option (List ℕ)
member_name slots index = option_and_then (λ x. option_and_then (λ y. utf8_at slots y.0) (name_and_type_at slots x.1)) (pair_at slots index)

-- the instructions of fields and of methods
abbrev pub names_member : ℕ → Bool
names_member opcode = nat_le GETSTATIC opcode && nat_le opcode INVOKEINTERFACE

-- only invokespecial names <init>, and nothing names <clinit> (2.9)
abbrev pub is_member_well : List (Option Item) → Instr → Bool
is_member_well slots i =
    not (names_member i.opcode)
    || (not (is_text (member_name slots (index_of i.first)) CLINIT.now) && ((i.opcode == INVOKESPECIAL) || not (is_text (member_name slots (index_of i.first)) INIT.now)))

-- new names no array; anewarray no array of 255 dimensions; multianewarray makes 1 to as many dimensions as its array
-- type has
abbrev pub is_class_well : Instr → Option (List ℕ) → Bool
is_class_well i None = true
is_class_well i (Some name) =
    if i.opcode == NEW then not (is_array name)
    else (if i.opcode == ANEWARRAY then not (dimensions name == 255)
    else (not (i.opcode == MULTIANEWARRAY) || (int_le (pos 1) i.second && int_le i.second (pos (dimensions name)))))

-- the class is an array over F or D
abbrev pub is_floating_class : Option (List ℕ) → Bool
is_floating_class None = false
is_floating_class (Some name) = is_floating_array name

-- the rules on an instruction at a place. Whether its entry has the tag that it needs is a rule of its own, at the
-- same place.
abbrev pub instruction_marks : List (Option Item) → ℕ → Instr → List Mark
instruction_marks slots place i =
    mark place CODE (is_member_well slots i) ∷
    mark place CODE (is_class_well i (class_name_at slots (index_of i.first))) ∷
    mark place UNSUPPORTED (not (is_class_instruction i.opcode && is_floating_class (class_name_at slots (index_of i.first)))) ∷ []

abbrev pub decoding_marks : List (Option Item) → ℕ → Result (Instr × ℕ) CodeFault → List Mark
decoding_marks slots place (Ok x) = instruction_marks slots place x.0
decoding_marks slots place (Err f) = []

-- the instruction at pc of the code that begins at a place
abbrev pub named_marks : List (Option Item) → ℕ → List ℕ → ℕ → List Mark
named_marks slots place code pc = decoding_marks slots (place + pc) (instruction_at code pc)

-- ALL RULES on the body of a Code attribute whose code_length stands at a place

-- a mark whose place counts from there
abbrev pub mark_moved : ℕ → Mark → Mark
mark_moved place m = mark (place + m.place) m.kind m.holds

abbrev pub body_marks : List (Option Item) → ℕ → Body → List Mark
body_marks slots place b = flat_map (named_marks slots (place + 4) b.code) (starts b.code) ++ map (mark_moved place) (code_marks b (map tag_of_slot slots))
