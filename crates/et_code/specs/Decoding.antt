-- The instruction at a place of the code, and the place behind it, or why there is none (JVMS 6.5).
use Rattle.std.specs.Prelude.{◌≡◌, ℕ, ◌+◌, ◌-◌, ◌*◌, ◌%◌, ◌^◌, ◌<◌, ◌≤◌, ℤ, pos, List, length, drop, Bool, true, false, Result, Ok, Err, nat_lt, nat_le, int_lt, if◌then◌else◌, ◌⊎◌}
use Rattle.std.specs.Option.{ok_or}
use Rattle.std.specs.Int.{Width, w8, w16, w32, from_be_bytes, cast_signed, int_gap}
use Rattle.et_base.specs.Steps.{◌>>=◌}
use Rattle.et_base.specs.Numbers.{number_at}
use Rattle.et_code.specs.declared.instr.CodeFault.{CodeFault}
use Rattle.et_code.specs.declared.instr.CodeFault.TheVariants as fault
use Rattle.et_code.specs.declared.instr.Instr.{Instr}
use Rattle.et_code.specs.declared.form.Form.{Form}
use Rattle.et_code.specs.declared.form.Form.TheVariants as form
use Rattle.et_code.specs.Forms.{form_of, wide_form_of}

-- the number at a place and the place behind it; the instruction is Short where the code ends before that
abbrev pub read : Width → List ℕ → ℕ → Result (ℕ × ℕ) CodeFault
read w code at = ok_or (number_at w code at) fault.Short

abbrev pub instr : ℕ → Bool → ℤ → ℤ → ℕ → Instr
instr opcode wide first second table = record { opcode = opcode; wide = wide; first = first; second = second; table = table }

-- the items of a switch at pc begin at the next multiple of four behind its opcode
abbrev pub table_place : ℕ → ℕ
table_place pc = pc + 4 - pc % 4

-- the four bytes at a place, and the signed number that they are
abbrev pub bits_at : List ℕ → ℕ → ℕ
bits_at code at = from_be_bytes w32 (drop at code)

abbrev pub code_word_at : List ℕ → ℕ → ℤ
code_word_at code at = cast_signed w32 (bits_at code at)

-- a switch whose rows or pairs take that many bytes from a place on
abbrev pub rows_at : List ℕ → ℕ → ℕ → ℕ → ℕ → Result (Instr × ℕ) CodeFault
rows_at code pc opcode at size = if nat_lt (length code) (at + size) then Err fault.Short else Ok (instr opcode false (pos 0) (pos 0) (table_place pc), at + size)

-- how many rows a table from low to high has
abbrev pub row_count : ℤ → ℤ → ℕ
row_count low high = int_gap low high + 1

abbrev pub table_instruction : List ℕ → ℕ → ℕ → ℕ → ℤ → ℤ → Result (Instr × ℕ) CodeFault
table_instruction code pc opcode at low high = if int_lt high low then Err fault.Short else rows_at code pc opcode at (row_count low high * 4)

-- tableswitch: the default offset, low, high, and an offset for each number from low to high
unfoldable pub table_at : List ℕ → ℕ → ℕ → Result (Instr × ℕ) CodeFault
table_at code pc opcode = do
  default ← read w32 code (table_place pc)
  low ← read w32 code default.1
  high ← read w32 code low.1
  table_instruction code pc opcode high.1 (cast_signed w32 low.0) (cast_signed w32 high.0)

-- lookupswitch: the default offset, a count that isn't negative, and so many pairs of a key and an offset
unfoldable pub lookup_at : List ℕ → ℕ → ℕ → Result (Instr × ℕ) CodeFault
lookup_at code pc opcode = do
  default ← read w32 code (table_place pc)
  count ← read w32 code default.1
  if nat_le (2 ^ 31) count.0 then Err fault.Short else rows_at code pc opcode count.1 (count.0 * 8)

-- the operands behind a `wide` and an opcode
abbrev pub wide_at : List ℕ → ℕ → ℕ → Form → Result (Instr × ℕ) CodeFault
wide_at code opcode at form.U2 = do
  n ← read w16 code at
  Ok (instr opcode true (pos n.0) (pos 0) 0, n.1)
wide_at code opcode at form.LongIncrement = do
  m ← read w16 code at
  n ← read w16 code m.1
  Ok (instr opcode true (pos m.0) (cast_signed w16 n.0) 0, n.1)
wide_at code opcode at form.Refused = Err fault.Unsupported
wide_at code opcode at other = Err fault.Opcode

unfoldable pub behind_wide : List ℕ → ℕ → Result (Instr × ℕ) CodeFault
behind_wide code at = do
  opcode ← read w8 code at
  wide_at code opcode.0 opcode.1 (wide_form_of opcode.0)

-- invokeinterface: the constant, a count, and a byte that is passed over
abbrev pub interface_at : List ℕ → ℕ → ℕ → Result (Instr × ℕ) CodeFault
interface_at code opcode at = do
  m ← read w16 code at
  n ← read w8 code m.1
  passed ← read w8 code n.1
  Ok (instr opcode false (pos m.0) (pos n.0) 0, passed.1)

-- multianewarray: the constant and how many dimensions are made
abbrev pub dimensions_at : List ℕ → ℕ → ℕ → Result (Instr × ℕ) CodeFault
dimensions_at code opcode at = do
  m ← read w16 code at
  n ← read w8 code m.1
  Ok (instr opcode false (pos m.0) (pos n.0) 0, n.1)

-- the operands behind an opcode, of the form that it has
abbrev pub operands_at : List ℕ → ℕ → ℕ → ℕ → Form → Result (Instr × ℕ) CodeFault
operands_at code pc opcode at form.Plain = Ok (instr opcode false (pos 0) (pos 0) 0, at)
operands_at code pc opcode at form.U1 = do
  n ← read w8 code at
  Ok (instr opcode false (pos n.0) (pos 0) 0, n.1)
operands_at code pc opcode at form.S1 = do
  n ← read w8 code at
  Ok (instr opcode false (cast_signed w8 n.0) (pos 0) 0, n.1)
operands_at code pc opcode at form.U2 = do
  n ← read w16 code at
  Ok (instr opcode false (pos n.0) (pos 0) 0, n.1)
operands_at code pc opcode at form.S2 = do
  n ← read w16 code at
  Ok (instr opcode false (cast_signed w16 n.0) (pos 0) 0, n.1)
operands_at code pc opcode at form.S4 = do
  n ← read w32 code at
  Ok (instr opcode false (cast_signed w32 n.0) (pos 0) 0, n.1)
operands_at code pc opcode at form.Increment = do
  m ← read w8 code at
  n ← read w8 code m.1
  Ok (instr opcode false (pos m.0) (cast_signed w8 n.0) 0, n.1)
operands_at code pc opcode at form.LongIncrement = Err fault.Opcode
operands_at code pc opcode at form.Interface = interface_at code opcode at
operands_at code pc opcode at form.Dimensions = dimensions_at code opcode at
operands_at code pc opcode at form.Wide = behind_wide code at
operands_at code pc opcode at form.Table = table_at code pc opcode
operands_at code pc opcode at form.Lookup = lookup_at code pc opcode
operands_at code pc opcode at form.Refused = Err fault.Unsupported
operands_at code pc opcode at form.Unknown = Err fault.Opcode

-- the instruction at pc
unfoldable pub instruction_at : List ℕ → ℕ → Result (Instr × ℕ) CodeFault
instruction_at code pc = do
  opcode ← read w8 code pc
  operands_at code pc opcode.0 opcode.1 (form_of opcode.0)

-- the rows of a table, and the pairs of a lookup, whose default offset stands at a place are in the code
pub record TableFits (code : List ℕ) (table : ℕ) : Type 0 where
  pub ordered : int_lt (code_word_at code (table + 8)) (code_word_at code (table + 4)) ≡ false
  pub within : table + 12 + row_count (code_word_at code (table + 4)) (code_word_at code (table + 8)) * 4 ≤ length code

abbrev pub LookupFits : List ℕ → ℕ → Type 0
LookupFits code table = table + 8 + bits_at code (table + 4) * 8 ≤ length code

-- where an instruction is a switch, its rows or its pairs are in the code
pub record SwitchFits (code : List ℕ) (i : Instr) : Type 0 where
  pub table : i.opcode ≡ 0xaa → TableFits code i.table
  pub lookup : i.opcode ≡ 0xab → LookupFits code i.table

-- what holds of an instruction that stands at pc and ends before next
pub record Fits (code : List ℕ) (pc : ℕ) (i : Instr) (next : ℕ) : Type 0 where
  pub advances : pc < next
  pub within : next ≤ length code
  pub table : i.opcode ≡ 0xaa → TableFits code i.table
  pub lookup : i.opcode ≡ 0xab → LookupFits code i.table

-- the first operand of an instruction is below 2 ^ 16, but for an offset of 32 bits
abbrev pub IsNarrow : Instr → Type 0
IsNarrow i = (form_of i.opcode ≡ form.S4) ⊎ (int_lt i.first (pos (2 ^ 16)) ≡ true)
