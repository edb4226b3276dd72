-- What a line says, and what is wrong with it by itself.
use Rattle.std.specs.Prelude.{ℕ, ◌+◌, ◌-◌, ◌%◌, ◌^◌, ℤ, pos, neg_ℤ, ◌+ℤ◌, int_le, unsigned_abs, codes, position, take, drop, length, slice_index, slice_index_or, List, [], ◌∷◌, Bool, not, ◌==◌, ◌&&◌, ◌||◌, nat_le, Option, Some, None, Result, Ok, Err, if◌then◌else◌}
use Rattle.std.specs.List.{list_all}
use Rattle.std.specs.Int.{w8, w16, cast_unsigned}
use Rattle.et_base.specs.Steps.{◌>>=◌}
use Rattle.et_listing.specs.declared.mnemonic.Shape.{Shape}
use Rattle.et_listing.specs.declared.mnemonic.Shape.TheVariants as shape
use Rattle.et_listing.specs.Mnemonics.{mnemonics, mnemonic_shape}
use Rattle.et_listing.specs.declared.entry.Entry.{Entry}
use Rattle.et_listing.specs.declared.entry.Entry.TheVariants as entry
use Rattle.et_listing.specs.declared.instruction.Instruction.{Instruction}
use Rattle.et_listing.specs.declared.instruction.Instruction.TheVariants as instruction
use Rattle.et_listing.specs.declared.line.Line.{Line}
use Rattle.et_listing.specs.declared.line.Line.TheVariants as line
use Rattle.et_listing.specs.declared.line.LineFault.{LineFault}
use Rattle.et_listing.specs.declared.line.LineFault.TheVariants as fault
use Rattle.et_listing.specs.declared.line.Parsed.{Parsed}
use Rattle.et_listing.specs.Words.{is_int32, words, same_word, is_spelling, is_label, is_label_line, is_numeral, is_flags, flags_of_words, value, is_natural_in, is_integer_in}

-- OPERANDS, by their place among the words of the line

abbrev pub word_at : List (List ℕ) → ℕ → List ℕ
word_at words i = slice_index_or words i []

abbrev pub needs : Bool → LineFault → Result (Unit {0}) LineFault
needs holds f = if holds then Ok tt else Err f

abbrev pub counted_words : List (List ℕ) → ℕ → Result (Unit {0}) LineFault
counted_words words n = needs (length words == n) fault.Operands

abbrev pub spelled_word : List (List ℕ) → ℕ → Result (List ℕ) LineFault
spelled_word words i = if is_spelling (word_at words i) then Ok (word_at words i) else Err fault.Operands

abbrev pub label : List (List ℕ) → ℕ → Result (List ℕ) LineFault
label words i = if is_label (word_at words i) then Ok (word_at words i) else Err fault.Operands

abbrev pub flags : List (List ℕ) → ℕ → Result ℕ LineFault
flags words i = if is_flags (word_at words i) then Ok (flags_of_words (word_at words i)) else Err fault.Operands

abbrev pub numeral : List (List ℕ) → ℕ → Result (Unit {0}) LineFault
numeral words i = needs (is_numeral (word_at words i)) fault.Operands

abbrev pub natural_word : List (List ℕ) → ℕ → ℕ → Result ℕ LineFault
natural_word words i high = if is_natural_in high (word_at words i) then Ok (unsigned_abs (value (word_at words i))) else Err fault.Number

abbrev pub integer : List (List ℕ) → ℕ → ℤ → ℤ → Result ℤ LineFault
integer words i low high = if is_integer_in low high (word_at words i) then Ok (value (word_at words i)) else Err fault.Number

-- a number of 32 and of 64 bits
abbrev pub int32 : List (List ℕ) → ℕ → Result ℤ LineFault
int32 words i = integer words i (neg_ℤ (pos (2 ^ 31))) (pos (2 ^ 31 - 1))

abbrev pub int64 : List (List ℕ) → ℕ → Result ℤ LineFault
int64 words i = integer words i (neg_ℤ (pos (2 ^ 63))) (pos (2 ^ 63 - 1))

-- HEADER LINES

unfoldable pub class_line_of : List (List ℕ) → Result Line LineFault
class_line_of words = do
  four ← counted_words words 4
  name ← spelled_word words 1
  super ← spelled_word words 2
  f ← flags words 3
  Ok (line.Class name super f)

unfoldable pub interface_of : List (List ℕ) → Result Line LineFault
interface_of words = do
  two ← counted_words words 2
  name ← spelled_word words 1
  Ok (line.Interface name)

-- the words behind the four of a field or a method: none, or two
abbrev pub four_or_six : List (List ℕ) → Result (Unit {0}) LineFault
four_or_six words = needs ((length words == 4) || (length words == 6)) fault.Operands

-- the form of a constant that stands at a place: its kind, and a number or a text
abbrev pub constant_form : List (List ℕ) → ℕ → Result (Unit {0}) LineFault
constant_form words i =
    if same_word (word_at words i) (codes "int") || same_word (word_at words i) (codes "long") then numeral words (i + 1)
    else (if same_word (word_at words i) (codes "string") then needs (is_spelling (word_at words (i + 1))) fault.Operands else Err fault.Operands)

abbrev pub constant_entry : List (List ℕ) → ℕ → Result Entry LineFault
constant_entry words i =
    if same_word (word_at words i) (codes "int") then (int32 words (i + 1) >>= λ n. Ok (entry.Integer n))
    else (if same_word (word_at words i) (codes "long") then (int64 words (i + 1) >>= λ n. Ok (entry.Long n)) else Ok (entry.Text (word_at words (i + 1))))

abbrev pub field_form : List (List ℕ) → Result (Unit {0}) LineFault
field_form words = if length words == 4 then Ok tt else constant_form words 4

abbrev pub field_constant : List (List ℕ) → Result (Option Entry) LineFault
field_constant words = if length words == 4 then Ok None else (constant_entry words 4 >>= λ e. Ok (Some e))

unfoldable pub field_of : List (List ℕ) → Result Line LineFault
field_of words = do
  size ← four_or_six words
  name ← spelled_word words 1
  descriptor ← spelled_word words 2
  f ← flags words 3
  form ← field_form words
  constant ← field_constant words
  Ok (line.Field name descriptor f constant)

abbrev pub method_form : List (List ℕ) → Result (Unit {0}) LineFault
method_form words = if length words == 4 then Ok tt else (numeral words 4 >>= λ first. numeral words 5)

abbrev pub method_limits : List (List ℕ) → Result (Option (ℕ × ℕ)) LineFault
method_limits words = if length words == 4 then Ok None else (natural_word words 4 65535 >>= λ stack. natural_word words 5 65535 >>= λ locals. Ok (Some (stack, locals)))

unfoldable pub method_of : List (List ℕ) → Result Line LineFault
method_of words = do
  size ← four_or_six words
  name ← spelled_word words 1
  descriptor ← spelled_word words 2
  f ← flags words 3
  form ← method_form words
  limits ← method_limits words
  Ok (line.Method name descriptor f limits)

abbrev pub caught_class : List (List ℕ) → Result (Option (List ℕ)) LineFault
caught_class words = if same_word (word_at words 4) (codes "*") then Ok None else (spelled_word words 4 >>= λ name. Ok (Some name))

unfoldable pub catch_of : List (List ℕ) → Result Line LineFault
catch_of words = do
  five ← counted_words words 5
  from ← label words 1
  to ← label words 2
  handler ← label words 3
  class ← caught_class words
  Ok (line.Catch from to handler class)

-- INSTRUCTIONS

-- a number of so many bits, in two's complement
abbrev pub bipush_of : List (List ℕ) → ℕ → Result Instruction LineFault
bipush_of words opcode = do
  two ← counted_words words 2
  form ← numeral words 1
  n ← integer words 1 (neg_ℤ (pos 128)) (pos 127)
  Ok (instruction.Byte opcode (cast_unsigned w8 n))

abbrev pub sipush_of : List (List ℕ) → ℕ → Result Instruction LineFault
sipush_of words opcode = do
  two ← counted_words words 2
  form ← numeral words 1
  n ← integer words 1 (neg_ℤ (pos 32768)) (pos 32767)
  Ok (instruction.Short opcode (cast_unsigned w16 n))

-- ldc takes an int or a string
abbrev pub load_of : List (List ℕ) → Result Instruction LineFault
load_of words = do
  three ← counted_words words 3
  kind ← needs (not (same_word (word_at words 1) (codes "long"))) fault.Operands
  form ← constant_form words 1
  e ← constant_entry words 1
  Ok (instruction.Load e)

abbrev pub long_load_of : List (List ℕ) → ℕ → Result Instruction LineFault
long_load_of words opcode = do
  two ← counted_words words 2
  form ← numeral words 1
  n ← int64 words 1
  Ok (instruction.Pool opcode (entry.Long n))

abbrev pub local_word : List (List ℕ) → ℕ → Result Instruction LineFault
local_word words opcode = do
  two ← counted_words words 2
  form ← numeral words 1
  n ← natural_word words 1 65535
  Ok (instruction.Local opcode n)

abbrev pub increment_of : List (List ℕ) → Result Instruction LineFault
increment_of words = do
  three ← counted_words words 3
  local_form ← numeral words 1
  constant_is ← numeral words 2
  local ← natural_word words 1 65535
  constant ← integer words 2 (neg_ℤ (pos 32768)) (pos 32767)
  Ok (instruction.Increment local constant)

abbrev pub branch_of : List (List ℕ) → ℕ → Result Instruction LineFault
branch_of words opcode = do
  two ← counted_words words 2
  target ← label words 1
  Ok (instruction.Branch opcode target)

-- a class, a name and a descriptor from a place on
abbrev pub member : List (List ℕ) → ℕ → Result (List ℕ × List ℕ × List ℕ) LineFault
member words i = do
  class ← spelled_word words i
  name ← spelled_word words (i + 1)
  descriptor ← spelled_word words (i + 2)
  Ok (class, name, descriptor)

abbrev pub field_access_of : List (List ℕ) → ℕ → Result Instruction LineFault
field_access_of words opcode = do
  four ← counted_words words 4
  m ← member words 1
  Ok (instruction.Pool opcode (entry.Field m.0 m.1 m.2))

abbrev pub virtual_call_of : List (List ℕ) → ℕ → Result Instruction LineFault
virtual_call_of words opcode = do
  four ← counted_words words 4
  m ← member words 1
  Ok (instruction.Pool opcode (entry.Method m.0 m.1 m.2))

abbrev pub direct_interface_call_of : List (List ℕ) → ℕ → Result Instruction LineFault
direct_interface_call_of words opcode = member words 2 >>= λ m. Ok (instruction.Pool opcode (entry.InterfaceMethod m.0 m.1 m.2))

-- behind the word `interface` a method of an interface
abbrev pub direct_call_of : List (List ℕ) → ℕ → Result Instruction LineFault
direct_call_of words opcode =
    if (length words == 5) && same_word (word_at words 1) (codes "interface") then direct_interface_call_of words opcode else virtual_call_of words opcode

abbrev pub interface_call_of : List (List ℕ) → Result Instruction LineFault
interface_call_of words = do
  four ← counted_words words 4
  m ← member words 1
  Ok (instruction.Interface m.0 m.1 m.2)

abbrev pub type_of : List (List ℕ) → ℕ → Result Instruction LineFault
type_of words opcode = do
  two ← counted_words words 2
  class ← spelled_word words 1
  Ok (instruction.Pool opcode (entry.Class class))

-- the kind of an array of a base type (JVMS 6.5, newarray)
abbrev pub base_type : List ℕ → Option ℕ
base_type word =
    if same_word word (codes "boolean") then Some 4 else (if same_word word (codes "char") then Some 5
    else (if same_word word (codes "float") then Some 6 else (if same_word word (codes "double") then Some 7
    else (if same_word word (codes "byte") then Some 8 else (if same_word word (codes "short") then Some 9
    else (if same_word word (codes "int") then Some 10 else (if same_word word (codes "long") then Some 11 else None)))))))

abbrev pub based : Option ℕ → ℕ → Result Instruction LineFault
based None opcode = Err fault.Operands
based (Some kind) opcode = Ok (instruction.Byte opcode kind)

abbrev pub base_array_of : List (List ℕ) → ℕ → Result Instruction LineFault
base_array_of words opcode = counted_words words 2 >>= λ two. based (base_type (word_at words 1)) opcode

abbrev pub array_of : List (List ℕ) → Result Instruction LineFault
array_of words = do
  three ← counted_words words 3
  class ← spelled_word words 1
  form ← numeral words 2
  n ← natural_word words 2 255
  Ok (instruction.Array class n)

-- the label behind `default`
abbrev pub default_label : List (List ℕ) → List ℕ
default_label words = word_at words (length words - 1)

-- at least one more operand, and `default` and a label at the end
abbrev pub ends_default : List (List ℕ) → Bool
ends_default words = nat_le 5 (length words) && same_word (word_at words (length words - 2)) (codes "default") && is_label (default_label words)

-- the labels of a tableswitch stand behind the mnemonic and the least number, up to `default` and its label
abbrev pub table_labels : List (List ℕ) → List (List ℕ)
table_labels words = take (length words - 4) (drop 2 words)

-- the number of the last label fits 32 bits
abbrev pub table_fits : List (List ℕ) → ℤ → Result Instruction LineFault
table_fits words low = if int_le (low +ℤ pos (length words - 5)) (pos (2 ^ 31 - 1)) then Ok (instruction.Table low (table_labels words) (default_label words)) else Err fault.Number

abbrev pub table_of : List (List ℕ) → Result Instruction LineFault
table_of words = do
  end ← needs (ends_default words) fault.Operands
  labels ← needs (list_all is_label (table_labels words)) fault.Operands
  form ← numeral words 1
  low ← int32 words 1
  table_fits words low

-- the operands of a lookupswitch stand behind the mnemonic, up to `default` and its label
abbrev pub lookup_words : List (List ℕ) → List (List ℕ)
lookup_words words = take (length words - 3) (drop 1 words)

-- words two by two
abbrev pub pairs : List (List ℕ) → List (List ℕ × List ℕ)
pairs (first ∷ second ∷ more) = (first, second) ∷ pairs more
pairs other = []

abbrev pub is_word_pair : List ℕ × List ℕ → Bool
is_word_pair p = is_numeral p.0 && is_label p.1

abbrev pub lookup_of : List (List ℕ) → Result Instruction LineFault
lookup_of words = do
  end ← needs (ends_default words && (length words % 2 == 1)) fault.Operands
  forms ← needs (list_all is_word_pair (pairs (lookup_words words))) fault.Operands
  keys ← needs (list_all (λ p. is_int32 p.0) (pairs (lookup_words words))) fault.Number
  Ok (instruction.Lookup (lookup_words words) (default_label words))

abbrev pub shaped : List (List ℕ) → ℕ → Shape → Result Instruction LineFault
shaped words opcode shape.Plain = counted_words words 1 >>= λ one. Ok (instruction.Plain opcode)
shaped words opcode shape.Byte = bipush_of words opcode
shaped words opcode shape.Short = sipush_of words opcode
shaped words opcode shape.Load = load_of words
shaped words opcode shape.LongLoad = long_load_of words opcode
shaped words opcode shape.Local = local_word words opcode
shaped words opcode shape.Increment = increment_of words
shaped words opcode shape.Branch = branch_of words opcode
shaped words opcode shape.Field = field_access_of words opcode
shaped words opcode shape.Virtual = virtual_call_of words opcode
shaped words opcode shape.Direct = direct_call_of words opcode
shaped words opcode shape.Interface = interface_call_of words
shaped words opcode shape.Type = type_of words opcode
shaped words opcode shape.BaseArray = base_array_of words opcode
shaped words opcode shape.Array = array_of words
shaped words opcode shape.Table = table_of words
shaped words opcode shape.Lookup = lookup_of words
shaped words opcode shape.Refused = Err fault.Word

-- the first word is the mnemonic of an opcode, or none
abbrev pub with_mnemonic : List (List ℕ) → Option ℕ → Result Line LineFault
with_mnemonic words None = Err fault.Word
with_mnemonic words (Some opcode) = shaped words opcode (mnemonic_shape opcode) >>= λ i. Ok (line.Instruction i)

-- LINES

unfoldable pub said : List (List ℕ) → Result Line LineFault
said words =
    if same_word (word_at words 0) (codes "class") then class_line_of words
    else (if same_word (word_at words 0) (codes "interface") then interface_of words
    else (if same_word (word_at words 0) (codes "field") then field_of words
    else (if same_word (word_at words 0) (codes "method") then method_of words
    else (if same_word (word_at words 0) (codes "catch") then catch_of words
    else with_mnemonic words (position (λ name. same_word (word_at words 0) name) mnemonics)))))

abbrev pub parsed : Line → Option LineFault → Parsed
parsed l f = record { line = l; fault = f }

-- a line that should have one word
abbrev pub alone : List (List ℕ) → Line → Parsed
alone words l = parsed l (if length words == 1 then None else Some fault.Operands)

abbrev pub parsed_line : Result Line LineFault → Parsed
parsed_line (Ok l) = parsed l None
parsed_line (Err f) = parsed line.Blank (Some f)

-- a line without words, or whose first word begins with `#`, says nothing
abbrev pub is_silent : List (List ℕ) → Bool
is_silent words = (length words == 0) || (slice_index (word_at words 0) 0 == 35)

unfoldable pub parsed_of : List (List ℕ) → Parsed
parsed_of words =
    if is_silent words then parsed line.Blank None
    else (if same_word (word_at words 0) (codes "end") then alone words line.End
    else (if is_label_line (word_at words 0) then alone words (line.Label (take (length (word_at words 0) - 1) (word_at words 0)))
    else parsed_line (said words)))
