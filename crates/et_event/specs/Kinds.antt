-- Types and the operands, fields and elements that have them (JVMS 2.2 to 2.4, 2.11.1, 4.3.2).
use Rattle.std.specs.Prelude.{ℕ, ℤ, pos, ◌==◌, ◌||◌, ◌&&◌, Bool, true, false, int_le, int_lt, if◌then◌else◌, List, [], ◌∷◌, Option, Some, None}
use Rattle.et_base.specs.declared.value.Value.{Value}
use Rattle.et_base.specs.declared.value.Value.TheVariants.{Unset, Int, Long, LongHigh, Null, Ref}
use Rattle.et_base.specs.Integers.{to_byte, to_char, to_short}
use Rattle.et_class.specs.Descriptors.{is_field_descriptor}
use Rattle.et_class.specs.Operands.{operand_kind}
use Rattle.et_program.specs.declared.info.Element.{Element}
use Rattle.et_program.specs.declared.info.Element.TheVariants.{NoArray, Base, Class}
use Rattle.et_class.specs.PoolOperands.Operand.{Operand}
use Rattle.et_class.specs.PoolOperands.Operand.TheVariants as operand
use Rattle.et_event.specs.declared.rows.Elements.{Elements}
use Rattle.et_event.specs.declared.rows.Elements.TheVariants as elements

-- no operand is of what isn't a type
abbrev pub kind_of_field : List ℕ → Option Operand
kind_of_field descriptor = if is_field_descriptor descriptor then operand_kind descriptor else None

-- 0 or null (JVMS 2.3, 2.4): what a field or element holds to which nothing was written
abbrev pub zero_of : Option Operand → Value
zero_of (Some operand.Int) = Int (pos 0)
zero_of (Some operand.Long) = Long (pos 0)
zero_of (Some operand.Reference) = Null
zero_of None = Null

abbrev pub or_zero : Option Operand → Value → Value
or_zero kind Unset = zero_of kind
or_zero kind (Int n) = Int n
or_zero kind (Long n) = Long n
or_zero kind LongHigh = LongHigh
or_zero kind Null = Null
or_zero kind (Ref o) = Ref o

-- what a field keeps of a value (JVMS 2.3.1, and 6.5 putfield): of an int 8 bits for B and Z, 16 for S, and 16 without a
-- sign for C
abbrev pub narrowed_letter : ℕ → ℤ → ℤ
narrowed_letter a n =
    if (a == 66) || (a == 90) then to_byte n
    else (if a == 83 then to_short n
    else (if a == 67 then to_char n else n))

abbrev pub narrowed_int : List ℕ → ℤ → ℤ
narrowed_int [] n = n
narrowed_int (a ∷ rest) n = narrowed_letter a n

abbrev pub narrowed : List ℕ → Value → Value
narrowed descriptor (Int n) = Int (narrowed_int descriptor n)
narrowed descriptor other = other

-- ARRAYS

-- the operands that are elements of an array
abbrev pub kind_of_elements : Elements → Operand
kind_of_elements elements.Int = operand.Int
kind_of_elements elements.Long = operand.Long
kind_of_elements elements.Reference = operand.Reference
kind_of_elements elements.Byte = operand.Int
kind_of_elements elements.Char = operand.Int
kind_of_elements elements.Short = operand.Int

-- an array is of that kind, by the code of its base type in newarray (JVMS 6.5): 4 boolean, 5 char, 8 byte, 9 short,
-- 10 int, 11 long
abbrev pub are_elements : Elements → Element → Bool
are_elements elements.Int (Base kind) = kind == 10
are_elements elements.Long (Base kind) = kind == 11
are_elements elements.Reference (Class class) = true
are_elements elements.Byte (Base kind) = (kind == 4) || (kind == 8)
are_elements elements.Char (Base kind) = kind == 5
are_elements elements.Short (Base kind) = kind == 9
are_elements other element = false

abbrev pub is_array_element : Element → Bool
is_array_element NoArray = false
is_array_element (Base kind) = true
is_array_element (Class class) = true

-- what an element keeps of a value
abbrev pub kept_element : Elements → Value → Value
kept_element elements.Byte (Int n) = Int (to_byte n)
kept_element elements.Char (Int n) = Int (to_char n)
kept_element elements.Short (Int n) = Int (to_short n)
kept_element other v = v

abbrev pub in_bounds : ℤ → ℕ → Bool
in_bounds i elements = int_le (pos 0) i && int_lt i (pos elements)
