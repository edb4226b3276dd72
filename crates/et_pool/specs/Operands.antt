-- The operands of types (JVMS 2.11.1), and what a call reads off a method descriptor.
use Rattle.std.specs.Prelude.{ℕ, ◌==◌, ◌||◌, Bool, true, false, if◌then◌else◌, List, [], ◌∷◌, map, sum_by, Option, Some, None, option_map}
use Rattle.et_pool.specs.declared.operand.Operand.{Operand}
use Rattle.et_pool.specs.declared.operand.Operand.TheVariants as operand
use Rattle.et_pool.specs.declared.operand.Returned.{Returned}
use Rattle.et_pool.specs.declared.operand.Returned.TheVariants.{Void, Value}
use Rattle.et_pool.specs.Descriptors.{MethodType, method_type, is_void, width_of}

-- the operands of a type, by its first letter: B, C, I, S and Z; J; L and arrays. No operand is of type D or F
abbrev pub kind_of_letter : ℕ → Option Operand
kind_of_letter a =
    if (a == 66) || (a == 67) || (a == 73) || (a == 83) || (a == 90) then Some operand.Int
    else (if a == 74 then Some operand.Long
    else (if (a == 76) || (a == 91) then Some operand.Reference else None))

abbrev pub operand_kind : List ℕ → Option Operand
operand_kind [] = None
operand_kind (a ∷ rest) = kind_of_letter a

-- an instruction that returns this kind, or nothing, may return that type (JVMS 6.5)
abbrev pub is_kind : Operand → Option Operand → Bool
is_kind operand.Int (Some operand.Int) = true
is_kind operand.Long (Some operand.Long) = true
is_kind operand.Reference (Some operand.Reference) = true
is_kind kind other = false

abbrev pub may_return : Option Operand → List ℕ → Bool
may_return None returned = is_void returned
may_return (Some kind) returned = is_kind kind (operand_kind returned)

-- how many entries what is returned takes
abbrev pub returned_width : List ℕ → ℕ
returned_width returned = if is_void returned then 0 else width_of returned

-- what a method returns, by the end of its descriptor
abbrev pub return_of : List ℕ → Returned
return_of s = if is_void s then Void else Value (operand_kind s) (width_of s)

abbrev pub entries_returned : Returned → ℕ
entries_returned Void = 0
entries_returned (Value kind entries) = entries

-- an instruction that returns this kind, or nothing, may return that
abbrev pub is_returnable : Option Operand → Returned → Bool
is_returnable None Void = true
is_returnable (Some kind) (Value other entries) = is_kind kind other
is_returnable kind returned = false

-- what a call reads off a method descriptor
pub record Shape : Type 0 where
  -- the operands of each parameter, in order
  pub kinds : List (Option Operand)
  -- how many entries the parameters take
  pub entries : ℕ
  pub returned : Returned

abbrev pub shape_of : MethodType → Shape
shape_of type = record {
  kinds = map operand_kind type.parameters;
  entries = sum_by width_of type.parameters;
  returned = return_of type.returned;
}

-- .. none where the bytes are no descriptor
abbrev pub shape_in : List ℕ → Option Shape
shape_in descriptor = option_map shape_of (method_type descriptor)

-- the operands of types, how many entries they take, and what stands behind them
abbrev pub parameter_shapes : List (List ℕ) × List ℕ → List (Option Operand) × ℕ × List ℕ
parameter_shapes x = (map operand_kind x.0, sum_by width_of x.0, x.1)
