-- WHAT EACH INSTRUCTION TAKES AND GIVES (JVMS 6.5): the kinds of the operands that it takes, the topmost first, and the kind of
-- the one that it gives. This is check 1 of the table of events, row by row, but for local variables and rearrangements.
use Rattle.std.specs.Prelude.{◌≡◌, ℕ, ◌==◌, ◌<◌, ◌^◌, Bool, true, false, if◌then◌else◌, List, [], ◌∷◌, length, map, reverse, replicate, Option, Some, None, option_map, option_and_then, unwrap_or}
use Rattle.et_class.specs.Descriptors.{MethodType, method_type, is_void, is_field_descriptor, width_of}
use Rattle.et_class.specs.Operands.{operand_kind, may_return}
use Rattle.et_class.specs.PoolOperands.Operand.{Operand}
use Rattle.et_class.specs.PoolOperands.Operand.TheVariants as operand
use Rattle.et_pool.specs.declared.operand.Returned.{Returned}
use Rattle.et_pool.specs.declared.operand.Returned.TheVariants.{Void, Value}
use Rattle.et_event.specs.declared.rows.Number.{Number}
use Rattle.et_event.specs.declared.rows.Number.TheVariants as number
use Rattle.et_event.specs.declared.rows.Conversion.{Conversion}
use Rattle.et_event.specs.declared.rows.Conversion.TheVariants.{IntToLong, LongToInt, IntToByte, IntToChar, IntToShort}
use Rattle.et_event.specs.declared.rows.Condition.{Condition}
use Rattle.et_event.specs.declared.rows.Condition.TheVariants as when
use Rattle.et_event.specs.declared.rows.FrameRow.{FrameRow}
use Rattle.et_event.specs.declared.rows.FrameRow.TheVariants as row
use Rattle.et_event.specs.declared.rows.HeapRow.{HeapRow}
use Rattle.et_event.specs.declared.rows.HeapRow.TheVariants as heap
use Rattle.et_event.specs.declared.rows.CallRow.TheVariants as call
use Rattle.et_event.specs.declared.rows.Row.{Row}
use Rattle.et_event.specs.declared.rows.Row.TheVariants as rows
use Rattle.et_event.specs.Calls.{is_static_call}
use Rattle.et_event.specs.Kinds.{kind_of_elements}
use Rattle.et_event.specs.Sites.{Site, Member, LoadedConstant, AnInt, ALong, AString, constant_at, pool_index, site_member, class_operand, natural_of, pool_of_class}
use Rattle.et_event.specs.Places.{is_frame}
use Rattle.et_program.specs.Entries.{Linked}

pub record Effect : Type 0 where
  pub taken : List Operand
  pub given : Option Operand

abbrev pub taking : List Operand → Effect
taking kinds = record { taken = kinds; given = None }

abbrev pub giving : List Operand → Operand → Effect
giving kinds kind = record { taken = kinds; given = Some kind }

-- PLAIN INSTRUCTIONS

abbrev pub kind_of_number : Number → Operand
kind_of_number number.Int = operand.Int
kind_of_number number.Long = operand.Long

abbrev pub kinds_tested : Condition → List Operand
kinds_tested when.Always = []
kinds_tested (when.WithZero c) = operand.Int ∷ []
kinds_tested (when.OfInts c) = operand.Int ∷ operand.Int ∷ []
kinds_tested when.SameReference = operand.Reference ∷ operand.Reference ∷ []
kinds_tested when.OtherReference = operand.Reference ∷ operand.Reference ∷ []
kinds_tested when.Null = operand.Reference ∷ []
kinds_tested when.NotNull = operand.Reference ∷ []

abbrev pub converting : Conversion → Effect
converting IntToLong = giving (operand.Int ∷ []) operand.Long
converting LongToInt = giving (operand.Long ∷ []) operand.Int
converting IntToByte = giving (operand.Int ∷ []) operand.Int
converting IntToChar = giving (operand.Int ∷ []) operand.Int
converting IntToShort = giving (operand.Int ∷ []) operand.Int

-- a rearrangement is by entries, and takes and gives no operands of a kind
abbrev pub frame_effect : FrameRow → Effect
frame_effect row.Null = giving [] operand.Reference
frame_effect (row.Int n) = giving [] operand.Int
frame_effect (row.Long n) = giving [] operand.Long
frame_effect row.Immediate = giving [] operand.Int
frame_effect (row.Load kind local) = giving [] kind
frame_effect (row.Store kind local) = taking (kind ∷ [])
frame_effect row.Increment = taking []
frame_effect (row.Rearrange r) = taking []
frame_effect (row.Arithmetic n o) = giving (kind_of_number n ∷ kind_of_number n ∷ []) (kind_of_number n)
frame_effect (row.Negate n) = giving (kind_of_number n ∷ []) (kind_of_number n)
frame_effect (row.Shift n s) = giving (operand.Int ∷ kind_of_number n ∷ []) (kind_of_number n)
frame_effect (row.Convert c) = converting c
frame_effect row.CompareLongs = giving (operand.Long ∷ operand.Long ∷ []) operand.Int
frame_effect (row.Branch c) = taking (kinds_tested c)
frame_effect row.Switch = taking (operand.Int ∷ [])

abbrev pub kind_of_constant : LoadedConstant → Operand
kind_of_constant (AnInt n) = operand.Int
kind_of_constant (ALong n) = operand.Long
kind_of_constant (AString bytes) = operand.Reference

abbrev pub constant_effect : Site → Option Effect
constant_effect at = option_map (λ kind. giving [] kind) (option_map kind_of_constant (constant_at at.pool (pool_index at)))

-- FIELDS, ARRAYS AND CLASSES

-- What is read of a type, or returned. No member of a program is of type F or D, so nothing is ever read of these: F counts as
-- an int, and D as a long
abbrev pub result_kind : List ℕ → Operand
result_kind descriptor = unwrap_or (operand_kind descriptor) (if width_of descriptor == 2 then operand.Long else operand.Int)

-- an instruction names an entry, at an index of 16 bits, of the pool of a class of the program
pub record NamesWithin (p : Linked) (at : Site) : Type 0 where
  pub index : natural_of at.instr.first < 2 ^ 16
  pub class : at.class < length p.classes
  pub pool : at.pool ≡ pool_of_class p at.class

-- .. where it has this row, unless it changes the frame alone
pub record MayName (p : Linked) (does : Row) (at : Site) : Type 0 where
  pub index : is_frame does ≡ false → natural_of at.instr.first < 2 ^ 16
  pub class : at.class < length p.classes
  pub pool : at.pool ≡ pool_of_class p at.class

-- the type of the field that an instruction names
abbrev pub described_by : Option Member → Option (List ℕ)
described_by None = None
described_by (Some m) = if is_field_descriptor m.descriptor then Some m.descriptor else None

abbrev pub field_type : Site → Option (List ℕ)
field_type at = described_by (site_member at)

-- what is read of a field, where operands of these kinds are taken
abbrev pub field_read : Site → List Operand → Option Effect
field_read at kinds = option_map (λ type. giving kinds (result_kind type)) (field_type at)

-- what is written to a field, and the object below it, unless the field is static
abbrev pub kind_written : Site → Option Operand
kind_written at = option_and_then operand_kind (field_type at)

abbrev pub object_below : Bool → List Operand
object_below true = []
object_below false = operand.Reference ∷ []

abbrev pub field_written : Site → Bool → Option Effect
field_written at static = option_map (λ kind. taking (kind ∷ object_below static)) (kind_written at)

-- .. where the instruction names a class
abbrev pub naming_class : Site → Effect → Option Effect
naming_class at effect = option_map (λ name. effect) (class_operand at)

abbrev pub heap_effect : Site → HeapRow → Option Effect
heap_effect at heap.GetStatic = field_read at []
heap_effect at heap.PutStatic = field_written at true
heap_effect at heap.GetField = field_read at (operand.Reference ∷ [])
heap_effect at heap.PutField = field_written at false
heap_effect at (heap.LoadElement kind) = Some (giving (operand.Int ∷ operand.Reference ∷ []) (kind_of_elements kind))
heap_effect at (heap.StoreElement kind) = Some (taking (kind_of_elements kind ∷ operand.Int ∷ operand.Reference ∷ []))
heap_effect at heap.New = naming_class at (giving [] operand.Reference)
heap_effect at heap.NewArray = Some (giving (operand.Int ∷ []) operand.Reference)
heap_effect at heap.NewReferenceArray = naming_class at (giving (operand.Int ∷ []) operand.Reference)
heap_effect at heap.NewMultiArray = naming_class at (giving (replicate (natural_of at.instr.second) operand.Int) operand.Reference)
heap_effect at heap.ArrayLength = Some (giving (operand.Reference ∷ []) operand.Int)
heap_effect at heap.CheckCast = naming_class at (giving (operand.Reference ∷ []) operand.Reference)
heap_effect at heap.InstanceOf = naming_class at (giving (operand.Reference ∷ []) operand.Int)

-- CALLS AND RETURNS

-- the kinds of all, where each has one
abbrev pub all_kinds : List (Option Operand) → Option (List Operand)
all_kinds [] = Some []
all_kinds (None ∷ kinds) = None
all_kinds (Some kind ∷ kinds) = option_map (λ more. kind ∷ more) (all_kinds kinds)

abbrev pub returned_kind : List ℕ → Option Operand
returned_kind returned = if is_void returned then None else Some (result_kind returned)

-- .. by what a call reads off the descriptor of its method
abbrev pub given_by : Returned → Option Operand
given_by Void = None
given_by (Value (Some kind) entries) = Some kind
given_by (Value None entries) = Some (if entries == 2 then operand.Long else operand.Int)

-- in the order of the parameters, behind the receiver
abbrev pub arguments_with : Bool → List Operand → List Operand
arguments_with true kinds = kinds
arguments_with false kinds = operand.Reference ∷ kinds

abbrev pub type_effect : Bool → MethodType → Option Effect
type_effect static type =
    option_map (λ kinds. record { taken = reverse (arguments_with static kinds); given = returned_kind type.returned }) (all_kinds (map operand_kind type.parameters))

abbrev pub call_effect : Site → Bool → Option Effect
call_effect at static = option_and_then (λ (m : Member). option_and_then (type_effect static) (method_type m.descriptor)) (site_member at)

abbrev pub kinds_returned : Option Operand → List Operand
kinds_returned None = []
kinds_returned (Some kind) = kind ∷ []

abbrev pub return_effect : Option Operand → List ℕ → Option Effect
return_effect kind returned = if may_return kind returned then Some (taking (kinds_returned kind)) else None

-- THE ROWS, of a method that returns this type
abbrev pub effect : List ℕ → Site → Row → Option Effect
effect returned at (rows.Frame r) = Some (frame_effect r)
effect returned at rows.PoolConstant = constant_effect at
effect returned at (rows.Divide n o) = Some (giving (kind_of_number n ∷ kind_of_number n ∷ []) (kind_of_number n))
effect returned at (rows.Heap r) = heap_effect at r
effect returned at (rows.Call (call.Invoke kind)) = call_effect at (is_static_call kind)
effect returned at (rows.Call (call.Return kind)) = return_effect kind returned
effect returned at rows.Throw = Some (taking (operand.Reference ∷ []))
effect returned at (rows.Monitor r) = Some (taking (operand.Reference ∷ []))
