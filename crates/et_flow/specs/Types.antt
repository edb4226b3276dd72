-- TYPES OF THE ENTRIES OF A FRAME (JVMS 4.10.1.2, of which the classes of references, and whether an object's constructor was
-- called, are left out).
use Rattle.std.specs.Prelude.{◌≡◌, ℕ, ◌<◌, ◌⊎◌, Bool, true, false, List, [], ◌∷◌, length, slice_index_or}
use Rattle.et_base.specs.declared.value.Value.{Value}
use Rattle.et_base.specs.declared.value.Value.TheVariants as value
use Rattle.et_pool.specs.declared.operand.Operand.{Operand}
use Rattle.et_pool.specs.declared.operand.Operand.TheVariants as operand
use Rattle.et_flow.specs.declared.types.EntryType.{EntryType}
use Rattle.et_flow.specs.declared.types.EntryType.TheVariants.{Free, Int, Long, LongHigh, Reference}

-- every type is below itself and below Free
abbrev pub IsBelow : EntryType → EntryType → Type 0
IsBelow a b = (a ≡ b) ⊎ (b ≡ Free)

-- the least type that is above both
abbrev pub joined : EntryType → EntryType → EntryType
joined Int Int = Int
joined Long Long = Long
joined LongHigh LongHigh = LongHigh
joined Reference Reference = Reference
joined a b = Free

abbrev pub joined_lists : List EntryType → List EntryType → List EntryType
joined_lists (a ∷ xs) (b ∷ ys) = joined a b ∷ joined_lists xs ys
joined_lists xs ys = xs

-- as many types, each below the one at its place
pub record AreBelow (xs ys : List EntryType) : Type 0 where
  pub long : length xs ≡ length ys
  pub each : (i : ℕ) → i < length xs → IsBelow (slice_index_or xs i Free) (slice_index_or ys i Free)

-- the types of the entries of a frame: the topmost operand is the first
pub record TypesOf : Type 0 where
  pub operands : List EntryType
  pub locals : List EntryType

-- Operands of the same types, and local variables of types below. No operand is of type Free, so no other type is above that of
-- an operand.
pub record AreTypesBelow (ts us : TypesOf) : Type 0 where
  pub operands : ts.operands ≡ us.operands
  pub locals : AreBelow ts.locals us.locals

-- how often a type may still be joined with another one and change
abbrev pub rank : EntryType → ℕ
rank Free = 0
rank Int = 1
rank Long = 1
rank LongHigh = 1
rank Reference = 1

-- THE TYPE OF AN ENTRY: null and every object are of type Reference, the numbers are of the type of their kind, and of what was
-- never written nothing is known
abbrev pub type_of : Value → EntryType
type_of value.Unset = Free
type_of (value.Int n) = Int
type_of (value.Long n) = Long
type_of value.LongHigh = LongHigh
type_of value.Null = Reference
type_of (value.Ref o) = Reference

-- the entries of an operand of a kind, the upper one first, and those of local variables, in their order
abbrev pub operand_entries : Operand → List EntryType
operand_entries operand.Int = Int ∷ []
operand_entries operand.Long = LongHigh ∷ Long ∷ []
operand_entries operand.Reference = Reference ∷ []

abbrev pub local_entries : Operand → List EntryType
local_entries operand.Int = Int ∷ []
local_entries operand.Long = Long ∷ LongHigh ∷ []
local_entries operand.Reference = Reference ∷ []

-- an entry that is a value by itself
abbrev pub is_single : EntryType → Bool
is_single Free = false
is_single Int = true
is_single Long = false
is_single LongHigh = false
is_single Reference = true

-- the types with which a handler is entered: the exception, and the local variables as they were
abbrev pub caught : TypesOf → TypesOf
caught ts = record { operands = Reference ∷ []; locals = ts.locals }
