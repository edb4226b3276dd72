-- THE TYPES AFTER AN INSTRUCTION, from those before it.
use Rattle.std.specs.Prelude.{◌≡◌, ℕ, ◌==◌, ◌&&◌, nat_le, Bool, true, false, if◌then◌else◌, List, [], ◌∷◌, ◌++◌, length, map, drop, slice_index_or, sum, Option, Some, None, option_map, option_and_then}
use Rattle.et_class.specs.PoolOperands.Operand.{Operand}
use Rattle.et_class.specs.PoolOperands.Operand.TheVariants as operand
use Rattle.et_event.specs.declared.rows.Local.TheVariants.{Named}
use Rattle.et_event.specs.declared.rows.Rearrangement.{Rearrangement}
use Rattle.et_event.specs.declared.rows.FrameRow.{FrameRow}
use Rattle.et_event.specs.declared.rows.FrameRow.TheVariants as row
use Rattle.et_event.specs.declared.rows.Row.{Row}
use Rattle.et_event.specs.declared.rows.Row.TheVariants as rows
use Rattle.et_event.specs.Plain.{groups_of, operand_places}
use Rattle.et_event.specs.Sites.{Site, local_index}
use Rattle.et_flow.specs.declared.types.EntryType.{EntryType}
use Rattle.et_flow.specs.declared.types.EntryType.TheVariants.{Free, Int, Long, LongHigh, Reference}
use Rattle.et_flow.specs.Types.{TypesOf, operand_entries, is_single}
use Rattle.et_flow.specs.Stores.{holds, set_to}
use Rattle.et_verify.specs.Effects.{Effect, effect}

-- OPERANDS

-- the types after a step that changes the operands alone, if it is accepted, by those that it leaves: None where it is refused
pub record IsMove (left : List EntryType → Option (List EntryType)) (old new : TypesOf) (accepted : Bool) : Type 0 where
  pub done : accepted ≡ true → left old.operands ≡ Some new.operands
  pub refused : accepted ≡ false → left old.operands ≡ None
  pub locals : new.locals ≡ old.locals

-- what is below operands of these kinds, the topmost first
abbrev pub below_taken : List Operand → List EntryType → Option (List EntryType)
below_taken [] ops = Some ops
below_taken (operand.Int ∷ kinds) (Int ∷ ops) = below_taken kinds ops
below_taken (operand.Long ∷ kinds) (LongHigh ∷ Long ∷ ops) = below_taken kinds ops
below_taken (operand.Reference ∷ kinds) (Reference ∷ ops) = below_taken kinds ops
below_taken kinds ops = None

abbrev pub with_given : Option Operand → List EntryType → List EntryType
with_given None ops = ops
with_given (Some kind) ops = operand_entries kind ++ ops

-- pairs of entries that are a long or two values
abbrev pub is_pair : List EntryType → Bool
is_pair (LongHigh ∷ Long ∷ below) = true
is_pair (t ∷ u ∷ below) = is_single t && is_single u
is_pair other = false

abbrev pub is_one : List EntryType → Bool
is_one [] = false
is_one (t ∷ below) = is_single t

abbrev pub have_groups : List ℕ → List EntryType → Bool
have_groups [] ops = true
have_groups (size ∷ sizes) ops = (if size == 1 then is_one ops else is_pair ops) && have_groups sizes (drop size ops)

abbrev pub rearranged_types : Rearrangement → List EntryType → Option (List EntryType)
rearranged_types r ops =
    if have_groups (groups_of r) ops then Some (map (λ k. slice_index_or ops k Free) (operand_places r) ++ drop (sum (groups_of r)) ops) else None

abbrev pub moved_by : Effect → List EntryType → Option (List EntryType)
moved_by x ops = option_map (with_given x.given) (below_taken x.taken ops)

abbrev pub moved_where : Option Effect → List EntryType → Option (List EntryType)
moved_where x ops = option_and_then (λ y. moved_by y ops) x

abbrev pub operands_after : List ℕ → Site → Row → List EntryType → Option (List EntryType)
operands_after returned at (rows.Frame (row.Rearrange r)) ops = rearranged_types r ops
operands_after returned at other ops = moved_where (effect returned at other) ops

-- LOCAL VARIABLES, as an instruction reads and writes them

abbrev pub where_holds : Bool → List EntryType → Option (List EntryType)
where_holds true locals = Some locals
where_holds false locals = None

abbrev pub locals_by : Site → FrameRow → List EntryType → Option (List EntryType)
locals_by at (row.Load kind local) locals = where_holds (holds kind locals (local_index local at)) locals
locals_by at (row.Store kind local) locals = set_to kind locals (local_index local at)
locals_by at row.Increment locals = where_holds (holds operand.Int locals (local_index Named at)) locals
locals_by at other locals = Some locals

abbrev pub locals_after : Site → Row → List EntryType → Option (List EntryType)
locals_after at (rows.Frame r) locals = locals_by at r locals
locals_after at other locals = Some locals

-- BOTH, in a method with so much room for operands that returns this type: None where the instruction doesn't accept the types
abbrev pub fitted : ℕ → Option (List EntryType) → Option (List EntryType) → Option TypesOf
fitted room (Some operands) (Some locals) = if nat_le (length operands) room then Some (record { operands = operands; locals = locals }) else None
fitted room operands locals = None

abbrev pub types_after : ℕ → List ℕ → Site → Row → TypesOf → Option TypesOf
types_after room returned at r ts = fitted room (operands_after returned at r ts.operands) (locals_after at r ts.locals)
