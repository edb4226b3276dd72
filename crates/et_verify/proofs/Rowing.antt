-- The rows, and both parts of the types after an instruction.
use Rattle.std.proofs.Common.{◌≡◌, ℕ, ◌<◌, ◌≤◌, ◌⊎◌, inl, inr, Bool, true, false, leb, List, length, Option, Some, None, refl, sym, ◌∙◌, ap, arith}
use Rattle.std.specs.Prelude.{if◌then◌else◌, option_map}
use Rattle.std.proofs.lemmas.Bool.{le-leb, leb-true}
use Rattle.et_class.specs.Operands.{may_return}
use Rattle.et_class.specs.PoolOperands.Operand.{Operand}
use Rattle.et_pool.specs.declared.operand.Returned.{Returned}
use Rattle.et_pool.specs.Operands.{return_of, is_returnable}
use Rattle.et_pool.proofs.Returns.{kind_returned}
use Rattle.et_event.specs.declared.rows.Rearrangement.{Rearrangement}
use Rattle.et_event.specs.declared.rows.FrameRow.{FrameRow}
use Rattle.et_event.specs.declared.rows.FrameRow.TheVariants as row
use Rattle.et_event.specs.declared.rows.Row.{Row}
use Rattle.et_event.specs.declared.rows.Row.TheVariants as rows
use Rattle.et_event.specs.Sites.{Site}
use Rattle.et_flow.specs.declared.types.EntryType.{EntryType}
use Rattle.et_flow.specs.Types.{TypesOf}
use Rattle.et_verify.specs.Effects.{frame_effect, return_effect, kinds_returned, taking}
use Rattle.et_verify.specs.Steps.{below_taken, with_given, moved_by, moved_where, operands_after, locals_after, fitted, types_after}
use Rattle.et_verify.specs.Calling.{returned_taken}

-- a plain row that rearranges nothing
pub plain_operands : (returned : List ℕ) (at : Site) (r : FrameRow) (ops : List EntryType) → ((x : Rearrangement) → r ≡ row.Rearrange x → ⊥) → operands_after returned at (rows.Frame r) ops ≡ moved_by (frame_effect r) ops
plain_operands returned at row.Null ops h = refl
plain_operands returned at (row.Int n) ops h = refl
plain_operands returned at (row.Long n) ops h = refl
plain_operands returned at row.Immediate ops h = refl
plain_operands returned at (row.Load kind local) ops h = refl
plain_operands returned at (row.Store kind local) ops h = refl
plain_operands returned at row.Increment ops h = refl
plain_operands returned at (row.Rearrange x) ops h = absurd (h x refl)
plain_operands returned at (row.Arithmetic n o) ops h = refl
plain_operands returned at (row.Negate n) ops h = refl
plain_operands returned at (row.Shift n s) ops h = refl
plain_operands returned at (row.Convert c) ops h = refl
plain_operands returned at row.CompareLongs ops h = refl
plain_operands returned at (row.Branch c) ops h = refl
plain_operands returned at row.Switch ops h = refl

nothing_given : (o : Option (List EntryType)) → option_map (with_given None) o ≡ o
nothing_given None = refl
nothing_given (Some left) = refl

pub return_moved : (kind : Option Operand) (returned : Returned) (bytes : List ℕ) (ops : List EntryType) → return_of bytes ≡ returned → moved_where (return_effect kind bytes) ops ≡ returned_taken kind returned ops
return_moved kind returned bytes ops e =
    by (may_return kind bytes) ∙ ap (λ (b : Bool). if b then below_taken (kinds_returned kind) ops else None) (sym (kind_returned kind bytes) ∙ ap (is_returnable kind) e)
  where
    by : (b : Bool) → moved_where (if b then Some (taking (kinds_returned kind)) else None) ops ≡ (if b then below_taken (kinds_returned kind) ops else None)
    by true = nothing_given (below_taken (kinds_returned kind) ops)
    by false = refl

-- BOTH PARTS

pub both_fit : (room : ℕ) (bytes : List ℕ) (at : Site) (r : Row) (ts us : TypesOf) → operands_after bytes at r ts.operands ≡ Some us.operands → locals_after at r ts.locals ≡ Some us.locals → length us.operands ≤ room → types_after room bytes at r ts ≡ Some us
both_fit room bytes at r ts us e f le =
    ap (λ (a : Option (List EntryType)). fitted room a (locals_after at r ts.locals)) e
    ∙ (ap (λ (b : Option (List EntryType)). fitted room (Some us.operands) b) f
    ∙ ap (λ (b : Bool). if b then Some us else None) (le-leb (length us.operands) room le))

pub one_missing : (room : ℕ) (bytes : List ℕ) (at : Site) (r : Row) (ts : TypesOf) → (operands_after bytes at r ts.operands ≡ None) ⊎ (locals_after at r ts.locals ≡ None) → types_after room bytes at r ts ≡ None
one_missing room bytes at r ts (inl e) = ap (λ (a : Option (List EntryType)). fitted room a (locals_after at r ts.locals)) e
one_missing room bytes at r ts (inr e) = ap (λ (b : Option (List EntryType)). fitted room (operands_after bytes at r ts.operands) b) e ∙ by (operands_after bytes at r ts.operands)
  where
    by : (a : Option (List EntryType)) → fitted room a None ≡ None
    by None = refl
    by (Some ops) = refl

pub too_many : (room : ℕ) (bytes : List ℕ) (at : Site) (r : Row) (ts us : TypesOf) → operands_after bytes at r ts.operands ≡ Some us.operands → locals_after at r ts.locals ≡ Some us.locals → room < length us.operands → types_after room bytes at r ts ≡ None
too_many room bytes at r ts us e f lt =
    ap (λ (a : Option (List EntryType)). fitted room a (locals_after at r ts.locals)) e
    ∙ (ap (λ (b : Option (List EntryType)). fitted room (Some us.operands) b) f
    ∙ by (leb (length us.operands) room) refl)
  where
    by : (b : Bool) → leb (length us.operands) room ≡ b → (if b then Some us else None) ≡ None
    by false q = refl
    by true q = absurd (omega (arith, leb-true (length us.operands) room q, lt))
