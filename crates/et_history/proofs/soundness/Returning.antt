-- The returns (JVMS 2.6.4, 6.5 ireturn, lreturn, areturn, return): what is returned has at most the width of its type.
use Rattle.std.proofs.Common.{◌≡◌, ℕ, ◌≤◌, ◌==◌, ◌&&◌, Bool, true, false, List, [], ◌∷◌, length, Option, Some, None, refl, subst, arith}
use Rattle.std.specs.Prelude.{if◌then◌else◌}
use Rattle.std.proofs.lemmas.Bool.{eqb-true, false≢true}
use Rattle.std.proofs.lemmas.Bool.Decides.{nat_tests}
use Rattle.et_base.specs.declared.value.Value.{Value}
use Rattle.et_base.specs.declared.value.Value.TheVariants.{Unset, Int, Long, LongHigh, Null, Ref}
use Rattle.et_class.specs.Descriptors.{width_of}
use Rattle.et_event.specs.PoolOperands.Operand.{Operand}
use Rattle.et_event.specs.PoolOperands.Operand.TheVariants as operand
use Rattle.et_event.specs.declared.errors.GuestError.TheVariants.{IllegalMonitorStateException}
use Rattle.et_event.specs.Calls.{return, returned_by, frame_returned}
use Rattle.et_event.specs.Checks.{entries_of, throws_unless}
use Rattle.et_event.specs.Operands.{operand_kind, kind_of_letter, is_kind, may_return, returned_width}
use Rattle.et_event.specs.Moments.{Moment, current_frame, begins, ill_typed, goes}
use Rattle.et_event.specs.Monitors.{lock_in, owns_some}
use Rattle.et_event.specs.Sites.{Site, running_method}
use Rattle.et_event.specs.Sound.{is_of_kind}
use Rattle.et_history.specs.soundness.Outcomes.{KeepsSound}
use Rattle.et_event.specs.Programs.{MakesSound}
use Rattle.et_history.specs.soundness.WellFormed.{StandsAt}
use Rattle.et_history.proofs.soundness.Calls.{returned_sound}
use Rattle.et_history.proofs.soundness.Fields.{going, operands_there}
use Rattle.et_history.proofs.soundness.Outcomes.{unless_ill_typed, unless_thrown}
use Rattle.et_history.proofs.soundness.Taken.{taken_value}
use Rattle.et_event.proofs.Values.{few_entries}

abbrev operand_width : Operand → ℕ
operand_width operand.Int = 1
operand_width operand.Long = 2
operand_width operand.Reference = 1

-- a value of a kind takes no more entries
value_width : (kind : Operand) (v : Value) → is_of_kind (Some kind) v ≡ true → length (entries_of v) ≤ operand_width kind
value_width operand.Int Unset h = omega arith
value_width operand.Int (Int n) h = omega arith
value_width operand.Int (Long n) h = absurd (false≢true h)
value_width operand.Int LongHigh h = absurd (false≢true h)
value_width operand.Int Null h = absurd (false≢true h)
value_width operand.Int (Ref o) h = absurd (false≢true h)
value_width operand.Long v h = few_entries v
value_width operand.Reference Unset h = omega arith
value_width operand.Reference (Int n) h = absurd (false≢true h)
value_width operand.Reference (Long n) h = absurd (false≢true h)
value_width operand.Reference LongHigh h = absurd (false≢true h)
value_width operand.Reference Null h = omega arith
value_width operand.Reference (Ref o) h = omega arith

-- .. than the type that may be returned by that kind
pub kind_is : (kind : Operand) (o : Option Operand) → is_kind kind o ≡ true → o ≡ Some kind
kind_is operand.Int None e = absurd (false≢true e)
kind_is operand.Int (Some operand.Int) e = refl
kind_is operand.Int (Some operand.Long) e = absurd (false≢true e)
kind_is operand.Int (Some operand.Reference) e = absurd (false≢true e)
kind_is operand.Long None e = absurd (false≢true e)
kind_is operand.Long (Some operand.Int) e = absurd (false≢true e)
kind_is operand.Long (Some operand.Long) e = refl
kind_is operand.Long (Some operand.Reference) e = absurd (false≢true e)
kind_is operand.Reference None e = absurd (false≢true e)
kind_is operand.Reference (Some operand.Int) e = absurd (false≢true e)
kind_is operand.Reference (Some operand.Long) e = absurd (false≢true e)
kind_is operand.Reference (Some operand.Reference) e = refl

none_kind : (kind : Operand) (o : Option Operand) → o ≡ None → o ≡ Some kind → ⊥
none_kind kind o a b = cc

letter_width : (a : ℕ) (rest : List ℕ) (kind : Operand) → kind_of_letter a ≡ Some kind → operand_width kind ≤ width_of (a ∷ rest)
letter_width a rest operand.Int e = grind (arith, nat_tests)
letter_width a rest operand.Long e = grind (arith, nat_tests)
letter_width a rest operand.Reference e = grind (arith, nat_tests)

not_void : (a : ℕ) (rest : List ℕ) (kind : Operand) (b : Bool) → (a == 86) ≡ b → kind_of_letter a ≡ Some kind → operand_width kind ≤ width_of (a ∷ rest) → operand_width kind ≤ (if b && (length rest == 0) then 0 else width_of (a ∷ rest))
not_void a rest kind true is e h = absurd (none_kind kind (kind_of_letter 86) refl (subst (λ (k : ℕ). kind_of_letter k ≡ Some kind) (eqb-true a 86 is) e))
not_void a rest kind false is e h = h

type_width : (returned : List ℕ) (kind : Operand) → operand_kind returned ≡ Some kind → operand_width kind ≤ returned_width returned
type_width [] kind e = absurd (none_kind kind None refl e)
type_width (a ∷ rest) kind e = not_void a rest kind (a == 86) refl e (letter_width a rest kind e)

returned_few : (kind : Operand) (v : Value) (returned : List ℕ) → is_kind kind (operand_kind returned) ≡ true → is_of_kind (Some kind) v ≡ true → length (entries_of v) ≤ returned_width returned
returned_few kind v returned may is =
    let a : length (entries_of v) ≤ operand_width kind = value_width kind v is in
    let b : operand_width kind ≤ returned_width returned = type_width returned kind (kind_is kind (operand_kind returned) may) in
    omega arith

leaving_sound : (e : Moment) (at : Site) (values : List Value) → StandsAt e at → MakesSound e.program → length values ≤ returned_width (returned_by e)
    → KeepsSound e.program (throws_unless e (begins e) IllegalMonitorStateException (owns_some e (begins e) (lock_in (current_frame e).stage (running_method e.program (current_frame e)) (current_frame e).lock)) (goes (frame_returned e values (begins e))))
leaving_sound e at values here makes few =
    unless_thrown e (begins e) IllegalMonitorStateException (owns_some e (begins e) (lock_in (current_frame e).stage (running_method e.program (current_frame e)) (current_frame e).lock)) _ makes (going e at here)
    (λ owned. returned_sound e values here.sound here.clock here.frame (λ plain. few))

pub return_sound : (e : Moment) (at : Site) (kind : Option Operand) → StandsAt e at → MakesSound e.program → KeepsSound e.program (return e kind)
return_sound e at None here makes = unless_ill_typed e.program e (may_return None (returned_by e)) _ (λ may. leaving_sound e at [] here makes (omega arith))
return_sound e at (Some kind) here makes =
    unless_ill_typed e.program e (may_return (Some kind) (returned_by e)) _ (λ may.
    taken_value (KeepsSound e.program) (ill_typed e) e.before.heap (current_frame e).room (Some kind) (current_frame e).operands _ tt (operands_there e at here) (λ v below is ops few.
    leaving_sound e at (entries_of v) here makes (returned_few kind v (returned_by e) may is)))
