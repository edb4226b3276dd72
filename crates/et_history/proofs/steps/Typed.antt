-- Where no reference is written, none stood there: a slot holds values of its type.
use Rattle.std.proofs.Common.{◌≡◌, ℕ, ◌⊎◌, true, List, Option, Some, None, refl, inl, inr}
use Rattle.std.proofs.lemmas.Bool.{false≢true}
use Rattle.et_base.specs.declared.value.Value.{Value}
use Rattle.et_base.specs.declared.value.Value.TheVariants.{Unset, Int, Long, LongHigh, Null, Ref}
use Rattle.et_event.specs.Kinds.{kept_element, narrowed}
use Rattle.et_event.specs.Moments.{number_of_value}
use Rattle.et_event.specs.PoolOperands.Operand.{Operand}
use Rattle.et_event.specs.PoolOperands.Operand.TheVariants as operand
use Rattle.et_event.specs.Sound.{is_of_kind}
use Rattle.et_event.specs.declared.rows.Elements.{Elements}
use Rattle.et_event.specs.declared.rows.Elements.TheVariants as elements
use Rattle.et_history.specs.steps.Steps.{IsReference, IsTyped}
use Rattle.et_history.proofs.steps.Taken.{int_given}

-- an int stands there, or nothing
int_there : (old : Value) → is_of_kind (Some operand.Int) old ≡ true → number_of_value old ≡ 0
int_there (Ref o) h = absurd (false≢true h)
int_there other h = refl

-- .. or a long
long_there : (old : Value) → is_of_kind (Some operand.Long) old ≡ true → number_of_value old ≡ 0
long_there (Ref o) h = absurd (false≢true h)
long_there other h = refl

by_kind : (kind : Option Operand) (v old : Value) → is_of_kind kind v ≡ true → (v ≡ Unset → ⊥) → is_of_kind kind old ≡ true → IsReference v ⊎ (number_of_value old ≡ 0)
by_kind kind Unset old is given was = absurd (given refl)
by_kind kind Null old is given was = inl tt
by_kind kind (Ref o) old is given was = inl tt
by_kind None (Int n) old is given was = absurd (false≢true is)
by_kind (Some operand.Int) (Int n) old is given was = inr (int_there old was)
by_kind (Some operand.Long) (Int n) old is given was = absurd (false≢true is)
by_kind (Some operand.Reference) (Int n) old is given was = absurd (false≢true is)
by_kind None (Long n) old is given was = absurd (false≢true is)
by_kind (Some operand.Int) (Long n) old is given was = absurd (false≢true is)
by_kind (Some operand.Long) (Long n) old is given was = inr (long_there old was)
by_kind (Some operand.Reference) (Long n) old is given was = absurd (false≢true is)
by_kind None LongHigh old is given was = absurd (false≢true is)
by_kind (Some operand.Int) LongHigh old is given was = absurd (false≢true is)
by_kind (Some operand.Long) LongHigh old is given was = absurd (false≢true is)
by_kind (Some operand.Reference) LongHigh old is given was = absurd (false≢true is)

-- both are of one type
pub reference_or_none : (kind : Option Operand) (v old : Value) → IsTyped kind v → is_of_kind kind old ≡ true → IsReference v ⊎ (number_of_value old ≡ 0)
reference_or_none kind v old typed was = by_kind kind v old typed.kind typed.given was

-- what a field or an element keeps of a reference is it
narrowed_reference : (descriptor : List ℕ) (v : Value) → IsReference v → IsReference (narrowed descriptor v)
narrowed_reference descriptor (Int n) is = absurd is
narrowed_reference descriptor other is = is

pub narrowed_plain : (descriptor : List ℕ) (v old : Value) → IsReference v ⊎ (number_of_value old ≡ 0) → IsReference (narrowed descriptor v) ⊎ (number_of_value old ≡ 0)
narrowed_plain descriptor v old (inl is) = inl (narrowed_reference descriptor v is)
narrowed_plain descriptor v old (inr none) = inr none

pub narrowed_given : (descriptor : List ℕ) (v : Value) → (v ≡ Unset → ⊥) → narrowed descriptor v ≡ Unset → ⊥
narrowed_given descriptor (Int n) given = int_given _
narrowed_given descriptor other given = given

kept_null : (kind : Elements) → IsReference (kept_element kind Null)
kept_null elements.Int = tt
kept_null elements.Long = tt
kept_null elements.Reference = tt
kept_null elements.Byte = tt
kept_null elements.Char = tt
kept_null elements.Short = tt

kept_ref : (kind : Elements) (o : ℕ) → IsReference (kept_element kind (Ref o))
kept_ref elements.Int o = tt
kept_ref elements.Long o = tt
kept_ref elements.Reference o = tt
kept_ref elements.Byte o = tt
kept_ref elements.Char o = tt
kept_ref elements.Short o = tt

kept_reference : (kind : Elements) (v : Value) → IsReference v → IsReference (kept_element kind v)
kept_reference kind Null is = kept_null kind
kept_reference kind (Ref o) is = kept_ref kind o
kept_reference kind other is = absurd is

pub kept_plain : (kind : Elements) (v old : Value) → IsReference v ⊎ (number_of_value old ≡ 0) → IsReference (kept_element kind v) ⊎ (number_of_value old ≡ 0)
kept_plain kind v old (inl is) = inl (kept_reference kind v is)
kept_plain kind v old (inr none) = inr none
