-- What stands in a slot, of which class an object is, and which field a name means.
use Rattle.std.proofs.Common.{◌≡◌, ℕ, ◌<◌, true, List, [], ◌∷◌, length, get_or, Option, None, Some, IfSome, IfOk, refl, subst, arith, Contains}
use Rattle.std.specs.Option.{ok_or}
use Rattle.std.specs.Str.{bytes_eq}
use Rattle.std.specs.Prelude.{◌&&◌, ◌==◌}
use Rattle.std.proofs.lemmas.Bool.{and_parts}
use Rattle.std.proofs.lemmas.Slice.Eq.{bytes_eq-Decides}
use Rattle.et_heap.proofs.References.{there_is}
use Rattle.et_base.specs.declared.value.Value.{Value}
use Rattle.et_base.specs.declared.value.Value.TheVariants.{Unset, Int, Long, LongHigh, Null, Ref}
use Rattle.et_base.proofs.Lists.{Contains-none}
use Rattle.et_base.proofs.Options.{either_holds}
use Rattle.et_base.proofs.Positions.{Passes, position_passes}
use Rattle.et_heap.specs.Objects.{Objects, IsHeld, at, object_at}
use Rattle.et_heap.specs.Refs.{refs_of_value}
use Rattle.et_program.specs.declared.info.FieldInfo.{FieldInfo}
use Rattle.et_program.specs.Entries.{Linked, field_at, no_field}
use Rattle.et_program.specs.Members.{is_field, field_in, first_in}
use Rattle.et_program.specs.Resolution.{resolve_field}
use Rattle.et_event.specs.declared.rows.Elements.{Elements}
use Rattle.et_event.specs.declared.rows.Elements.TheVariants as elements
use Rattle.et_event.specs.PoolOperands.Operand.{Operand}
use Rattle.et_event.specs.PoolOperands.Operand.TheVariants as operand
use Rattle.et_event.specs.Kinds.{or_zero, zero_of, narrowed, kept_element}
use Rattle.et_event.specs.Sound.{is_of_kind}
use Rattle.et_refs.specs.Changes.{is_number}
use Rattle.et_refs.specs.Reads.{IsSoundHeap}

-- OBJECTS

-- the class of one that is held is a class of the program
pub class_within : (p : Linked) (heap : Objects) (o : ℕ) → IsSoundHeap p heap → IsHeld heap o → (object_at heap o).class < length p.classes
class_within p heap o sound held = (sound.objects o (object_at heap o) (there_is (at heap o) held)).class

-- SLOTS

zero_refers : (kind : Option Operand) (o : ℕ) → Contains (refs_of_value (zero_of kind)) o → ⊥
zero_refers None o c = Contains-none o c
zero_refers (Some operand.Int) o c = Contains-none o c
zero_refers (Some operand.Long) o c = Contains-none o c
zero_refers (Some operand.Reference) o c = Contains-none o c

pub read_refers : (kind : Option Operand) (v : Value) (o : ℕ) → Contains (refs_of_value (or_zero kind v)) o → Contains (refs_of_value v) o
read_refers kind Unset o c = absurd (zero_refers kind o c)
read_refers kind (Int n) o c = c
read_refers kind (Long n) o c = c
read_refers kind LongHigh o c = c
read_refers kind Null o c = c
read_refers kind (Ref x) o c = c

-- what a slot keeps of a value refers to what the value refers to
pub kept_refers : (type : List ℕ) (v : Value) (o : ℕ) → Contains (refs_of_value (narrowed type v)) o → Contains (refs_of_value v) o
kept_refers type Unset o c = c
kept_refers type (Int n) o c = c
kept_refers type (Long n) o c = c
kept_refers type LongHigh o c = c
kept_refers type Null o c = c
kept_refers type (Ref x) o c = c

-- .. and is a number where the value is one
pub kept_number : (type : List ℕ) (v : Value) → is_number (narrowed type v) ≡ true → is_number v ≡ true
kept_number type Unset h = h
kept_number type (Int n) h = refl
kept_number type (Long n) h = h
kept_number type LongHigh h = h
kept_number type Null h = h
kept_number type (Ref x) h = h

pub element_number : (kind : Elements) (v : Value) → is_number (kept_element kind v) ≡ true → is_number v ≡ true
element_number elements.Int v h = h
element_number elements.Long v h = h
element_number elements.Reference v h = h
element_number elements.Byte Unset h = h
element_number elements.Byte (Int n) h = refl
element_number elements.Byte (Long n) h = h
element_number elements.Byte LongHigh h = h
element_number elements.Byte Null h = h
element_number elements.Byte (Ref x) h = h
element_number elements.Char Unset h = h
element_number elements.Char (Int n) h = refl
element_number elements.Char (Long n) h = h
element_number elements.Char LongHigh h = h
element_number elements.Char Null h = h
element_number elements.Char (Ref x) h = h
element_number elements.Short Unset h = h
element_number elements.Short (Int n) h = refl
element_number elements.Short (Long n) h = h
element_number elements.Short LongHigh h = h
element_number elements.Short Null h = h
element_number elements.Short (Ref x) h = h

-- no reference stands where numbers do
no_number : (v : Value) → is_number v ≡ true → is_of_kind (Some operand.Reference) v ≡ true → ⊥
no_number Unset h k = cc
no_number (Int n) h k = cc
no_number (Long n) h k = cc
no_number LongHigh h k = cc
no_number Null h k = cc
no_number (Ref x) h k = cc

no_such : (kind : Option Operand) (v : Value) (x : ℕ) → is_number v ≡ true → is_of_kind kind v ≡ true → is_of_kind kind (Ref x) ≡ true → ⊥
no_such None v x h k old = cc
no_such (Some operand.Int) v x h k old = cc
no_such (Some operand.Long) v x h k old = cc
no_such (Some operand.Reference) v x h k old = no_number v h k

pub no_reference_there : (kind : Option Operand) (v old : Value) → is_number v ≡ true → is_of_kind kind v ≡ true → is_of_kind kind old ≡ true → refs_of_value old ≡ []
no_reference_there kind v Unset h k old = refl
no_reference_there kind v (Int n) h k old = refl
no_reference_there kind v (Long n) h k old = refl
no_reference_there kind v LongHigh h k old = refl
no_reference_there kind v Null h k old = refl
no_reference_there kind v (Ref x) h k old = absurd (no_such kind v x h k old)

-- FIELDS: what resolution finds has the descriptor that was asked for

described : (f : FieldInfo) (name descriptor : List ℕ) (c : ℕ) → is_field name descriptor c f ≡ true → f.descriptor ≡ descriptor
described f name descriptor c e =
    let rest = (and_parts (f.class == c) (bytes_eq f.name name && bytes_eq f.descriptor descriptor) e).1 in
    let last = (and_parts (bytes_eq f.name name) (bytes_eq f.descriptor descriptor) rest).1 in
    (bytes_eq-Decides f.descriptor descriptor).0 last

found_in : (p : Linked) (name descriptor : List ℕ) (c : ℕ) (o : Option ℕ) → IfSome o (Passes (is_field name descriptor c) no_field 0 p.fields) → IfSome o (λ f. (field_at p f).descriptor ≡ descriptor)
found_in p name descriptor c None h = tt
found_in p name descriptor c (Some f) h =
    let same : h.place ≡ f = omega (arith, h.is) in
    described (field_at p f) name descriptor c (subst (λ (k : ℕ). is_field name descriptor c (get_or p.fields k no_field) ≡ true) same h.passes)

first_found : (P : ℕ → Type 0) (member : ℕ → Option ℕ) → ((c : ℕ) → IfSome (member c) P) → (cs : List ℕ) → IfSome (first_in member cs) P
first_found P member h [] = tt
first_found P member h (c ∷ cs) = either_holds P (member c) (first_in member cs) (h c) (first_found P member h cs)

as_ok : {E : Type 0} (P : ℕ → Type 0) (o : Option ℕ) (e : E) → IfSome o P → IfOk (ok_or o e) P
as_ok P None e h = tt
as_ok P (Some x) e h = h

pub field_described : (p : Linked) (owner : ℕ) (name descriptor : List ℕ) → IfOk (resolve_field p owner name descriptor) (λ f. (field_at p f).descriptor ≡ descriptor)
field_described p owner name descriptor =
    as_ok (λ f. (field_at p f).descriptor ≡ descriptor) (first_in (field_in p name descriptor) _) _
    (first_found (λ f. (field_at p f).descriptor ≡ descriptor) (field_in p name descriptor) (λ c. found_in p name descriptor c (field_in p name descriptor c) (position_passes (is_field name descriptor c) no_field 0 p.fields)) _)

-- what an element keeps of a value refers to what the value refers to
pub element_refers : (kind : Elements) (v : Value) (o : ℕ) → Contains (refs_of_value (kept_element kind v)) o → Contains (refs_of_value v) o
element_refers elements.Int v o c = c
element_refers elements.Long v o c = c
element_refers elements.Reference v o c = c
element_refers elements.Byte Unset o c = c
element_refers elements.Byte (Int n) o c = c
element_refers elements.Byte (Long n) o c = c
element_refers elements.Byte LongHigh o c = c
element_refers elements.Byte Null o c = c
element_refers elements.Byte (Ref x) o c = c
element_refers elements.Char Unset o c = c
element_refers elements.Char (Int n) o c = c
element_refers elements.Char (Long n) o c = c
element_refers elements.Char LongHigh o c = c
element_refers elements.Char Null o c = c
element_refers elements.Char (Ref x) o c = c
element_refers elements.Short Unset o c = c
element_refers elements.Short (Int n) o c = c
element_refers elements.Short (Long n) o c = c
element_refers elements.Short LongHigh o c = c
element_refers elements.Short Null o c = c
element_refers elements.Short (Ref x) o c = c
