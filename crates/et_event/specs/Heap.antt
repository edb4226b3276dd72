-- THE INSTRUCTIONS ON FIELDS, ARRAYS AND CLASSES (JVMS 2.11.5, and the sections of 6.5 with their names).
use Rattle.std.specs.Prelude.{ℕ, zero, suc, ◌+◌, ◌==◌, ◌||◌, codes, not, nat_le, ℤ, pos, int_le, Bool, true, false, List, [], ◌∷◌, ◌++◌, length, Option, Some, None, unwrap_or}
use Rattle.std.specs.List.{list_all}
use Rattle.et_base.specs.declared.value.Value.{Value}
use Rattle.et_base.specs.declared.value.Value.TheVariants.{Int, Null, Ref}
use Rattle.et_class.specs.Descriptors.{width_of, is_field_descriptor}
use Rattle.et_class.specs.Names.{has}
use Rattle.et_class.specs.declared.flags.TheConstants.{STATIC, INTERFACE, ABSTRACT}
use Rattle.et_program.specs.Entries.{Linked, class_at, field_at}
use Rattle.et_program.specs.Members.{is_subclass, base_array}
use Rattle.et_program.specs.Resolution.{resolve_class, resolve_field}
use Rattle.et_program.specs.Types.{passes}
use Rattle.et_program.specs.declared.info.Element.{Element}
use Rattle.et_program.specs.declared.info.Element.TheVariants.{NoArray, Base, Class}
use Rattle.et_heap.specs.Objects.{object_at, slot_of}
use Rattle.et_state.specs.State.{Kept}
use Rattle.et_state.specs.Words.{static_at}
use Rattle.et_state.specs.Outcome.{Outcome}
use Rattle.et_event.specs.declared.rows.Elements.{Elements}
use Rattle.et_event.specs.declared.rows.HeapRow.{HeapRow}
use Rattle.et_event.specs.declared.rows.HeapRow.TheVariants as row
use Rattle.et_event.specs.declared.errors.GuestError.TheVariants.{ArrayIndexOutOfBoundsException, ArrayStoreException, ClassCastException, IncompatibleClassChangeError, InstantiationError, NegativeArraySizeException, NoSuchFieldError}
use Rattle.et_event.specs.Moments.{Moment, Doing, current_frame, begins, with_frame, object_class, next_object, instance_made, array_made, slot_written, static_written, ill_typed, goes, ends_event}
use Rattle.et_event.specs.Checks.{Reference, with_int, with_reference, with_value, entries_of, ill_typed_unless, resolved, throws_unless, not_null}
use Rattle.et_event.specs.Sites.{Site, Member, site_member, class_operand, natural_of}
use Rattle.et_event.specs.Kinds.{kind_of_field, or_zero, narrowed, kind_of_elements, are_elements, is_array_element, kept_element, in_bounds}
use Rattle.et_class.specs.Operands.{operand_kind}
use Rattle.et_event.specs.Errors.{class_called}
use Rattle.et_event.specs.Initialization.{initialized}

-- the instruction is done, and its operands became these
abbrev pub leaving_values : Moment → Site → List Value → Doing → Doing
leaving_values e at operands d = with_frame e (record (current_frame e) { pc = at.next; operands = operands }) d

-- FIELDS

abbrev pub is_static_at : Linked → ℕ → Bool
is_static_at p f = has (field_at p f).flags STATIC

abbrev pub resolved_class : Moment → Doing → List ℕ → (ℕ → Outcome Kept) → Outcome Kept
resolved_class e d name go = resolved e d (resolve_class e.program name) go

-- 2. the class that is named, and then the field
abbrev pub resolved_field : Moment → Doing → Member → (ℕ → Outcome Kept) → Outcome Kept
resolved_field e d m go = resolved_class e d m.owner (λ owner. resolved e d (resolve_field e.program owner m.name m.descriptor) go)

-- what an instruction names that isn't a field, or a class, is met by no operands
abbrev pub with_field : Moment → Option Member → (Member → Outcome Kept) → Outcome Kept
with_field e None go = ill_typed e
with_field e (Some m) go = ill_typed_unless e (is_field_descriptor m.descriptor) (go m)

abbrev pub with_class : Moment → Option (List ℕ) → (List ℕ → Outcome Kept) → Outcome Kept
with_class e None go = ill_typed e
with_class e (Some name) go = go name

-- 1. so many operands and what a field of that type gives are at most max_stack
abbrev pub field_fits : Moment → List Value → Member → Bool
field_fits e below m = nat_le (width_of m.descriptor + length below) (current_frame e).room

-- 6 and 7. the reference names an object of the class that declares the field
abbrev pub with_holder : Moment → Doing → ℕ → Reference → (ℕ → Outcome Kept) → Outcome Kept
with_holder e d f r go =
    not_null e d r (λ o.
    ill_typed_unless e (is_subclass e.program (object_class d o) (field_at e.program f).class) (go o))

-- getstatic, once it is known which static field is named, and that its value fits
abbrev pub with_static_field : Moment → Site → (Member → ℕ → Outcome Kept) → Outcome Kept
with_static_field e at go =
    with_field e (site_member at) (λ m.
    ill_typed_unless e (field_fits e (current_frame e).operands m)
    (resolved_field e (begins e) m (λ f.
    throws_unless e (begins e) IncompatibleClassChangeError (is_static_at e.program f) (go m f))))

abbrev pub get_static : Moment → Site → Outcome Kept
get_static e at =
    with_static_field e at (λ m f.
    initialized e (begins e) (field_at e.program f).class (λ d.
    ends_event (leaving_values e at (entries_of (or_zero (operand_kind m.descriptor) (static_at d.state.guest (field_at e.program f).slot)) ++ (current_frame e).operands) d)))

-- the field is System.out, the one static field of a built-in class
abbrev pub is_out : Linked → ℕ → Bool
is_out p f = (field_at p f).class == class_called p (codes "java/lang/System")

-- no instruction writes System.out
abbrev pub put_static : Moment → Site → Outcome Kept
put_static e at =
    with_field e (site_member at) (λ m.
    with_value (kind_of_field m.descriptor) (ill_typed e) (current_frame e).operands (λ v below.
    resolved_field e (begins e) m (λ f.
    throws_unless e (begins e) IncompatibleClassChangeError (is_static_at e.program f)
    (throws_unless e (begins e) NoSuchFieldError (not (is_out e.program f))
    (initialized e (begins e) (field_at e.program f).class (λ d.
    ends_event (static_written e (field_at e.program f).slot (narrowed m.descriptor v) (leaving_values e at below d))))))))

abbrev pub get_field : Moment → Site → Outcome Kept
get_field e at =
    with_field e (site_member at) (λ m.
    with_reference (ill_typed e) (current_frame e).operands (λ r below.
    ill_typed_unless e (field_fits e below m)
    (resolved_field e (begins e) m (λ f.
    throws_unless e (begins e) IncompatibleClassChangeError (not (is_static_at e.program f))
    (with_holder e (begins e) f r (λ o.
    goes (leaving_values e at (entries_of (or_zero (operand_kind m.descriptor) (slot_of (object_at e.before.heap o) (field_at e.program f).slot)) ++ below) (begins e))))))))

abbrev pub put_field : Moment → Site → Outcome Kept
put_field e at =
    with_field e (site_member at) (λ m.
    with_value (kind_of_field m.descriptor) (ill_typed e) (current_frame e).operands (λ v more.
    with_reference (ill_typed e) more (λ r below.
    resolved_field e (begins e) m (λ f.
    throws_unless e (begins e) IncompatibleClassChangeError (not (is_static_at e.program f))
    (with_holder e (begins e) f r (λ o.
    goes (slot_written e o (field_at e.program f).slot (narrowed m.descriptor v) (leaving_values e at below (begins e)))))))))

-- ELEMENTS

abbrev pub element_of_array : Moment → ℕ → Element
element_of_array e o = (class_at e.program (object_at e.before.heap o).class).info.element

abbrev pub length_of : Moment → ℕ → ℕ
length_of e o = (object_at e.before.heap o).length

-- 6, 7 and 9. the reference names an array with elements of that kind, and has one of that index
abbrev pub with_element : Moment → Elements → Reference → ℤ → (ℕ → Outcome Kept) → Outcome Kept
with_element e kind r i go =
    not_null e (begins e) r (λ o.
    ill_typed_unless e (are_elements kind (element_of_array e o))
    (throws_unless e (begins e) ArrayIndexOutOfBoundsException (in_bounds i (length_of e o)) (go o)))

-- iaload and its kin; an element takes no more entries than the array and the index
abbrev pub load_element : Moment → Site → Elements → Outcome Kept
load_element e at kind =
    with_int (ill_typed e) (current_frame e).operands (λ i more.
    with_reference (ill_typed e) more (λ r below.
    with_element e kind r i (λ o.
    goes (leaving_values e at (entries_of (or_zero (Some (kind_of_elements kind)) (slot_of (object_at e.before.heap o) (natural_of i))) ++ below) (begins e)))))

-- the element type of an array allows a value: null, an object that passes the type test, and what is no reference
abbrev pub passes_element : Moment → Value → Element → Bool
passes_element e (Ref x) (Class class) = passes e.program (object_at e.before.heap x).class class
passes_element e v element = true

-- iastore and its kin
abbrev pub store_element : Moment → Site → Elements → Outcome Kept
store_element e at kind =
    with_value (Some (kind_of_elements kind)) (ill_typed e) (current_frame e).operands (λ v most.
    with_int (ill_typed e) most (λ i more.
    with_reference (ill_typed e) more (λ r below.
    with_element e kind r i (λ o.
    throws_unless e (begins e) ArrayStoreException (passes_element e v (element_of_array e o))
    (goes (slot_written e o (natural_of i) (kept_element kind v) (leaving_values e at below (begins e))))))))

abbrev pub array_length : Moment → Site → Outcome Kept
array_length e at =
    with_reference (ill_typed e) (current_frame e).operands (λ r below.
    not_null e (begins e) r (λ o.
    ill_typed_unless e (is_array_element (element_of_array e o))
    (goes (leaving_values e at (Int (pos (length_of e o)) ∷ below) (begins e)))))

-- MAKING

abbrev pub may_be_made : Linked → ℕ → Bool
may_be_made p c = not (has (class_at p c).info.flags INTERFACE || has (class_at p c).info.flags ABSTRACT)

abbrev pub new_instance : Moment → Site → Outcome Kept
new_instance e at =
    with_class e (class_operand at) (λ name.
    ill_typed_unless e (nat_le (1 + length (current_frame e).operands) (current_frame e).room)
    (resolved_class e (begins e) name (λ class.
    throws_unless e (begins e) InstantiationError (may_be_made e.program class)
    (initialized e (begins e) class (λ d.
    ends_event (leaving_values e at (Ref (next_object d) ∷ (current_frame e).operands) (instance_made e class d)))))))

-- 9 and 13. an array of a class that has so many elements takes the place of their number
abbrev pub new_array_of : Moment → Site → ℕ → ℤ → List Value → Outcome Kept
new_array_of e at class elements below =
    throws_unless e (begins e) NegativeArraySizeException (int_le (pos 0) elements)
    (ends_event (leaving_values e at (Ref (next_object (begins e)) ∷ below) (array_made e class (natural_of elements) (begins e))))

-- newarray: the program has an array class for each base type over which an instruction makes arrays
abbrev pub new_array : Moment → Site → Outcome Kept
new_array e at =
    with_int (ill_typed e) (current_frame e).operands (λ elements below.
    new_array_of e at (unwrap_or (base_array e.program (natural_of at.instr.first)) 0) elements below)

-- anewarray: .. and for each class
abbrev pub new_reference_array : Moment → Site → Outcome Kept
new_reference_array e at =
    with_class e (class_operand at) (λ name.
    with_int (ill_typed e) (current_frame e).operands (λ elements below.
    resolved_class e (begins e) name (λ class.
    new_array_of e at (unwrap_or (class_at e.program class).array 0) elements below)))

-- multianewarray: the lengths, the one of the last dimension on top, of so many dimensions, the first dimension first
abbrev pub with_lengths : {A : Type 0} → ℕ → List ℤ → A → List Value → (List ℤ → List Value → A) → A
with_lengths zero found refused ops go = go found ops
with_lengths (suc n) found refused ops go = with_int refused ops (λ i below. with_lengths n (i ∷ found) refused below go)

abbrev pub element_class : Element → ℕ
element_class NoArray = 0
element_class (Base kind) = 0
element_class (Class class) = class

-- the elements below i of an array are made, each with what is in it, and is written before the next is made
abbrev pub filled : Moment → ℕ → (Doing → Doing) → ℕ → Doing → Doing
filled e o make zero d = d
filled e o make (suc i) d =
    let x = filled e o make i d in
    slot_written e o i (Ref (next_object x)) (make x)

-- an array of a class with these lengths, and the arrays in it; below a length of 0 there are none
abbrev pub arrays_made : Moment → ℕ → List ℕ → Doing → Doing
arrays_made e class [] d = d
arrays_made e class (n ∷ []) d = array_made e class n d
arrays_made e class (n ∷ m ∷ more) d =
    filled e (next_object d) (arrays_made e (element_class (class_at e.program class).info.element) (m ∷ more)) n (array_made e class n d)

abbrev pub naturals : List ℤ → List ℕ
naturals [] = []
naturals (n ∷ ns) = natural_of n ∷ naturals ns

abbrev pub new_multi_array : Moment → Site → Outcome Kept
new_multi_array e at =
    with_class e (class_operand at) (λ name.
    with_lengths (natural_of at.instr.second) [] (ill_typed e) (current_frame e).operands (λ lengths below.
    resolved_class e (begins e) name (λ class.
    throws_unless e (begins e) NegativeArraySizeException (list_all (int_le (pos 0)) lengths)
    (ends_event (leaving_values e at (Ref (next_object (begins e)) ∷ below) (arrays_made e class (naturals lengths) (begins e)))))))

-- TYPE TESTS: null passes each, and then nothing is resolved

abbrev pub cast : Moment → Site → List ℕ → List Value → Reference → Outcome Kept
cast e at name below None = goes (leaving_values e at (Null ∷ below) (begins e))
cast e at name below (Some o) =
    resolved_class e (begins e) name (λ class.
    throws_unless e (begins e) ClassCastException (passes e.program (object_class (begins e) o) class)
    (goes (leaving_values e at (Ref o ∷ below) (begins e))))

abbrev pub check_cast : Moment → Site → Outcome Kept
check_cast e at =
    with_class e (class_operand at) (λ name.
    with_reference (ill_typed e) (current_frame e).operands (λ r below. cast e at name below r))

abbrev pub truth : Bool → Value
truth true = Int (pos 1)
truth false = Int (pos 0)

abbrev pub type_tested : Moment → Site → List ℕ → List Value → Reference → Outcome Kept
type_tested e at name below None = goes (leaving_values e at (truth false ∷ below) (begins e))
type_tested e at name below (Some o) =
    resolved_class e (begins e) name (λ class.
    goes (leaving_values e at (truth (passes e.program (object_class (begins e) o) class) ∷ below) (begins e)))

abbrev pub instance_of : Moment → Site → Outcome Kept
instance_of e at =
    with_class e (class_operand at) (λ name.
    with_reference (ill_typed e) (current_frame e).operands (λ r below. type_tested e at name below r))

-- THE SHAPES
abbrev pub heap_event : Moment → Site → HeapRow → Outcome Kept
heap_event e at row.GetStatic = get_static e at
heap_event e at row.PutStatic = put_static e at
heap_event e at row.GetField = get_field e at
heap_event e at row.PutField = put_field e at
heap_event e at (row.LoadElement kind) = load_element e at kind
heap_event e at (row.StoreElement kind) = store_element e at kind
heap_event e at row.New = new_instance e at
heap_event e at row.NewArray = new_array e at
heap_event e at row.NewReferenceArray = new_reference_array e at
heap_event e at row.NewMultiArray = new_multi_array e at
heap_event e at row.ArrayLength = array_length e at
heap_event e at row.CheckCast = check_cast e at
heap_event e at row.InstanceOf = instance_of e at
