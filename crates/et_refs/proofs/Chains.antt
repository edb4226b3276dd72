-- The rows in parts: what goes on behind each check.
use Rattle.std.proofs.Common.{◌≡◌, ℕ, ◌++◌, ◌∷◌, ℤ, List, Option, None, Some, Result, Ok, Err, IfOk, Bool, true, false, unwrap_or, drop, not, refl, sym, ◌∙◌, ap}
use Rattle.std.specs.Prelude.{pos, ◌+◌, nat_le, length}
use Rattle.et_class.specs.Descriptors.{width_of}
use Rattle.et_state.specs.Threads.{FrameState}
use Rattle.et_base.specs.declared.value.Value.{Value}
use Rattle.et_base.specs.declared.value.Value.TheVariants.{Int, Ref}
use Rattle.et_program.specs.Entries.{class_at, field_at}
use Rattle.et_program.specs.Members.{is_subclass, base_array}
use Rattle.et_program.specs.Types.{passes}
use Rattle.et_heap.specs.Objects.{object_at, slot_of}
use Rattle.et_state.specs.State.{Kept}
use Rattle.et_state.specs.Outcome.{Outcome}
use Rattle.et_event.specs.declared.rows.Elements.{Elements}
use Rattle.et_event.specs.declared.errors.GuestError.TheVariants.{ArrayIndexOutOfBoundsException, ArrayStoreException, IncompatibleClassChangeError}
use Rattle.et_event.specs.Moments.{Moment, current_frame, begins, object_class, next_object, array_made, slot_written, ill_typed, goes, ends_event}
use Rattle.et_event.specs.Checks.{Reference, with_int, with_reference, with_value, entries_of, ill_typed_unless, throws_unless, not_null}
use Rattle.et_event.specs.Heap.{leaving_values, field_fits, resolved_field, is_static_at, with_holder, with_element, element_of_array, length_of, passes_element, resolved_class, truth, with_class, new_array_of}
use Rattle.et_event.specs.Kinds.{kind_of_field, or_zero, narrowed, kind_of_elements, kept_element, is_array_element, are_elements, in_bounds}
use Rattle.et_event.specs.Operands.{operand_kind}
use Rattle.et_event.specs.PoolOperands.Operand.{Operand}
use Rattle.et_event.specs.Sites.{Site, Member, class_operand, natural_of}
use Rattle.et_refs.specs.declared.refusals.Refusal.{Refusal}
use Rattle.et_refs.specs.Changes.{put_outcome}
use Rattle.et_refs.specs.Refusals.{outcome_of, refusal_outcome}
use Rattle.et_refs.specs.TypeTests.{left_by, left_by_null, tested, type_test}
use Rattle.et_refs.specs.declared.types.casts.TypeTest.{TypeTest}
use Rattle.et_refs.specs.declared.types.casts.TypeTest.TheVariants as tests

-- a check refused, and so the event
pub refusing : {B : Type 0} (e : Moment) (x : Outcome Kept) (s : Result B Refusal) (r : Refusal) (h : B → Outcome Kept) → x ≡ refusal_outcome e r → s ≡ Err r → x ≡ outcome_of e s h
refusing e x s r h a b = a ∙ ap (λ q. outcome_of e q h) (sym b)

-- GETFIELD

abbrev pub got : Moment → Site → Member → List Value → ℕ → ℕ → Outcome Kept
got e at m below o slot = goes (leaving_values e at (entries_of (or_zero (operand_kind m.descriptor) (slot_of (object_at e.before.heap o) slot)) ++ below) (begins e))

abbrev pub gets_slot : Moment → Site → Member → Reference → List Value → Outcome Kept
gets_slot e at m r below =
    resolved_field e (begins e) m (λ f. throws_unless e (begins e) IncompatibleClassChangeError (not (is_static_at e.program f)) (with_holder e (begins e) f r (λ o. got e at m below o (field_at e.program f).slot)))

abbrev pub gets_fitting : Moment → Site → Member → Reference → List Value → Outcome Kept
gets_fitting e at m r below = ill_typed_unless e (field_fits e below m) (gets_slot e at m r below)

abbrev pub gets : Moment → Site → Member → Outcome Kept
gets e at m = with_reference (ill_typed e) (current_frame e).operands (gets_fitting e at m)

-- THE FRAME of a moment, where it is the frame that runs

pub on_int : (e : Moment) (f : FrameState) (go : ℤ → List Value → Outcome Kept) → current_frame e ≡ f → with_int (ill_typed e) (current_frame e).operands go ≡ with_int (ill_typed e) f.operands go
on_int e f go same = ap (λ (x : FrameState). with_int (ill_typed e) x.operands go) same

pub on_reference : (e : Moment) (f : FrameState) (go : Reference → List Value → Outcome Kept) → current_frame e ≡ f → with_reference (ill_typed e) (current_frame e).operands go ≡ with_reference (ill_typed e) f.operands go
on_reference e f go same = ap (λ (x : FrameState). with_reference (ill_typed e) x.operands go) same

pub on_value : (e : Moment) (f : FrameState) (kind : Option Operand) (go : Value → List Value → Outcome Kept) → current_frame e ≡ f → with_value kind (ill_typed e) (current_frame e).operands go ≡ with_value kind (ill_typed e) f.operands go
on_value e f kind go same = ap (λ (x : FrameState). with_value kind (ill_typed e) x.operands go) same

pub on_fitting : (e : Moment) (f : FrameState) (m : Member) (below : List Value) (go : Outcome Kept) → current_frame e ≡ f → ill_typed_unless e (field_fits e below m) go ≡ ill_typed_unless e (nat_le (width_of m.descriptor + length below) f.room) go
on_fitting e f m below go same = ap (λ (x : FrameState). ill_typed_unless e (nat_le (width_of m.descriptor + length below) x.room) go) same

pub store_back : (e : Moment) (at : Site) (f : FrameState) (n o i : ℕ) (v : Value) → current_frame e ≡ f → goes (slot_written e o i v (leaving_values e at (drop n f.operands) (begins e))) ≡ goes (slot_written e o i v (leaving_values e at (drop n (current_frame e).operands) (begins e)))
store_back e at f n o i v same = ap (λ (x : FrameState). goes (slot_written e o i v (leaving_values e at (drop n x.operands) (begins e)))) (sym same)

pub put_back : (e : Moment) (at : Site) (f : FrameState) (n : ℕ) (v : Value) → current_frame e ≡ f → goes (leaving_values e at (entries_of v ++ drop n f.operands) (begins e)) ≡ put_outcome e at (drop n (current_frame e).operands) v
put_back e at f n v same = ap (λ (x : FrameState). goes (leaving_values e at (entries_of v ++ drop n x.operands) (begins e))) (sym same)

-- PUTFIELD

abbrev pub put : Moment → Site → Member → Value → List Value → ℕ → ℕ → Outcome Kept
put e at m v below o slot = goes (slot_written e o slot (narrowed m.descriptor v) (leaving_values e at below (begins e)))

abbrev pub puts_slot : Moment → Site → Member → Value → Reference → List Value → Outcome Kept
puts_slot e at m v r below =
    resolved_field e (begins e) m (λ f. throws_unless e (begins e) IncompatibleClassChangeError (not (is_static_at e.program f)) (with_holder e (begins e) f r (λ o. put e at m v below o (field_at e.program f).slot)))

abbrev pub puts_value : Moment → Site → Member → Value → List Value → Outcome Kept
puts_value e at m v more = with_reference (ill_typed e) more (puts_slot e at m v)

abbrev pub puts : Moment → Site → Member → Outcome Kept
puts e at m = with_value (kind_of_field m.descriptor) (ill_typed e) (current_frame e).operands (puts_value e at m)

-- ELEMENTS

abbrev pub loaded : Moment → Site → Elements → List Value → ℕ → ℕ → Outcome Kept
loaded e at kind below o i = goes (leaving_values e at (entries_of (or_zero (Some (kind_of_elements kind)) (slot_of (object_at e.before.heap o) i)) ++ below) (begins e))

abbrev pub loads : Moment → Site → Elements → ℤ → Reference → List Value → Outcome Kept
loads e at kind i r below = with_element e kind r i (λ o. loaded e at kind below o (natural_of i))

abbrev pub loads_index : Moment → Site → Elements → ℤ → List Value → Outcome Kept
loads_index e at kind i more = with_reference (ill_typed e) more (loads e at kind i)

-- ARRAYLENGTH

abbrev pub measured : Moment → Site → List Value → ℕ → Outcome Kept
measured e at below o = goes (leaving_values e at (Int (pos (length_of e o)) ∷ below) (begins e))

abbrev pub measures_array : Moment → Site → List Value → ℕ → Outcome Kept
measures_array e at below o = ill_typed_unless e (is_array_element (element_of_array e o)) (measured e at below o)

abbrev pub measures : Moment → Site → Reference → List Value → Outcome Kept
measures e at r below = not_null e (begins e) r (measures_array e at below)

-- THE ELEMENT OF AN INDEX

abbrev pub indexed : Moment → ℤ → (ℕ → ℕ → Outcome Kept) → ℕ → Outcome Kept
indexed e i go o = throws_unless e (begins e) ArrayIndexOutOfBoundsException (in_bounds i (length_of e o)) (go o (natural_of i))

abbrev pub elements_there : Moment → Elements → ℤ → (ℕ → ℕ → Outcome Kept) → ℕ → Outcome Kept
elements_there e kind i go o = ill_typed_unless e (are_elements kind (element_of_array e o)) (indexed e i go o)

-- A FIELD OF AN OBJECT

abbrev pub held_by : Moment → ℕ → (ℕ → Outcome Kept) → ℕ → Outcome Kept
held_by e f go o = ill_typed_unless e (is_subclass e.program (object_class (begins e) o) (field_at e.program f).class) (go o)

abbrev pub slot_held_by : Moment → Reference → (ℕ → ℕ → Outcome Kept) → ℕ → Outcome Kept
slot_held_by e r go f = with_holder e (begins e) f r (λ o. go o (field_at e.program f).slot)

-- TYPE TESTS

-- a truth takes one entry
pub truth_left : (e : Moment) (at : Site) (below : List Value) (b : Bool) → goes (leaving_values e at (truth b ∷ below) (begins e)) ≡ put_outcome e at below (truth b)
truth_left e at below true = refl
truth_left e at below false = refl

abbrev pub tests_reference : TypeTest → Moment → Site → List ℕ → Reference → List Value → Outcome Kept
tests_reference test e at name r below = tested test e at name below r

abbrev pub tests_named : TypeTest → Moment → Site → List ℕ → Outcome Kept
tests_named test e at name = with_reference (ill_typed e) (current_frame e).operands (tests_reference test e at name)

pub test_names : (test : TypeTest) (e : Moment) (at : Site) → type_test test e at ≡ with_class e (class_operand at) (tests_named test e at)
test_names tests.CheckCast e at = refl
test_names tests.InstanceOf e at = refl

pub tests_null : (test : TypeTest) (e : Moment) (at : Site) (name : List ℕ) (below : List Value) → tested test e at name below None ≡ put_outcome e at below (left_by_null test)
tests_null tests.CheckCast e at name below = refl
tests_null tests.InstanceOf e at name below = refl

abbrev pub tests_object : TypeTest → Moment → Site → List Value → ℕ → ℕ → Outcome Kept
tests_object test e at below o class = left_by test e at below o (passes e.program (object_class (begins e) o) class)

pub object_tested : (test : TypeTest) (e : Moment) (at : Site) (name : List ℕ) (below : List Value) (o : ℕ) → tested test e at name below (Some o) ≡ resolved_class e (begins e) name (tests_object test e at below o)
object_tested tests.CheckCast e at name below o = refl
object_tested tests.InstanceOf e at name below o = refl

-- IASTORE AND ITS KIN

abbrev pub kept : Moment → Site → Elements → Value → List Value → ℕ → ℕ → Outcome Kept
kept e at kind v below o i = goes (slot_written e o i (kept_element kind v) (leaving_values e at below (begins e)))

abbrev pub stores_tested : Moment → Site → Elements → Value → List Value → ℕ → ℕ → Outcome Kept
stores_tested e at kind v below o i = throws_unless e (begins e) ArrayStoreException (passes_element e v (element_of_array e o)) (kept e at kind v below o i)

abbrev pub stores : Moment → Site → Elements → Value → ℤ → Reference → List Value → Outcome Kept
stores e at kind v i r below = with_element e kind r i (λ o. stores_tested e at kind v below o (natural_of i))

abbrev pub stores_index : Moment → Site → Elements → Value → ℤ → List Value → Outcome Kept
stores_index e at kind v i more = with_reference (ill_typed e) more (stores e at kind v i)

abbrev pub stores_value : Moment → Site → Elements → Value → List Value → Outcome Kept
stores_value e at kind v most = with_int (ill_typed e) most (stores_index e at kind v)

-- NEWARRAY, ANEWARRAY

abbrev pub makes_base : Moment → Site → ℤ → List Value → Outcome Kept
makes_base e at n below = new_array_of e at (unwrap_or (base_array e.program (natural_of at.instr.first)) 0) n below

abbrev pub makes : Moment → Site → ℤ → List Value → ℕ → Outcome Kept
makes e at n below class = new_array_of e at (unwrap_or (class_at e.program class).array 0) n below

abbrev pub makes_resolved : Moment → Site → List ℕ → ℤ → List Value → Outcome Kept
makes_resolved e at name n below = resolved_class e (begins e) name (makes e at n below)

abbrev pub makes_named : Moment → Site → List ℕ → Outcome Kept
makes_named e at name = with_int (ill_typed e) (current_frame e).operands (makes_resolved e at name)

abbrev pub sized : Moment → Site → ℕ → ℕ → Outcome Kept
sized e at class elements = ends_event (leaving_values e at (Ref (next_object (begins e)) ∷ drop 1 (current_frame e).operands) (array_made e class elements (begins e)))

-- where all is well whatever the answer
pub whatever : {A E : Type 0} {P : Type 0} (r : Result A E) → P → IfOk r (λ a. P)
whatever (Ok a) h = h
whatever (Err e) h = tt

-- .. or well with each
pub each_well : {A E : Type 0} (P : A → Type 0) (r : Result A E) → ((a : A) → P a) → IfOk r P
each_well P (Ok a) h = h a
each_well P (Err e) h = tt
