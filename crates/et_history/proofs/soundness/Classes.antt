-- The instructions on static fields, and those that make an object of a class that they name.
use Rattle.std.proofs.Common.{◌≡◌, ℕ, ◌+◌, ◌<◌, ◌≤◌, true, List, ◌∷◌, ◌++◌, length, Option, Some, None, IfSome, Ok, refl, sym, ap, subst, arith}
use Rattle.std.specs.Prelude.{nat_le, not, unwrap_or, slice_index_or}
use Rattle.std.proofs.lemmas.Bool.{leb-true}
use Rattle.std.proofs.lemmas.List.{length-append}
use Rattle.et_base.specs.declared.value.Value.{Value}
use Rattle.et_base.specs.declared.value.Value.TheVariants.{Ref}
use Rattle.et_class.specs.Descriptors.{width_of, is_field_descriptor}
use Rattle.et_program.specs.Entries.{ClassEntry, Linked, no_class, class_at, field_at}
use Rattle.et_program.specs.Members.{class_named, base_array, is_base_array}
use Rattle.et_program.specs.Resolution.{resolve_class}
use Rattle.et_program.specs.declared.errors.LinkError.TheVariants.{NoClassDefFound}
use Rattle.et_program.specs.declared.info.Element.{Element}
use Rattle.et_program.specs.declared.info.Element.TheVariants.{NoArray, Base, Class}
use Rattle.et_program.proofs.PlaceLemmas.{class_found_within}
use Rattle.et_state.specs.State.{Kept}
use Rattle.et_heap.specs.Objects.{new_object}
use Rattle.et_state.specs.declared.class_state.ClassState.TheVariants.{Untouched}
use Rattle.et_state.specs.Words.{static_at, class_state_at}
use Rattle.et_event.specs.declared.errors.GuestError.TheVariants.{IncompatibleClassChangeError, InstantiationError, NoSuchFieldError}
use Rattle.et_event.specs.Checks.{entries_of, with_int}
use Rattle.et_event.specs.Heap.{leaving_values, with_class, resolved_class, new_array_of, is_out, is_static_at, field_fits, may_be_made, get_static, put_static, new_instance, new_array, new_reference_array}
use Rattle.et_event.specs.Initialization.{state_of}
use Rattle.et_event.specs.Kinds.{kind_of_field, or_zero, narrowed, is_array_element}
use Rattle.et_event.specs.Operands.{operand_kind}
use Rattle.et_event.specs.Moments.{Moment, Doing, current_frame, begins, next_object, instance_made, static_written, ill_typed}
use Rattle.et_event.specs.Sites.{Site, site_member, class_operand, natural_of}
use Rattle.et_event.specs.Sound.{is_of_kind, IsSoundObject}
use Rattle.et_history.specs.soundness.Outcomes.{KeepsSound}
use Rattle.et_event.specs.Programs.{MakesSound, HasSlots, HasInitializers, IsArrayClass}
use Rattle.et_history.specs.soundness.WellFormed.{IsWellFormed, IsUnderWayAt, StandsAt}
use Rattle.et_base.proofs.Positions.{Passes, position_passes}
use Rattle.et_history.proofs.soundness.Fields.{ok_is, going, operands_there, leaving_well, field_resolved, field_named, field_typed, kind_of_one}
use Rattle.et_history.proofs.soundness.Initializing.{initialized_sound}
use Rattle.et_history.proofs.soundness.Outcomes.{instance_well, ends_sound, unless_ill_typed, unless_thrown, where_resolved}
use Rattle.et_history.proofs.soundness.Slots.{static_well}
use Rattle.et_history.proofs.soundness.Steps.{class_named as class_operand_named, new_array_sound}
use Rattle.et_history.proofs.soundness.Taken.{taken_int, taken_value}
use Rattle.et_event.proofs.Values.{narrowed_kind, read_width}

-- STATIC FIELDS

-- what a static slot holds is of the type of its field
static_value : (p : Linked) (s : Kept) (f : ℕ) → HasSlots p → IsWellFormed p s → f < length p.fields → is_static_at p f ≡ true → is_of_kind (operand_kind (field_at p f).descriptor) (static_at s.guest (field_at p f).slot) ≡ true
static_value p s f slots h lt static =
    let at = slots.statics f lt static in
    subst (λ (k : ℕ). is_of_kind (operand_kind (field_at p k).descriptor) (static_at s.guest (field_at p f).slot) ≡ true) at.1 (h.statics.1 (field_at p f).slot at.0).value

pub get_static_sound : (e : Moment) (at : Site) → StandsAt e at → MakesSound e.program → HasSlots e.program → HasInitializers e.program → KeepsSound e.program (get_static e at)
get_static_sound e at here makes slots initializers =
    let p : Linked = e.program in
    let g : IsUnderWayAt e (begins e) = going e at here in
    let ops : List Value = (current_frame e).operands in
    field_named p e (site_member at) _ (λ m.
    unless_ill_typed p e (field_fits e ops m) _ (λ room.
    field_resolved e at (begins e) m _ makes g (λ f is.
    unless_thrown e (begins e) IncompatibleClassChangeError (is_static_at p f) _ makes g (λ static.
    initialized_sound e (begins e) (field_at p f).class _ here.sound here.clock initializers makes (slots.owners f is.within) g (λ d now further touched.
    let v : Value = static_at d.state.guest (field_at p f).slot in
    let kind : is_of_kind (operand_kind m.descriptor) v ≡ true = subst (λ (type : List ℕ). is_of_kind (operand_kind type) v ≡ true) is.descriptor (static_value p d.state f slots further.well is.within static) in
    let wide : length (entries_of (or_zero (operand_kind m.descriptor) v)) ≤ width_of m.descriptor = read_width m.descriptor v kind in
    let sum : width_of m.descriptor + length ops ≤ (current_frame e).room = leb-true (width_of m.descriptor + length ops) (current_frame e).room room in
    ends_sound p (leaving_values e at (entries_of (or_zero (operand_kind m.descriptor) v) ++ ops) d)
    (leaving_well e at (entries_of (or_zero (operand_kind m.descriptor) v) ++ ops) d here (omega (arith, length-append (entries_of (or_zero (operand_kind m.descriptor) v)) ops)) further.well further.threads))))))

pub put_static_sound : (e : Moment) (at : Site) → StandsAt e at → MakesSound e.program → HasSlots e.program → HasInitializers e.program → KeepsSound e.program (put_static e at)
put_static_sound e at here makes slots initializers =
    let p : Linked = e.program in
    let g : IsUnderWayAt e (begins e) = going e at here in
    field_typed p e (site_member at) _ (λ m typed.
    taken_value (KeepsSound p) (ill_typed e) e.before.heap (current_frame e).room (kind_of_field m.descriptor) (current_frame e).operands _ tt (operands_there e at here) (λ v below is_kind ops few.
    field_resolved e at (begins e) m _ makes g (λ f is.
    unless_thrown e (begins e) IncompatibleClassChangeError (is_static_at p f) _ makes g (λ static.
    unless_thrown e (begins e) NoSuchFieldError (not (is_out p f)) _ makes g (λ open_field.
    initialized_sound e (begins e) (field_at p f).class _ here.sound here.clock initializers makes (slots.owners f is.within) g (λ d now further touched.
    let x : Doing = leaving_values e at below d in
    let i : ℕ = (field_at p f).slot in
    let w : Value = narrowed m.descriptor v in
    let well : IsWellFormed p x.state = leaving_well e at below d here ops.few further.well further.threads in
    let place = slots.statics f is.within static in
    let kind : is_of_kind (operand_kind (field_at p f).descriptor) w ≡ true =
    subst (λ (type : List ℕ). is_of_kind (operand_kind type) w ≡ true) (sym is.descriptor) (narrowed_kind (operand_kind m.descriptor) m.descriptor v (kind_of_one p m.descriptor v (is_field_descriptor m.descriptor) is_kind typed)) in
    ends_sound p (static_written e i w x)
    (static_well p e i w x well place.0 (subst (λ (k : ℕ). is_of_kind (operand_kind (field_at p k).descriptor) w ≡ true) (sym place.1) kind) (class_touched e d f touched place.1))))))))
  where
    class_touched : (q : Moment) (y : Doing) (f : ℕ) → (state_of y (field_at q.program f).class ≡ Untouched → ⊥) → slice_index_or q.program.statics (field_at q.program f).slot 0 ≡ f → class_state_at y.state.guest (field_at q.program (slice_index_or q.program.statics (field_at q.program f).slot 0)).class ≡ Untouched → ⊥
    class_touched q y f touched same = subst (λ (k : ℕ). class_state_at y.state.guest (field_at q.program k).class ≡ Untouched → ⊥) (sym same) touched

-- INSTANCES AND ARRAYS

pub class_within : (p : Linked) (name : List ℕ) (class : ℕ) → resolve_class p name ≡ Ok class → class < length p.classes
class_within p name class e = ok_is (λ c. c < length p.classes) (class_named p name) NoClassDefFound class (class_found_within p name (class_named p name) refl) e

pub new_sound : (e : Moment) (at : Site) → StandsAt e at → MakesSound e.program → HasSlots e.program → HasInitializers e.program → KeepsSound e.program (new_instance e at)
new_sound e at here makes slots initializers =
    let p : Linked = e.program in
    let g : IsUnderWayAt e (begins e) = going e at here in
    let ops : List Value = (current_frame e).operands in
    class_operand_named p e (class_operand at) _ (λ name.
    unless_ill_typed p e (nat_le (1 + length ops) (current_frame e).room) _ (λ room.
    where_resolved e (begins e) (resolve_class p name) _ makes g (λ class found.
    unless_thrown e (begins e) InstantiationError (may_be_made p class) _ makes g (λ may.
    let lt : class < length p.classes = class_within p name class found in
    initialized_sound e (begins e) class _ here.sound here.clock initializers makes lt g (λ d now further touched.
    let few : 1 + length ops ≤ (current_frame e).room = leb-true (1 + length ops) (current_frame e).room room in
    let x : Doing = instance_made e class d in
    ends_sound p (leaving_values e at (Ref (next_object d) ∷ ops) x)
    (leaving_well e at (Ref (next_object d) ∷ ops) x here (omega (arith, few)) (instance_well e class d (slots.instances class lt (slots.made class lt may)) further.well) further.threads))))))

-- an array of a base type over which the program has arrays

pub base_is_array : (kind : ℕ) (e : Element) → is_base_array kind e ≡ true → is_array_element e ≡ true
base_is_array kind NoArray h = h
base_is_array kind (Base k) h = refl
base_is_array kind (Class c) h = refl

base_array_is : (p : Linked) (kind c : ℕ) → base_array p kind ≡ Some c → IsArrayClass p c
base_array_is p kind c e = by (base_array p kind) (position_passes (λ (x : ClassEntry). is_base_array kind x.info.element) no_class 0 p.classes) e
  where
    same : (x : ℕ) → Some x ≡ Some c → x ≡ c
    same x q = cc

    by : (o : Option ℕ) → IfSome o (Passes (λ (x : ClassEntry). is_base_array kind x.info.element) no_class 0 p.classes) → o ≡ Some c → IsArrayClass p c
    by None h q = absurd (nothing q)
      where
        nothing : None ≡ Some c → ⊥
        nothing z = cc
    by (Some x) h q =
        let at : h.place ≡ c = omega (arith, h.is, same x q) in
        record {
          within = subst (λ (k : ℕ). k < length p.classes) at h.within;
          array = base_is_array kind (class_at p c).info.element (subst (λ (k : ℕ). is_base_array kind (class_at p k).info.element ≡ true) at h.passes);
        }

pub new_array_keeps : (e : Moment) (at : Site) (c : ℕ) → StandsAt e at → MakesSound e.program → HasSlots e.program → base_array e.program (natural_of at.instr.first) ≡ Some c → KeepsSound e.program (new_array e at)
new_array_keeps e at c here makes slots is =
    let p : Linked = e.program in
    let class : ℕ = unwrap_or (base_array p (natural_of at.instr.first)) 0 in
    let same : class ≡ c = ap (λ (o : Option ℕ). unwrap_or o 0) is in
    let array : IsArrayClass p c = base_array_is p (natural_of at.instr.first) c is in
    taken_int (KeepsSound p) (ill_typed e) tt e.before.heap (current_frame e).room (current_frame e).operands _ (operands_there e at here) (λ n below ops few.
    new_array_sound e at class n below here makes (λ k. subst (λ (j : ℕ). IsSoundObject p (new_object j k k)) (sym same) (slots.arrays c k array.within array.array)) few)

-- .. and of the class that an instruction names, over which the program has them
pub new_reference_array_keeps : (e : Moment) (at : Site) → StandsAt e at → MakesSound e.program → HasSlots e.program → ((name : List ℕ) (class : ℕ) → class_operand at ≡ Some name → resolve_class e.program name ≡ Ok class → IsArrayClass e.program (unwrap_or (class_at e.program class).array 0))
    → KeepsSound e.program (new_reference_array e at)
new_reference_array_keeps e at here makes slots arrays = by (class_operand at) refl
  where
    by : (o : Option (List ℕ)) → class_operand at ≡ o → KeepsSound e.program (with_class e o (λ name. with_int (ill_typed e) (current_frame e).operands (λ elements below. resolved_class e (begins e) name (λ class. new_array_of e at (unwrap_or (class_at e.program class).array 0) elements below))))
    by None q = tt
    by (Some name) q =
        taken_int (KeepsSound e.program) (ill_typed e) tt e.before.heap (current_frame e).room (current_frame e).operands _ (operands_there e at here) (λ n below ops few.
        where_resolved e (begins e) (resolve_class e.program name) _ makes (going e at here) (λ class found.
        let array : IsArrayClass e.program (unwrap_or (class_at e.program class).array 0) = arrays name class q found in
        new_array_sound e at (unwrap_or (class_at e.program class).array 0) n below here makes (λ k. slots.arrays (unwrap_or (class_at e.program class).array 0) k array.within array.array) few))
