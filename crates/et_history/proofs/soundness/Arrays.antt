-- The arrays of several dimensions (JVMS 6.5 multianewarray), and the others that instructions make.
use Rattle.std.proofs.Common.{◌≡◌, ℕ, zero, suc, ◌+◌, ◌-◌, ◌≤◌, List, [], ◌∷◌, ◌++◌, length, Option, Some, None, Ok, refl, sym, ◌∙◌, ap, subst, inl, inr, arith, get_or-set_same}
use Rattle.std.specs.Prelude.{ℤ, pos, int_le, IsSome}
use Rattle.std.specs.List.{list_all}
use Rattle.std.proofs.lemmas.Bool.{cases_eq}
use Rattle.std.proofs.lemmas.List.{get_or-set_other, get_or_append_left}
use Rattle.et_event.proofs.Deferrals.{none_deferred}
use Rattle.et_base.specs.declared.value.Value.{Value}
use Rattle.et_base.specs.declared.value.Value.TheVariants.{Ref}
use Rattle.et_class.specs.Looks.{class_name_at}
use Rattle.et_code.specs.declared.instr.Instr.{Instr}
use Rattle.et_heap.specs.Objects.{ObjectState, Objects, IsHeld, is_there, at, found, object_at, with_object_at, slot_of, with_slot, new_object}
use Rattle.et_heap.proofs.HeapLists.{held_within}
use Rattle.et_program.specs.Entries.{Linked, class_at}
use Rattle.et_program.specs.Members.{base_array}
use Rattle.et_program.specs.Resolution.{resolve_class}
use Rattle.et_program.specs.declared.info.Element.{Element}
use Rattle.et_program.specs.declared.info.Element.TheVariants.{Class}
use Rattle.et_program.specs.declared.info.MethodInfo.{MethodInfo}
use Rattle.et_state.specs.State.{Kept}
use Rattle.et_event.specs.declared.rows.HeapRow.TheVariants.{NewArray, NewReferenceArray, NewMultiArray}
use Rattle.et_event.specs.declared.rows.Row.TheVariants.{Heap}
use Rattle.et_event.specs.declared.errors.GuestError.TheVariants.{NegativeArraySizeException}
use Rattle.et_event.specs.Checks.{throws_unless}
use Rattle.et_event.specs.Heap.{leaving_values, with_class, with_lengths, element_class, filled, arrays_made, naturals, resolved_class, new_array, new_reference_array, new_multi_array}
use Rattle.et_event.specs.Moments.{Moment, Doing, current_frame, begins, object_class, next_object, array_made, slot_written, ill_typed, ends_event}
use Rattle.et_event.specs.Sites.{Site, class_operand, site_of, pool_of_class, decoded_at, natural_of}
use Rattle.et_event.specs.Sound.{is_of_kind, kind_of_element}
use Rattle.et_event.specs.Table.{row_of}
use Rattle.et_history.specs.soundness.Outcomes.{KeepsSound}
use Rattle.et_event.specs.Programs.{HasSlots, IsArrayClass, NamesClass, HasDimensions, MayHold}
use Rattle.et_history.specs.soundness.WellFormed.{IsWellFormed, IsUnderWayAt, StandsAt}
use Rattle.et_history.proofs.soundness.Classes.{new_array_keeps, new_reference_array_keeps}
use Rattle.et_history.proofs.soundness.Fields.{going, operands_there, leaving_well}
use Rattle.et_history.proofs.soundness.Objects.{heap_now}
use Rattle.et_history.proofs.soundness.Outcomes.{array_well, ends_sound, unless_thrown, where_resolved}
use Rattle.et_event.proofs.Values.{updated_state}
use Rattle.et_history.proofs.soundness.Slots.{slot_well}
use Rattle.et_history.proofs.soundness.Taken.{AreOperands, taken_int}
use Rattle.et_history.proofs.soundness.Values.{array_holds}
use Rattle.et_history.specs.soundness.Places.{IsAtRow}
use Rattle.et_event.specs.Runnable.{IsRunnable}
use Rattle.et_history.proofs.soundness.Entering.{runs_here, StandsIn, stands_in}
use Rattle.et_history.proofs.soundness.Steps.{IsLast, last_one}

-- MORE OBJECTS: those that were held are held, of the same classes

record IsMore (p : Linked) (d x : Doing) : Type 0 where
  well : IsWellFormed p x.state
  threads : x.state.guest.threads ≡ d.state.guest.threads
  held : (o : ℕ) → IsHeld d.state.heap o → IsHeld x.state.heap o
  class : (o : ℕ) → IsHeld d.state.heap o → object_class x o ≡ object_class d o

more_itself : (p : Linked) (d : Doing) → IsWellFormed p d.state → IsMore p d d
more_itself p d h = record { well = h; threads = refl; held = λ o there. there; class = λ o there. refl }

more_then : (p : Linked) (d x y : Doing) → IsMore p d x → IsMore p x y → IsMore p d y
more_then p d x y a b = record {
  well = b.well;
  threads = b.threads ∙ a.threads;
  held = λ o there. b.held o (a.held o there);
  class = λ o there. b.class o (a.held o there) ∙ a.class o there;
}

-- an array is made

made_more : (e : Moment) (class n : ℕ) (d : Doing) → HasSlots e.program → IsArrayClass e.program class → IsWellFormed e.program d.state → IsMore e.program d (array_made e class n d)
made_more e class n d slots array h =
    let old : (o : ℕ) → IsHeld d.state.heap o → at (d.state.heap ++ Some (new_object class n n) ∷ []) o ≡ at d.state.heap o =
    λ o there. get_or_append_left d.state.heap (Some (new_object class n n) ∷ []) None o (held_within d.state.heap o there) in
    record {
      well = array_well e class n d (slots.arrays class n array.within array.array) h;
      threads = refl;
      held = λ o there. subst (λ (x : Option ObjectState). is_there x) (sym (old o there)) there;
      class = λ o there. ap (λ (x : Option ObjectState). (found x).class) (old o there);
    }

-- an element is written

record IsStill (heap heap' : Objects) (q : ℕ) : Type 0 where
  held : IsHeld heap' q
  class : (object_at heap' q).class ≡ (object_at heap q).class

set_still : (heap : Objects) (o q : ℕ) (y : ObjectState) → IsHeld heap o → y.class ≡ (object_at heap o).class → IsHeld heap q → IsStill heap (with_object_at heap o y) q
set_still heap o q y held same there =
    elim (cases_eq q o) [
      | inl e ↦
          let now : at (with_object_at heap o y) o ≡ Some y = get_or-set_same heap o (Some y) None (held_within heap o held) in
          subst (λ (k : ℕ). IsStill heap (with_object_at heap o y) k) (sym e)
          (record { held = subst (λ (x : Option ObjectState). is_there x) (sym now) tt; class = ap (λ (x : Option ObjectState). (found x).class) now ∙ same })
      | inr ne ↦
          let other : at (with_object_at heap o y) q ≡ at heap q = get_or-set_other heap o q (Some y) None ne in
          record { held = subst (λ (x : Option ObjectState). is_there x) (sym other) there; class = ap (λ (x : Option ObjectState). (found x).class) other }
    ]

written_more : (e : Moment) (o i : ℕ) (v : Value) (d : Doing) → IsWellFormed e.program d.state → IsHeld d.state.heap o → MayHold e.program (object_class d o) i v → IsMore e.program d (slot_written e o i v d)
written_more e o i v d h held may =
    let x : ObjectState = object_at d.state.heap o in
    let next : Doing = record { state = heap_now d.state (with_object_at d.state.heap o (with_slot i v x)); records = d.records } in
    let same : next.state ≡ (slot_written e o i v d).state = sym (updated_state e o i (slot_of x i) v next) in
    record {
      well = slot_well e.program e o i v d h held may;
      threads = sym (ap (λ (s : Kept). s.guest.threads) same);
      held = λ q there. subst (λ (s : Kept). IsHeld s.heap q) same (set_still d.state.heap o q (with_slot i v x) held refl there).held;
      class = λ q there. subst (λ (s : Kept). (object_at s.heap q).class ≡ object_class d q) same (set_still d.state.heap o q (with_slot i v x) held refl there).class;
    }

-- the elements of an array are made

filled_more : (e : Moment) (o : ℕ) (make : Doing → Doing) (n : ℕ) (d : Doing) → ((x : Doing) → IsWellFormed e.program x.state → IsMore e.program x (make x)) → ((i r : ℕ) → MayHold e.program (object_class d o) i (Ref r)) → IsHeld d.state.heap o → IsWellFormed e.program d.state
    → IsMore e.program d (filled e o make n d)
filled_more e o make zero d makes may held h = more_itself e.program d h
filled_more e o make (suc i) d makes may held h =
    let p : Linked = e.program in
    let x : Doing = filled e o make i d in
    let one : IsMore p d x = filled_more e o make i d makes may held h in
    let two : IsMore p d (make x) = more_then p d x (make x) one (makes x one.well) in
    let holds : MayHold p (object_class (make x) o) i (Ref (next_object x)) = subst (λ (c : ℕ). MayHold p c i (Ref (next_object x))) (sym (two.class o held)) (may i (next_object x)) in
    more_then p d (make x) (slot_written e o i (Ref (next_object x)) (make x)) two (written_more e o i (Ref (next_object x)) (make x) two.well (two.held o held) holds)

holds_references : (p : Linked) (c k i r : ℕ) → HasSlots p → IsArrayClass p c → (class_at p c).info.element ≡ Class k → MayHold p c i (Ref r)
holds_references p c k i r slots array element = array_holds p c i (Ref r) slots array.array (ap (λ (x : Element). is_of_kind (kind_of_element x) (Ref r)) element)

arrays_more : (e : Moment) (class : ℕ) (ns : List ℕ) (d : Doing) → HasSlots e.program → HasDimensions e.program (length ns) class → IsWellFormed e.program d.state → IsMore e.program d (arrays_made e class ns d)
arrays_more e class [] d slots has h = more_itself e.program d h
arrays_more e class (n ∷ []) d slots has h = made_more e class n d slots has h
arrays_more e class (n ∷ m ∷ more) d slots has h =
    let p : Linked = e.program in
    let k : ℕ = has.1.0 in
    let element : (class_at p class).info.element ≡ Class k = has.1.1 in
    let inner : HasDimensions p (length (m ∷ more)) (element_class (class_at p class).info.element) = subst (λ (x : Element). HasDimensions p (length (m ∷ more)) (element_class x)) (sym element) has.1.2 in
    let o : ℕ = next_object d in
    let x : Doing = array_made e class n d in
    let made : IsMore p d x = made_more e class n d slots has.0 h in
    let last : IsLast d.state.heap (new_object class n n) = last_one d.state.heap (new_object class n n) in
    let holds : (i r : ℕ) → MayHold p (object_class x o) i (Ref r) = λ i r. subst (λ (c : ℕ). MayHold p c i (Ref r)) (sym last.class) (holds_references p class k i r slots has.0 element) in
    let make : Doing → Doing = arrays_made e (element_class (class_at p class).info.element) (m ∷ more) in
    more_then p d x (filled e o make n x) made
    (filled_more e o make n x (λ y well. arrays_more e (element_class (class_at p class).info.element) (m ∷ more) y slots inner well) holds last.held made.well)

-- THE LENGTHS that are taken

module _ {A : Type 0} (P : A → Type 0) (refused : A) (ill : P refused) (heap : Objects) where
  pub lengths_taken : (n k : ℕ) (found : List ℤ) (ops : List Value) (go : List ℤ → List Value → A) → AreOperands heap k ops
      → ((lengths : List ℤ) (below : List Value) → length lengths ≡ length found + n → length below + n ≤ k → P (go lengths below)) → P (with_lengths n found refused ops go)
  lengths_taken zero k found ops go a h = h found ops (omega arith) (omega (arith, a.few))
  lengths_taken (suc n) k found ops go a h =
      taken_int P refused ill heap k ops (λ i below. with_lengths n (i ∷ found) refused below go) a (λ i below b few.
      lengths_taken n (k - 1) (i ∷ found) below go (record { few = omega arith; held = b.held }) (λ lengths rest same fewer. h lengths rest (omega arith) (omega arith)))

-- THE INSTRUCTION

pub length-naturals : (ns : List ℤ) → length (naturals ns) ≡ length ns
length-naturals [] = refl
length-naturals (n ∷ ns) = let h : length (naturals ns) ≡ length ns = length-naturals ns in omega arith

pub names_class : (e : Moment) (x : Instr × ℕ) (s : StandsIn e x) (name : List ℕ) (class : ℕ) → class_operand (site_of e.program (current_frame e) x) ≡ Some name → resolve_class e.program name ≡ Ok class → NamesClass e.program s.method x class
names_class e x s name class named resolves =
    record {
      name = name;
      operand = subst (λ (m : MethodInfo). class_name_at (pool_of_class e.program m.class) (natural_of x.0.first) ≡ Some name) s.named named;
      resolves = resolves;
    }

multi_at : (e : Moment) (x : Instr × ℕ) → StandsAt e (site_of e.program (current_frame e) x) → IsRunnable e.program → decoded_at e.program (current_frame e) ≡ Ok x → row_of x.0.opcode ≡ Some (Heap NewMultiArray)
    → KeepsSound e.program (new_multi_array e (site_of e.program (current_frame e) x))
multi_at e x here may decoded row = by (class_operand (site_of e.program (current_frame e) x)) refl
  where
    g : IsUnderWayAt e (begins e)
    g = going e (site_of e.program (current_frame e) x) here

    s : StandsIn e x
    s = stands_in e x (runs_here e (site_of e.program (current_frame e) x) here) decoded

    made : (class : ℕ) (lengths : List ℤ) (below : List Value) → HasDimensions e.program (natural_of x.0.second) class → length lengths ≡ natural_of x.0.second → length below + 1 ≤ (current_frame e).room
        → KeepsSound e.program (ends_event (leaving_values e (site_of e.program (current_frame e) x) (Ref (next_object (begins e)) ∷ below) (arrays_made e class (naturals lengths) (begins e))))
    made class lengths below has many few =
        let count : natural_of x.0.second ≡ length (naturals lengths) = sym (length-naturals lengths ∙ many) in
        let more : IsMore e.program (begins e) (arrays_made e class (naturals lengths) (begins e)) =
        arrays_more e class (naturals lengths) (begins e) may.slots (subst (λ (n : ℕ). HasDimensions e.program n class) count has) g.well in
        let operands : List Value = Ref (next_object (begins e)) ∷ below in
        let few_operands : length operands ≤ (current_frame e).room = omega arith in
        ends_sound e.program (leaving_values e (site_of e.program (current_frame e) x) operands (arrays_made e class (naturals lengths) (begins e)))
        (leaving_well e (site_of e.program (current_frame e) x) operands (arrays_made e class (naturals lengths) (begins e)) here few_operands more.well more.threads)

    by : (o : Option (List ℕ)) → class_operand (site_of e.program (current_frame e) x) ≡ o
        → KeepsSound e.program (with_class e o (λ name. with_lengths (natural_of x.0.second) [] (ill_typed e) (current_frame e).operands (λ lengths below. resolved_class e (begins e) name (λ class.
        throws_unless e (begins e) NegativeArraySizeException (list_all (int_le (pos 0)) lengths)
        (ends_event (leaving_values e (site_of e.program (current_frame e) x) (Ref (next_object (begins e)) ∷ below) (arrays_made e class (naturals lengths) (begins e))))))))
    by None q = tt
    by (Some name) q =
        lengths_taken (KeepsSound e.program) (ill_typed e) tt e.before.heap (natural_of x.0.second) (current_frame e).room [] (current_frame e).operands _ (operands_there e (site_of e.program (current_frame e) x) here) (λ lengths below many few.
        where_resolved e (begins e) (resolve_class e.program name) _ may.makes g (λ class found.
        unless_thrown e (begins e) NegativeArraySizeException (list_all (int_le (pos 0)) lengths) _ may.makes g (λ fine.
        let has = may.arrays.multi s.method x class s.is row (names_class e x s name class q found) in
        made class lengths below has.1 (omega arith) (omega (arith, has.0)))))

pub multi_array_sound : (e : Moment) (at : Site) → IsAtRow e at (Heap NewMultiArray) → IsRunnable e.program → KeepsSound e.program (new_multi_array e at)
multi_array_sound e at here may =
    subst (λ (s : Site). KeepsSound e.program (new_multi_array e s)) (sym here.site) (multi_at e here.decoded (subst (λ (s : Site). StandsAt e s) here.site here.stands) may here.is here.row)

-- ARRAYS of one dimension

array_at : (e : Moment) (x : Instr × ℕ) → StandsAt e (site_of e.program (current_frame e) x) → IsRunnable e.program → decoded_at e.program (current_frame e) ≡ Ok x → row_of x.0.opcode ≡ Some (Heap NewArray)
    → KeepsSound e.program (new_array e (site_of e.program (current_frame e) x))
array_at e x here may decoded row = by (base_array e.program (natural_of x.0.first)) refl (may.arrays.base s.method x s.is row)
  where
    s : StandsIn e x
    s = stands_in e x (runs_here e (site_of e.program (current_frame e) x) here) decoded

    by : (o : Option ℕ) → base_array e.program (natural_of x.0.first) ≡ o → IsSome o → KeepsSound e.program (new_array e (site_of e.program (current_frame e) x))
    by None q some = absurd (none_deferred None refl some)
    by (Some c) q some = new_array_keeps e (site_of e.program (current_frame e) x) c here may.makes may.slots q

pub new_array_sound : (e : Moment) (at : Site) → IsAtRow e at (Heap NewArray) → IsRunnable e.program → KeepsSound e.program (new_array e at)
new_array_sound e at here may =
    subst (λ (s : Site). KeepsSound e.program (new_array e s)) (sym here.site) (array_at e here.decoded (subst (λ (s : Site). StandsAt e s) here.site here.stands) may here.is here.row)

reference_array_at : (e : Moment) (x : Instr × ℕ) → StandsAt e (site_of e.program (current_frame e) x) → IsRunnable e.program → decoded_at e.program (current_frame e) ≡ Ok x → row_of x.0.opcode ≡ Some (Heap NewReferenceArray)
    → KeepsSound e.program (new_reference_array e (site_of e.program (current_frame e) x))
reference_array_at e x here may decoded row =
    let s : StandsIn e x = stands_in e x (runs_here e (site_of e.program (current_frame e) x) here) decoded in
    new_reference_array_keeps e (site_of e.program (current_frame e) x) here may.makes may.slots (λ name class named found. may.arrays.single s.method x class s.is row (names_class e x s name class named found))

pub new_reference_array_sound : (e : Moment) (at : Site) → IsAtRow e at (Heap NewReferenceArray) → IsRunnable e.program → KeepsSound e.program (new_reference_array e at)
new_reference_array_sound e at here may =
    subst (λ (s : Site). KeepsSound e.program (new_reference_array e s)) (sym here.site) (reference_array_at e here.decoded (subst (λ (s : Site). StandsAt e s) here.site here.stands) may here.is here.row)
