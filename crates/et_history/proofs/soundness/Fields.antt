-- The instructions on fields, arrays and classes that initialize no class leave a sound state.
use Rattle.std.proofs.Common.{◌≡◌, ℕ, ◌+◌, ◌<◌, ◌≤◌, ◌&&◌, ◌==◌, Bool, true, false, not, List, [], ◌∷◌, ◌++◌, length, get_or, Option, Some, None, IfSome, Ok, refl, sym, subst, arith}
use Rattle.std.specs.Prelude.{ℤ, if◌then◌else◌, slice_index_or}
use Rattle.std.specs.Option.{ok_or}
use Rattle.std.specs.Str.{bytes_eq}
use Rattle.std.proofs.lemmas.Bool.{and_parts, leb-true, not-true}
use Rattle.std.proofs.lemmas.List.{length-append}
use Rattle.std.proofs.lemmas.List.Elements.{Contains-append_left, Contains-append_right}
use Rattle.std.proofs.lemmas.Slice.Eq.{bytes_eq-Decides}
use Rattle.et_base.proofs.Positions.{Passes, position_passes}
use Rattle.et_base.specs.declared.value.Value.{Value}
use Rattle.et_base.specs.declared.value.Value.TheVariants.{Unset}
use Rattle.et_base.proofs.Options.{either_holds}
use Rattle.et_class.specs.Descriptors.{width_of, is_field_descriptor}
use Rattle.et_class.specs.Names.{has}
use Rattle.et_class.specs.declared.flags.TheConstants.{STATIC}
use Rattle.et_program.specs.Entries.{Linked, no_field, class_at, field_at}
use Rattle.et_program.specs.Members.{is_subclass, is_field, field_in, first_in}
use Rattle.et_program.specs.Resolution.{resolve_class, resolve_field}
use Rattle.et_program.specs.declared.errors.LinkError.{LinkError}
use Rattle.et_program.specs.declared.info.FieldInfo.{FieldInfo}
use Rattle.et_heap.specs.Objects.{ObjectState, at, found, object_at, slot_of}
use Rattle.et_heap.specs.Refs.{refs_of}
use Rattle.et_state.specs.Threads.{FrameState, ThreadState, no_thread, top_of}
use Rattle.et_state.specs.State.{Kept}
use Rattle.et_state.specs.Words.{HasFrame}
use Rattle.et_state.proofs.Places.{top_root}
use Rattle.et_state.specs.Outcome.{Outcome}
use Rattle.et_event.specs.declared.errors.GuestError.TheVariants.{ArrayIndexOutOfBoundsException, ArrayStoreException, IncompatibleClassChangeError}
use Rattle.et_event.specs.declared.rows.Elements.{Elements}
use Rattle.et_event.specs.PoolOperands.Operand.{Operand}
use Rattle.et_event.specs.Checks.{Reference, entries_of}
use Rattle.et_event.specs.Heap.{leaving_values, is_static_at, resolved_field, with_field, field_fits, with_holder, get_field, put_field, element_of_array, length_of, with_element, load_element, passes_element, store_element}
use Rattle.et_event.specs.Kinds.{kind_of_field, or_zero, narrowed, kind_of_elements, are_elements, kept_element, in_bounds}
use Rattle.et_event.specs.Operands.{operand_kind}
use Rattle.et_event.specs.Moments.{Moment, Doing, current_frame, begins, object_class, ill_typed, goes, slot_written}
use Rattle.et_event.specs.Sites.{Site, Member, site_member, natural_of}
use Rattle.et_event.specs.Sound.{is_of_kind}
use Rattle.et_history.specs.soundness.Outcomes.{KeepsSound}
use Rattle.et_event.specs.Programs.{MakesSound, HasInstanceField, HasSlots}
use Rattle.et_history.specs.soundness.WellFormed.{IsWellFormed, IsUnderWayAt, KeepsFrame, StandsAt}
use Rattle.et_history.proofs.soundness.Frames.{top_well}
use Rattle.et_history.proofs.soundness.Outcomes.{begins_well, goes_sound, unless_ill_typed, unless_thrown, where_resolved, where_not_null}
use Rattle.et_history.proofs.soundness.Slots.{slot_well, slot_fits}
use Rattle.et_history.proofs.soundness.Taken.{AreOperands, taken_int, taken_reference, taken_value}
use Rattle.et_event.proofs.Values.{narrowed_kind, few_entries, read_width}
use Rattle.et_history.proofs.soundness.Values.{field_holds, element_holds}

-- THE PLACE

pub going : (e : Moment) (at : Site) → StandsAt e at → IsUnderWayAt e (begins e)
going e at here = record { well = begins_well e.program e here.sound here.clock; thread = here.frame.thread }

pub operands_there : (e : Moment) (at : Site) → StandsAt e at → AreOperands e.before.heap (current_frame e).room (current_frame e).operands
operands_there e at here =
    let f : FrameState = current_frame e in
    record {
      few = here.operands;
      held = λ o c. here.sound.held.roots o (top_root e.before.guest e.thread o here.frame (Contains-append_right (refs_of f.locals) _ o (Contains-append_left (refs_of f.operands) _ o c)));
    }

-- the instruction is done where the threads are those before the event
pub leaving_well : (e : Moment) (at : Site) (operands : List Value) (d : Doing) → StandsAt e at → length operands ≤ (current_frame e).room → IsWellFormed e.program d.state → d.state.guest.threads ≡ e.before.guest.threads → IsWellFormed e.program (leaving_values e at operands d).state
leaving_well e at operands d here few h same =
    let f : FrameState = record (current_frame e) { pc = at.next; operands = operands } in
    let keeps : KeepsFrame e.program (current_frame e) f = record { same = refl; runs = here.runs; pc = here.next; locals = refl; operands = few } in
    let has : HasFrame d.state.guest e.thread = record {
      thread = subst (λ (ts : List ThreadState). e.thread < length ts) (sym same) here.frame.thread;
      frame = subst (λ (ts : List ThreadState). 0 < length (slice_index_or ts e.thread no_thread).frames) (sym same) here.frame.frame;
    } in
    top_well e.program d.state e.thread f h has (subst (λ (ts : List ThreadState). KeepsFrame e.program (top_of (slice_index_or ts e.thread no_thread)) f) (sym same) keeps)

-- .. and nothing else
pub leaving_sound : (e : Moment) (at : Site) (operands : List Value) → StandsAt e at → length operands ≤ (current_frame e).room → KeepsSound e.program (goes (leaving_values e at operands (begins e)))
leaving_sound e at operands here few = goes_sound e.program (leaving_values e at operands (begins e)) here.sound.fits (leaving_well e at operands (begins e) here few (begins_well e.program e here.sound here.clock) refl)

-- RESOLUTION: what it finds is a field of that descriptor

pub record IsField (p : Linked) (type : List ℕ) (f : ℕ) : Type 0 where
  pub within : f < length p.fields
  pub descriptor : (field_at p f).descriptor ≡ type

described : (f : FieldInfo) (name descriptor : List ℕ) (c : ℕ) → is_field name descriptor c f ≡ true → f.descriptor ≡ descriptor
described f name descriptor c e =
    let rest = (and_parts (f.class == c) (bytes_eq f.name name && bytes_eq f.descriptor descriptor) e).1 in
    let last = (and_parts (bytes_eq f.name name) (bytes_eq f.descriptor descriptor) rest).1 in
    (bytes_eq-Decides f.descriptor descriptor).0 last

found_in : (p : Linked) (name descriptor : List ℕ) (c : ℕ) (o : Option ℕ) → IfSome o (Passes (is_field name descriptor c) no_field 0 p.fields) → IfSome o (IsField p descriptor)
found_in p name descriptor c None h = tt
found_in p name descriptor c (Some f) h =
    let same : h.place ≡ f = omega (arith, h.is) in
    record {
      within = omega (arith, h.within, h.is);
      descriptor = described (field_at p f) name descriptor c (subst (λ (k : ℕ). is_field name descriptor c (get_or p.fields k no_field) ≡ true) same h.passes);
    }

pub first_found : (P : ℕ → Type 0) (member : ℕ → Option ℕ) → ((c : ℕ) → IfSome (member c) P) → (cs : List ℕ) → IfSome (first_in member cs) P
first_found P member h [] = tt
first_found P member h (c ∷ cs) = either_holds P (member c) (first_in member cs) (h c) (first_found P member h cs)

pub ok_is : (P : ℕ → Type 0) (o : Option ℕ) (error : LinkError) (f : ℕ) → IfSome o P → ok_or o error ≡ Ok f → P f
ok_is P None error f h e = absurd (not_ok e)
  where
    not_ok : ok_or None error ≡ Ok f → ⊥
    not_ok q = cc
ok_is P (Some x) error f h e = subst P (same e) h
  where
    same : ok_or (Some x) error ≡ Ok f → x ≡ f
    same q = cc

pub field_found : (p : Linked) (owner : ℕ) (name descriptor : List ℕ) (f : ℕ) → resolve_field p owner name descriptor ≡ Ok f → IsField p descriptor f
field_found p owner name descriptor f e =
    ok_is (IsField p descriptor) (first_in (field_in p name descriptor) (class_at p owner).field_order) _ f
    (first_found (IsField p descriptor) (field_in p name descriptor) (λ c. found_in p name descriptor c (field_in p name descriptor c) (position_passes (is_field name descriptor c) no_field 0 p.fields)) (class_at p owner).field_order) e

pub field_resolved : (e : Moment) (at : Site) (d : Doing) (m : Member) (go : ℕ → Outcome Kept) → MakesSound e.program → IsUnderWayAt e d → ((f : ℕ) → IsField e.program m.descriptor f → KeepsSound e.program (go f)) → KeepsSound e.program (resolved_field e d m go)
field_resolved e at d m go makes g h =
    where_resolved e d (resolve_class e.program m.owner) _ makes g
    (λ owner found. where_resolved e d (resolve_field e.program owner m.name m.descriptor) go makes g (λ f is. h f (field_found e.program owner m.name m.descriptor f is)))

pub field_named : (p : Linked) (e : Moment) (o : Option Member) (go : Member → Outcome Kept) → ((m : Member) → KeepsSound p (go m)) → KeepsSound p (with_field e o go)
field_named p e None go h = tt
field_named p e (Some m) go h = unless_ill_typed p e (is_field_descriptor m.descriptor) (go m) (λ b. h m)

pub holder_named : (e : Moment) (d : Doing) (f : ℕ) (r : Reference) (go : ℕ → Outcome Kept) → MakesSound e.program → IsUnderWayAt e d → ((o : ℕ) → r ≡ Some o → is_subclass e.program (object_class d o) (field_at e.program f).class ≡ true → KeepsSound e.program (go o)) → KeepsSound e.program (with_holder e d f r go)
holder_named e d f r go makes g h =
    where_not_null e d r _ makes g (λ o is. unless_ill_typed e.program e (is_subclass e.program (object_class d o) (field_at e.program f).class) (go o) (λ below. h o is below))

-- WHAT IS READ

-- a slot that no object has counts as one to which nothing was written
read_by : (p : Linked) (k : Option Operand) (i : ℕ) (x : Option ObjectState) → ((y : ObjectState) → x ≡ Some y → is_of_kind k (slot_of y i) ≡ true) → is_of_kind k (slot_of (found x) i) ≡ true
read_by p k i None h = unset k
  where
    unset : (q : Option Operand) → is_of_kind q Unset ≡ true
    unset None = refl
    unset (Some o) = refl
read_by p k i (Some y) h = h y refl

pub field_value : (p : Linked) (s : Kept) (o f : ℕ) → IsWellFormed p s → f < length p.fields → has (field_at p f).flags STATIC ≡ false → is_subclass p (object_at s.heap o).class (field_at p f).class ≡ true
    → is_of_kind (operand_kind (field_at p f).descriptor) (slot_of (object_at s.heap o) (field_at p f).slot) ≡ true
field_value p s o f h lt static below =
    read_by p (operand_kind (field_at p f).descriptor) (field_at p f).slot (at s.heap o)
    (λ y e. ((h.objects o y e).0.fields f lt static (subst (λ (x : Option ObjectState). is_subclass p (found x).class (field_at p f).class ≡ true) e below)).value)

-- GETFIELD
pub get_field_sound : (e : Moment) (at : Site) → StandsAt e at → MakesSound e.program → KeepsSound e.program (get_field e at)
get_field_sound e at here makes =
    let p : Linked = e.program in
    let g : IsUnderWayAt e (begins e) = going e at here in
    field_named p e (site_member at) _ (λ m.
    taken_reference (KeepsSound p) (ill_typed e) tt e.before.heap (current_frame e).room (current_frame e).operands _ (operands_there e at here) (λ r below held ops few.
    unless_ill_typed p e (field_fits e below m) _ (λ room.
    field_resolved e at (begins e) m _ makes g (λ f is.
    unless_thrown e (begins e) IncompatibleClassChangeError (not (is_static_at p f)) _ makes g (λ instance.
    holder_named e (begins e) f r _ makes g (λ o named below_it.
    let v : Value = slot_of (object_at e.before.heap o) (field_at p f).slot in
    let kind : is_of_kind (operand_kind m.descriptor) v ≡ true =
    subst (λ (type : List ℕ). is_of_kind (operand_kind type) v ≡ true) is.descriptor (field_value p (begins e).state o f g.well is.within (not-true (is_static_at p f) instance) below_it) in
    let wide : length (entries_of (or_zero (operand_kind m.descriptor) v)) ≤ width_of m.descriptor = read_width m.descriptor v kind in
    let sum : width_of m.descriptor + length below ≤ (current_frame e).room = leb-true (width_of m.descriptor + length below) (current_frame e).room room in
    leaving_sound e at (entries_of (or_zero (operand_kind m.descriptor) v) ++ below) here (omega (arith, length-append (entries_of (or_zero (operand_kind m.descriptor) v)) below))))))))

-- PUTFIELD

pub kind_of_one : (p : Linked) (descriptor : List ℕ) (v : Value) (b : Bool) → is_of_kind (if b then operand_kind descriptor else None) v ≡ true → b ≡ true → is_of_kind (operand_kind descriptor) v ≡ true
kind_of_one p descriptor v true h e = h
kind_of_one p descriptor v false h e = cc

pub field_typed : (p : Linked) (e : Moment) (o : Option Member) (go : Member → Outcome Kept) → ((m : Member) → is_field_descriptor m.descriptor ≡ true → KeepsSound p (go m)) → KeepsSound p (with_field e o go)
field_typed p e None go h = tt
field_typed p e (Some m) go h = unless_ill_typed p e (is_field_descriptor m.descriptor) (go m) (λ b. h m b)

pub put_field_sound : (e : Moment) (at : Site) → StandsAt e at → MakesSound e.program → HasSlots e.program → KeepsSound e.program (put_field e at)
put_field_sound e at here makes slots =
    let p : Linked = e.program in
    let g : IsUnderWayAt e (begins e) = going e at here in
    field_typed p e (site_member at) _ (λ m typed.
    taken_value (KeepsSound p) (ill_typed e) e.before.heap (current_frame e).room (kind_of_field m.descriptor) (current_frame e).operands _ tt (operands_there e at here) (λ v more kind most few.
    taken_reference (KeepsSound p) (ill_typed e) tt e.before.heap (current_frame e).room more _ most (λ r below held ops fewer.
    field_resolved e at (begins e) m _ makes g (λ f is.
    unless_thrown e (begins e) IncompatibleClassChangeError (not (is_static_at p f)) _ makes g (λ instance.
    holder_named e (begins e) f r _ makes g (λ o named below_it.
    let d : Doing = leaving_values e at below (begins e) in
    let well : IsWellFormed p d.state = leaving_well e at below (begins e) here ops.few g.well refl in
    let own : HasInstanceField p (object_at e.before.heap o).class f = record { within = is.within; instance = not-true (is_static_at p f) instance; below = below_it } in
    let kept : is_of_kind (operand_kind (field_at p f).descriptor) (narrowed m.descriptor v) ≡ true =
    subst (λ (type : List ℕ). is_of_kind (operand_kind type) (narrowed m.descriptor v) ≡ true) (sym is.descriptor) (narrowed_kind (operand_kind m.descriptor) m.descriptor v (kind_of_one p m.descriptor v (is_field_descriptor m.descriptor) kind typed)) in
    goes_sound p (slot_written e o (field_at p f).slot (narrowed m.descriptor v) d) (slot_fits e o (field_at p f).slot (narrowed m.descriptor v) d (held o named) here.sound.fits)
    (slot_well p e o (field_at p f).slot (narrowed m.descriptor v) d well (held o named) (field_holds p (object_at e.before.heap o).class f (narrowed m.descriptor v) slots own kept))))))))

-- ELEMENTS

pub element_named : (e : Moment) (at : Site) (kind : Elements) (r : Reference) (i : ℤ) (go : ℕ → Outcome Kept) → MakesSound e.program → IsUnderWayAt e (begins e) → ((o : ℕ) → r ≡ Some o → are_elements kind (element_of_array e o) ≡ true → KeepsSound e.program (go o)) → KeepsSound e.program (with_element e kind r i go)
element_named e at kind r i go makes g h =
    where_not_null e (begins e) r _ makes g (λ o is.
    unless_ill_typed e.program e (are_elements kind (element_of_array e o)) _ (λ are.
    unless_thrown e (begins e) ArrayIndexOutOfBoundsException (in_bounds i (length_of e o)) (go o) makes g (λ inside. h o is are)))

pub load_element_sound : (e : Moment) (at : Site) (kind : Elements) → StandsAt e at → MakesSound e.program → KeepsSound e.program (load_element e at kind)
load_element_sound e at kind here makes =
    let p : Linked = e.program in
    let g : IsUnderWayAt e (begins e) = going e at here in
    taken_int (KeepsSound p) (ill_typed e) tt e.before.heap (current_frame e).room (current_frame e).operands _ (operands_there e at here) (λ i more most few.
    taken_reference (KeepsSound p) (ill_typed e) tt e.before.heap (length more) more _ (record { few = omega arith; held = most.held }) (λ r below held ops fewer.
    element_named e at kind r i _ makes g (λ o named are.
    let v : Value = or_zero (Some (kind_of_elements kind)) (slot_of (object_at e.before.heap o) (natural_of i)) in
    let wide : length (entries_of v) ≤ 2 = few_entries v in
    leaving_sound e at (entries_of v ++ below) here (omega (arith, length-append (entries_of v) below, few, fewer, wide)))))

pub store_element_sound : (e : Moment) (at : Site) (kind : Elements) → StandsAt e at → MakesSound e.program → HasSlots e.program → KeepsSound e.program (store_element e at kind)
store_element_sound e at kind here makes slots =
    let p : Linked = e.program in
    let g : IsUnderWayAt e (begins e) = going e at here in
    taken_value (KeepsSound p) (ill_typed e) e.before.heap (current_frame e).room (Some (kind_of_elements kind)) (current_frame e).operands _ tt (operands_there e at here) (λ v most is_kind all few.
    taken_int (KeepsSound p) (ill_typed e) tt e.before.heap (current_frame e).room most _ all (λ i more some fewer.
    taken_reference (KeepsSound p) (ill_typed e) tt e.before.heap (current_frame e).room more _ some (λ r below held ops fewest.
    element_named e at kind r i _ makes g (λ o named are.
    unless_thrown e (begins e) ArrayStoreException (passes_element e v (element_of_array e o)) _ makes g (λ passes.
    let d : Doing = leaving_values e at below (begins e) in
    let well : IsWellFormed p d.state = leaving_well e at below (begins e) here ops.few g.well refl in
    goes_sound p (slot_written e o (natural_of i) (kept_element kind v) d) (slot_fits e o (natural_of i) (kept_element kind v) d (held o named) here.sound.fits)
    (slot_well p e o (natural_of i) (kept_element kind v) d well (held o named) (element_holds p kind (object_at e.before.heap o).class (natural_of i) v slots are is_kind)))))))
