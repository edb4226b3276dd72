-- The built-in methods without code.
use Rattle.std.proofs.Common.{◌≡◌, ℕ, ◌+◌, ◌<◌, ◌≤◌, Bool, true, false, List, [], ◌∷◌, ◌++◌, length, drop, Option, Some, None, Contains, refl, sym, ◌∙◌, ap, subst, inr, arith, get_or-set_same}
use Rattle.std.specs.Prelude.{nat_lt, codes, find, if◌then◌else◌, option_map}
use Rattle.std.specs.List.{list_all}
use Rattle.std.specs.Str.{bytes_eq}
use Rattle.std.proofs.lemmas.Bool.{and_parts, ltb-true, false≢true}
use Rattle.std.proofs.lemmas.List.{length-append, length-set}
use Rattle.std.proofs.lemmas.Slice.Eq.{bytes_eq-Decides}
use Rattle.std.proofs.lemmas.Option.{same_Some}
use Rattle.et_base.specs.declared.value.Value.{Value}
use Rattle.et_base.specs.declared.value.Value.TheVariants.{Unset, Int, Long, LongHigh, Null, Ref}
use Rattle.et_class.specs.Descriptors.{MethodType, method_type, types_of, after_dimensions, after_name}
use Rattle.et_class.specs.Names.{has}
use Rattle.et_class.specs.declared.flags.TheConstants.{ABSTRACT}
use Rattle.et_heap.specs.Objects.{ObjectState, IsHeld, object_at, slot_of, with_slot, with_referent, with_object_at, is_there, at, found, referent_of, referent_value}
use Rattle.et_heap.proofs.HeapLists.{held_within}
use Rattle.et_program.specs.Entries.{Linked, field_at}
use Rattle.et_program.specs.Members.{is_subclass}
use Rattle.et_program.specs.declared.info.MethodInfo.{MethodInfo}
use Rattle.et_state.specs.Threads.{FrameState, most_threads, thread_with}
use Rattle.et_state.specs.State.{Kept}
use Rattle.et_state.specs.Outcome.{Outcome}
use Rattle.et_program.specs.BootMethods.BuiltIn.{BuiltIn}
use Rattle.et_event.specs.PoolOperands.Operand.TheVariants as operand
use Rattle.et_program.specs.BootMethods.BuiltIn.TheVariants as built_in
use Rattle.et_event.specs.declared.errors.GuestError.TheVariants.{AbstractMethodError, IllegalThreadStateException, OutOfMemoryError}
use Rattle.et_program.specs.BuiltIns.{built_in_of}
use Rattle.et_program.specs.BootTable.{built_ins, is_called}
use Rattle.et_event.specs.BuiltIns.{entries_answered, argument, answering, reference_in, with_referent_of, starts_thread, with_thread_for, has_thread_ended, is_object_of_class, built_in_row, done_by, built_in_event, with_reference_made, with_first_taken}
use Rattle.et_event.proofs.BuiltInRoom.{answers_fit, none_some}
use Rattle.et_event.specs.Calls.{begin_with, is_empty, are_arguments}
use Rattle.et_event.specs.Checks.{ill_typed_unless}
use Rattle.et_event.specs.Errors.{class_called}
use Rattle.et_event.specs.Frames.{first_reference}
use Rattle.et_event.specs.Operands.{operand_kind, returned_width}
use Rattle.et_event.specs.Moments.{Moment, Doing, current_frame, begins, object_class, slot_written, goes, fits_heap}
use Rattle.et_event.specs.Sites.{Site}
use Rattle.et_event.specs.Sound.{is_of_kind, returned_of}
use Rattle.et_history.specs.soundness.Outcomes.{KeepsSound}
use Rattle.et_event.specs.Programs.{KeepsFree, KeepFree, IsTarget, KeepsTarget, MayHold}
use Rattle.et_history.specs.soundness.WellFormed.{IsWellFormed, IsUnderWayAt, KeepsFrame, StandsAt}
use Rattle.et_history.proofs.soundness.Fields.{going}
use Rattle.et_history.proofs.soundness.Monitors.{started_well}
use Rattle.et_history.proofs.soundness.Objects.{heap_now, object_is_sound}
use Rattle.et_history.proofs.soundness.Outcomes.{goes_sound, throws_sound, unless_ill_typed, unless_thrown, unless_waiting}
use Rattle.et_event.proofs.Values.{updated_state}
use Rattle.et_history.proofs.soundness.Slots.{slot_well, slot_fits, referent_well, fits_still, reference_well, first_taken_well, reference_fits, first_taken_fits}
use Rattle.et_event.specs.Runnable.{IsRunnable}
use Rattle.et_history.proofs.soundness.Entering.{framed_going}
use Rattle.et_heap.specs.Queues.{first_value}
use Rattle.et_state.proofs.UnderWay.{waiting_pair}

-- it may answer nothing
no_entries : (b : BuiltIn) → 0 ≤ entries_answered b
no_entries b = omega arith

-- WHICH ONE: the second argument of what sets a target is a reference

abbrev sets_target : BuiltIn → Bool
sets_target built_in.SetTarget = true
sets_target other = false

abbrev target_type : List ℕ
target_type = codes "(Ljava/lang/Runnable;)V"

abbrev is_target : List ℕ × List ℕ × BuiltIn → Bool
is_target row = if sets_target row.2 then bytes_eq row.1 target_type else true

all_targets : list_all is_target built_ins ≡ true
all_targets = refl

type_if : (b : BuiltIn) (descriptor : List ℕ) → (if sets_target b then bytes_eq descriptor target_type else true) ≡ true → b ≡ built_in.SetTarget → descriptor ≡ target_type
type_if b descriptor e is = (bytes_eq-Decides descriptor target_type).0 (subst (λ (k : BuiltIn). (if sets_target k then bytes_eq descriptor target_type else true) ≡ true) is e)

targeted_by : (m : MethodInfo) (rows : List (List ℕ × List ℕ × BuiltIn)) → list_all is_target rows ≡ true → option_map (λ (row : List ℕ × List ℕ × BuiltIn). row.2) (find (is_called m.name m.descriptor) rows) ≡ Some built_in.SetTarget → m.descriptor ≡ target_type
targeted_by m [] all e = absurd (none_some built_in.SetTarget None refl e)
targeted_by m (row ∷ rows) all e = by (is_called m.name m.descriptor row) refl e (targeted_by m rows parts.1)
  where
    parts : (is_target row ≡ true) × (list_all is_target rows ≡ true)
    parts = and_parts (is_target row) (list_all is_target rows) all

    by : (x : Bool) → is_called m.name m.descriptor row ≡ x → option_map (λ (r : List ℕ × List ℕ × BuiltIn). r.2) (if x then Some row else find (is_called m.name m.descriptor) rows) ≡ Some built_in.SetTarget
        → (option_map (λ (r : List ℕ × List ℕ × BuiltIn). r.2) (find (is_called m.name m.descriptor) rows) ≡ Some built_in.SetTarget → m.descriptor ≡ target_type) → m.descriptor ≡ target_type
    by true is q more = sym ((bytes_eq-Decides row.1 m.descriptor).0 (and_parts (bytes_eq row.0 m.name) (bytes_eq row.1 m.descriptor) is).1) ∙ type_if row.2 row.1 parts.0 (same_Some row.2 built_in.SetTarget q)
    by false is q more = more q

targets : (m : MethodInfo) → built_in_of m ≡ Some built_in.SetTarget → m.descriptor ≡ target_type
targets m e = by (has m.flags ABSTRACT) e
  where
    by : (x : Bool) → (if x then None else option_map (λ (row : List ℕ × List ℕ × BuiltIn). row.2) (find (is_called m.name m.descriptor) built_ins)) ≡ Some built_in.SetTarget → m.descriptor ≡ target_type
    by true q = absurd (none_some built_in.SetTarget None refl q)
    by false q = targeted_by m built_ins all_targets q

target_typed : method_type target_type ≡ Some (record { parameters = codes "Ljava/lang/Runnable;" ∷ []; returned = codes "V" })
unfolding types_of after_dimensions after_name
target_typed = refl

abbrev IsReference : Value → Type 0
IsReference v = is_of_kind (Some operand.Reference) v ≡ true

behind_receiver : (vs : List Value) → begin_with (Some operand.Reference) is_empty vs ≡ true → (v : Value) → IsReference (argument (v ∷ vs) 1)
behind_receiver [] e v = absurd (false≢true e)
behind_receiver (Unset ∷ vs) e v = refl
behind_receiver (Int n ∷ vs) e v = absurd (false≢true e)
behind_receiver (Long n ∷ vs) e v = absurd (false≢true e)
behind_receiver (LongHigh ∷ vs) e v = absurd (false≢true e)
behind_receiver (Null ∷ vs) e v = refl
behind_receiver (Ref o ∷ vs) e v = refl

second_reference : (vs : List Value) → begin_with (Some operand.Reference) (begin_with (Some operand.Reference) is_empty) vs ≡ true → IsReference (argument vs 1)
second_reference [] e = absurd (false≢true e)
second_reference (Unset ∷ vs) e = absurd (false≢true e)
second_reference (Int n ∷ vs) e = absurd (false≢true e)
second_reference (Long n ∷ vs) e = absurd (false≢true e)
second_reference (LongHigh ∷ vs) e = absurd (false≢true e)
second_reference (Null ∷ vs) e = behind_receiver vs e Null
second_reference (Ref o ∷ vs) e = behind_receiver vs e (Ref o)

target_reference : (m : MethodInfo) (type : MethodType) (arguments : List Value) → method_type m.descriptor ≡ Some type → are_arguments false type arguments ≡ true → (b : BuiltIn) → built_in_of m ≡ Some b → b ≡ built_in.SetTarget → IsReference (argument arguments 1)
target_reference m type arguments typed are b is target =
    let descriptor : m.descriptor ≡ target_type = targets m (is ∙ ap (λ (k : BuiltIn). Some k) target) in
    let same : type ≡ record { parameters = codes "Ljava/lang/Runnable;" ∷ []; returned = codes "V" } = same_Some type (record { parameters = codes "Ljava/lang/Runnable;" ∷ []; returned = codes "V" }) (sym typed ∙ (ap method_type descriptor ∙ target_typed)) in
    second_reference arguments (subst (λ (t : MethodType). are_arguments false t arguments ≡ true) same are)

-- THE SLOTS THAT THE MACHINE USES may hold any value

free_holds : (p : Linked) (name : List ℕ) (count c i : ℕ) (v : Value) → KeepFree p name count → c < length p.classes → is_subclass p c (class_called p name) ≡ true → i < count → MayHold p c i v
free_holds p name count c i v free lt below small =
    let k : KeepsFree p c count = free c lt below in
    record {
      fields = λ f within instance under e. absurd (not_there (field_at p f).slot (k.free f (record { within = within; instance = instance; below = under })) e);
      elements = inr k.bare;
    }
  where
    not_there : (slot : ℕ) → count ≤ slot → slot ≡ i → ⊥
    not_there slot le e = omega arith

-- .. and that of a target a reference
target_holds : (p : Linked) (c : ℕ) (v : Value) → IsRunnable p → c < length p.classes → is_subclass p c (class_called p (codes "java/lang/Thread")) ≡ true → IsReference v → MayHold p c 0 v
target_holds p c v may lt below reference =
    let k : KeepsTarget p c = may.machine_slots.threads c lt below in
    record {
      fields = λ f within instance under e.
          let first : (field_at p f).slot < 1 = omega (arith, e) in
          let is : IsTarget p f = k.target f (record { within = within; instance = instance; below = under }) first in
          subst (λ (d : List ℕ). is_of_kind (operand_kind d) v ≡ true) (sym is.descriptor) reference;
      elements = inr k.bare;
    }

-- WHAT A BUILT-IN METHOD DOES

-- it is called on this object, and what it gives has room
pub record IsBuiltIn (e : Moment) (at : Site) (arguments : List Value) (o : ℕ) (b : BuiltIn) : Type 0 where
  pub here : StandsAt e at
  pub run : IsRunnable e.program
  pub held : IsHeld e.before.heap o
  pub room : length (drop (length arguments) (current_frame e).operands) + entries_answered b ≤ (current_frame e).room
  pub target : b ≡ built_in.SetTarget → IsReference (argument arguments 1)

-- A SLOT OF THE OBJECT IS WRITTEN

record IsAfter (p : Linked) (o c : ℕ) (x : Doing) : Type 0 where
  well : IsWellFormed p x.state
  held : IsHeld x.state.heap o
  class : object_class x o ≡ c
  fitting : fits_heap x.state.heap ≡ true

written : (e : Moment) (o i : ℕ) (v : Value) (d : Doing) → IsWellFormed e.program d.state → IsHeld d.state.heap o → fits_heap d.state.heap ≡ true → MayHold e.program (object_class d o) i v → IsAfter e.program o (object_class d o) (slot_written e o i v d)
written e o i v d h held fit may =
    let x : ObjectState = object_at d.state.heap o in
    let next : Doing = record { state = heap_now d.state (with_object_at d.state.heap o (with_slot i v x)); records = d.records } in
    let same : (slot_written e o i v d).state ≡ next.state = updated_state e o i (slot_of x i) v next in
    let there : at (with_object_at d.state.heap o (with_slot i v x)) o ≡ Some (with_slot i v x) = get_or-set_same d.state.heap o (Some (with_slot i v x)) None (held_within d.state.heap o held) in
    record {
      well = slot_well e.program e o i v d h held may;
      held = subst (λ (s : Kept). IsHeld s.heap o) (sym same) (subst (λ (y : Option ObjectState). is_there y) (sym there) tt);
      class = ap (λ (s : Kept). (object_at s.heap o).class) same ∙ ap (λ (y : Option ObjectState). (found y).class) there;
      fitting = slot_fits e o i v d held fit;
    }

module _ (e : Moment) (at : Site) (arguments : List Value) (o : ℕ) where
  -- the frame goes on behind the call
  going_on : (b : BuiltIn) (values : List Value) → IsBuiltIn e at arguments o b → length values ≤ entries_answered b → IsUnderWayAt e (answering e at arguments values (begins e))
  going_on b values is few =
      let f : FrameState = record (current_frame e) { pc = at.next; operands = values ++ drop (length arguments) (current_frame e).operands } in
      let keeps : KeepsFrame e.program (current_frame e) f = record { same = refl; runs = is.here.runs; pc = is.here.next; locals = refl; operands = omega (arith, length-append values (drop (length arguments) (current_frame e).operands), is.room) } in
      framed_going e at f (begins e) is.here keeps (going e at is.here).well refl

  answers : (b : BuiltIn) (values : List Value) → IsBuiltIn e at arguments o b → length values ≤ entries_answered b → KeepsSound e.program (goes (answering e at arguments values (begins e)))
  answers b values is few = goes_sound e.program (answering e at arguments values (begins e)) is.here.sound.fits (going_on b values is few).well

  class_within : (b : BuiltIn) → IsBuiltIn e at arguments o b → object_class (begins e) o < length e.program.classes
  class_within b is = (object_is_sound e.program (begins e).state o (going e at is.here).well is.held).0.class

  -- it is of this class
  on_class : (name : List ℕ) (go : Outcome Kept) → (is_subclass e.program (object_class (begins e) o) (class_called e.program name) ≡ true → KeepsSound e.program go) → KeepsSound e.program (ill_typed_unless e (is_object_of_class e (begins e) o name) go)
  on_class name go h = unless_ill_typed e.program e (is_subclass e.program (object_class (begins e) o) (class_called e.program name)) go h

  -- a slot is written that the machine uses
  writes : (b : BuiltIn) (name : List ℕ) (count i : ℕ) (v : Value) → IsBuiltIn e at arguments o b → KeepFree e.program name count → is_subclass e.program (object_class (begins e) o) (class_called e.program name) ≡ true → i < count
      → IsAfter e.program o (object_class (begins e) o) (slot_written e o i v (answering e at arguments [] (begins e)))
  writes b name count i v is free below small =
      written e o i v (answering e at arguments [] (begins e)) (going_on b [] is (no_entries b)).well is.held is.here.sound.fits (free_holds e.program name count (object_class (begins e) o) i v free (class_within b is) below small)

  starting : IsBuiltIn e at arguments o built_in.Start → is_subclass e.program (object_class (begins e) o) (class_called e.program (codes "java/lang/Thread")) ≡ true → (k : Option ℕ)
      → KeepsSound e.program (starts_thread e (begins e) o (goes (with_thread_for o (answering e at arguments [] (begins e)))) k)
  starting is below (Some k) = throws_sound e IllegalThreadStateException (begins e) is.run.makes (going e at is.here)
  starting is below None =
      unless_thrown e (begins e) OutOfMemoryError (nat_lt (length e.before.guest.threads) most_threads) _ is.run.makes (going e at is.here) (λ few.
      let d : Doing = answering e at arguments [] (begins e) in
      let n : length d.state.guest.threads ≡ length e.before.guest.threads = length-set e.before.guest.threads e.thread _ in
      let less : length e.before.guest.threads < most_threads = ltb-true (length e.before.guest.threads) most_threads few in
      let started : e.thread < length e.before.guest.threads = is.here.frame.thread in
      goes_sound e.program (with_thread_for o d) is.here.sound.fits
      (started_well e.program o d (going_on built_in.Start [] is (no_entries built_in.Start)).well is.held below (omega arith) (subst (λ (k : ℕ). k < most_threads) (sym n) less)))

  referring : (b : BuiltIn) (r : Option ℕ) → IsBuiltIn e at arguments o b → KeepsSound e.program (goes (with_referent_of o r (answering e at arguments [] (begins e))))
  referring b r is =
      let d : Doing = answering e at arguments [] (begins e) in
      goes_sound e.program (with_referent_of o r d) (fits_still e.before.heap o (with_referent r (object_at e.before.heap o)) is.held refl is.here.sound.fits) (referent_well e.program o r d (going_on b [] is (no_entries b)).well is.held)

  making : (b : BuiltIn) (r q : Option ℕ) → IsBuiltIn e at arguments o b → KeepsSound e.program (goes (with_reference_made o r q (answering e at arguments [] (begins e))))
  making b r q is =
      let d : Doing = answering e at arguments [] (begins e) in
      goes_sound e.program (with_reference_made o r q d) (reference_fits e.before.heap o r q is.held is.here.sound.fits) (reference_well e.program o r q d (going_on b [] is (no_entries b)).well is.held)

  polling : IsBuiltIn e at arguments o built_in.Poll → KeepsSound e.program (goes (with_first_taken o (answering e at arguments (first_value (object_at e.before.heap o).waiting ∷ []) (begins e))))
  polling is =
      let d : Doing = answering e at arguments (first_value (object_at e.before.heap o).waiting ∷ []) (begins e) in
      let all : (r : ℕ) → Contains (object_at e.before.heap o).waiting r → IsHeld e.before.heap r = λ r c. is.here.sound.held.slots o r (waiting_pair e.before.heap o r c) in
      goes_sound e.program (with_first_taken o d) (first_taken_fits e.before.heap o (object_at e.before.heap o).waiting is.held all is.here.sound.fits)
      (first_taken_well e.program o d (going_on built_in.Poll (first_value (object_at e.before.heap o).waiting ∷ []) is (omega arith)).well is.held all)

  pub row_sound : (b : BuiltIn) → IsBuiltIn e at arguments o b → KeepsSound e.program (built_in_row e at (begins e) arguments o b)
  row_sound built_in.Nothing is = answers built_in.Nothing [] is (no_entries built_in.Nothing)
  row_sound built_in.SetMessage is =
      on_class (codes "java/lang/Throwable") _ (λ below.
      let x : IsAfter e.program o (object_class (begins e) o) (slot_written e o 0 (argument arguments 1) (answering e at arguments [] (begins e))) = writes built_in.SetMessage (codes "java/lang/Throwable") 2 0 (argument arguments 1) is is.run.machine_slots.throwables below (omega arith) in
      goes_sound e.program (slot_written e o 0 (argument arguments 1) (answering e at arguments [] (begins e))) x.fitting x.well)
  row_sound built_in.SetMessageAndCause is =
      on_class (codes "java/lang/Throwable") _ (λ below.
      let d : Doing = slot_written e o 0 (argument arguments 1) (answering e at arguments [] (begins e)) in
      let x : IsAfter e.program o (object_class (begins e) o) d = writes built_in.SetMessageAndCause (codes "java/lang/Throwable") 2 0 (argument arguments 1) is is.run.machine_slots.throwables below (omega arith) in
      let holds : MayHold e.program (object_class (begins e) o) 1 (argument arguments 2) =
      free_holds e.program (codes "java/lang/Throwable") 2 (object_class (begins e) o) 1 (argument arguments 2) is.run.machine_slots.throwables (class_within built_in.SetMessageAndCause is) below (omega arith) in
      let y : IsAfter e.program o (object_class d o) (slot_written e o 1 (argument arguments 2) d) = written e o 1 (argument arguments 2) d x.well x.held x.fitting (subst (λ (c : ℕ). MayHold e.program c 1 (argument arguments 2)) (sym x.class) holds) in
      goes_sound e.program (slot_written e o 1 (argument arguments 2) d) y.fitting y.well)
  row_sound built_in.GetMessage is = on_class (codes "java/lang/Throwable") _ (λ below. answers built_in.GetMessage (reference_in (begins e) o 0 ∷ []) is (omega arith))
  row_sound built_in.GetCause is = on_class (codes "java/lang/Throwable") _ (λ below. answers built_in.GetCause (reference_in (begins e) o 1 ∷ []) is (omega arith))
  row_sound built_in.SetTarget is =
      on_class (codes "java/lang/Thread") _ (λ below.
      let v : Value = argument arguments 1 in
      let holds : MayHold e.program (object_class (begins e) o) 0 v = target_holds e.program (object_class (begins e) o) v is.run (class_within built_in.SetTarget is) below (is.target refl) in
      let x : IsAfter e.program o (object_class (begins e) o) (slot_written e o 0 v (answering e at arguments [] (begins e))) =
      written e o 0 v (answering e at arguments [] (begins e)) (going_on built_in.SetTarget [] is (no_entries built_in.SetTarget)).well is.held is.here.sound.fits holds in
      goes_sound e.program (slot_written e o 0 v (answering e at arguments [] (begins e))) x.fitting x.well)
  row_sound built_in.Start is = on_class (codes "java/lang/Thread") _ (λ below. starting is below (thread_with e.before.guest.threads o))
  row_sound built_in.Join is =
      unless_waiting e.program e (has_thread_ended (begins e) (thread_with e.before.guest.threads o)) _ is.here.sound is.here.clock (λ ended. answers built_in.Join [] is (no_entries built_in.Join))
  row_sound built_in.SetReferent is = making built_in.SetReferent (referent_of (argument arguments 1)) None is
  row_sound built_in.SetReferentAndQueue is = making built_in.SetReferentAndQueue (referent_of (argument arguments 1)) (referent_of (argument arguments 2)) is
  row_sound built_in.GetReferent is = answers built_in.GetReferent (referent_value (object_at e.before.heap o).referent ∷ []) is (omega arith)
  row_sound built_in.ClearReferent is = referring built_in.ClearReferent None is
  row_sound built_in.Poll is = polling is

-- THE EVENT of a selected method without code
pub built_in_sound : (e : Moment) (at : Site) (arguments : List Value) (m : MethodInfo) (type : MethodType) → StandsAt e at → IsRunnable e.program → ((o : ℕ) → first_reference arguments ≡ Some o → IsHeld e.before.heap o)
    → method_type m.descriptor ≡ Some type → are_arguments false type arguments ≡ true → length (drop (length arguments) (current_frame e).operands) + returned_width (returned_of m) ≤ (current_frame e).room → KeepsSound e.program (built_in_event e at (begins e) arguments m)
built_in_sound e at arguments m type here run held typed are room = by (first_reference arguments) (built_in_of m) held (λ b is. answers_fit m b is) (target_reference m type arguments typed are)
  where
    by : (r : Option ℕ) (b : Option BuiltIn) → ((o : ℕ) → r ≡ Some o → IsHeld e.before.heap o) → ((k : BuiltIn) → b ≡ Some k → entries_answered k ≤ returned_width (returned_of m)) → ((k : BuiltIn) → b ≡ Some k → k ≡ built_in.SetTarget → IsReference (argument arguments 1))
        → KeepsSound e.program (done_by e at (begins e) arguments r b)
    by None None there few target = throws_sound e AbstractMethodError (begins e) run.makes (going e at here)
    by None (Some b) there few target = throws_sound e AbstractMethodError (begins e) run.makes (going e at here)
    by (Some o) None there few target = throws_sound e AbstractMethodError (begins e) run.makes (going e at here)
    by (Some o) (Some b) there few target = row_sound e at arguments o b (record { here = here; run = run; held = there o refl; room = omega (arith, few b refl, room); target = target b refl })
