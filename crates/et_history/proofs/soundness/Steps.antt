-- What reads no slot and makes no object: casts, throwing and unwinding, monitors, the end of a thread.
use Rattle.std.proofs.Common.{◌≡◌, ℕ, ◌+◌, ◌-◌, ◌<◌, ◌≤◌, ◌^◌, ◌&&◌, ◌||◌, ◌==◌, Bool, true, false, List, [], ◌∷◌, ◌++◌, length, Option, Some, None, refl, sym, ◌∙◌, ap, subst, inl, arith, rules, IsTrue, Contains}
use Rattle.std.specs.Prelude.{ℤ, pos, nat_lt, int_le, if◌then◌else◌, find, unwrap_or, option_to_list, option_map}
use Rattle.std.proofs.lemmas.Bool.{false≢true, ltb-true}
use Rattle.std.proofs.lemmas.List.{length-set, get_or-append_right}
use Rattle.et_state.proofs.Steps.{with_first}
use Rattle.et_base.specs.declared.value.Value.{Value}
use Rattle.et_base.specs.declared.value.Value.TheVariants.{Ref}
use Rattle.et_class.specs.Names.{has}
use Rattle.et_class.specs.declared.flags.TheConstants.{STATIC, SYNCHRONIZED}
use Rattle.et_code.specs.Bodies.{Body}
use Rattle.et_code.specs.Kept.{IsKeptCode}
use Rattle.et_code.specs.Rules.{row_holds, tag_in}
use Rattle.et_code.specs.Starts.{is_start}
use Rattle.et_code.specs.declared.body.TableRow.{TableRow}
use Rattle.et_code.proofs.Starting.{starts_are_all}
use Rattle.et_program.specs.Entries.{Linked, class_at}
use Rattle.et_program.specs.Resolution.{resolve_class}
use Rattle.et_program.specs.Types.{passes}
use Rattle.et_program.specs.declared.info.MethodInfo.{MethodInfo}
use Rattle.et_heap.specs.Objects.{ObjectState, Objects, IsHeld, is_there, at, found, object_at, with_object_at, slot_of, with_slot, new_object}
use Rattle.et_state.specs.declared.stage.Stage.{Stage}
use Rattle.et_state.specs.declared.stage.Stage.TheVariants.{Plain}
use Rattle.et_state.specs.Threads.{FrameState, ThreadState, first_frame, rest_of, with_top_of, without_top, with_pending, as_ended, most_frames}
use Rattle.et_state.specs.declared.class_state.ClassState.TheVariants.{Failed, Untouched}
use Rattle.et_state.specs.State.{Kept}
use Rattle.et_state.specs.Words.{thread_at, HasFrame}
use Rattle.et_state.proofs.Places.{top_root, lock_root}
use Rattle.et_base.proofs.Lists.{Contains-here}
use Rattle.et_state.specs.declared.records.Record.TheVariants.{Unwind}
use Rattle.et_state.specs.Outcome.{Outcome}
use Rattle.et_event.specs.declared.errors.GuestError.TheVariants.{ClassCastException, IllegalMonitorStateException, NegativeArraySizeException, ExceptionInInitializerError}
use Rattle.et_event.specs.declared.rows.MonitorRow.{MonitorRow}
use Rattle.et_event.specs.declared.rows.MonitorRow.TheVariants as monitor
use Rattle.et_event.specs.Checks.{Reference}
use Rattle.et_event.specs.Errors.{error_class}
use Rattle.et_event.specs.Heap.{leaving_values, with_class, element_of_array, array_length, cast, check_cast, type_tested, instance_of, new_array_of}
use Rattle.et_event.specs.Kinds.{is_array_element}
use Rattle.et_event.specs.Moments.{Moment, Doing, thread_of, current_frame, begins, object_class, next_object, instance_made, array_made, slot_written, pending_now, with_thread_state, ill_typed, ends_event, told, fits_heap}
use Rattle.et_event.specs.Monitors.{Lock, OfObject, OfClass, owns, may_enter, entered, left, lock_for, lock_in}
use Rattle.et_event.specs.Sites.{Site, class_operand, running_method, code_of_frame, natural_of}
use Rattle.et_event.specs.Sound.{IsPc, AreSoundFrames, IsSoundObject, IsSoundFor}
use Rattle.et_event.specs.Sync.{monitor_event, end_of_thread}
use Rattle.et_event.specs.Throw.{throw, is_throwable, handled, caught, left_if_owned, dropped, is_error, replaced, failed, unwound, unwound_clinit}
use Rattle.et_event.specs.Initialization.{with_state}
use Rattle.et_history.specs.soundness.Outcomes.{KeepsSound}
use Rattle.et_event.specs.Programs.{MakesSound, MayHold}
use Rattle.et_history.specs.soundness.WellFormed.{IsWellFormed, IsUnderWayAt, KeepsFrame, StandsAt, IsThere, MayBeThread}
use Rattle.et_history.proofs.soundness.Finding.{find_holds}
use Rattle.et_history.proofs.soundness.Fields.{going, operands_there, leaving_well, leaving_sound}
use Rattle.et_history.proofs.soundness.Frames.{frames_still, left_frames, fewer_frames}
use Rattle.et_history.proofs.soundness.Monitors.{entered_well, entered_fits, left_well, left_fits, monitor_count, class_well}
use Rattle.et_history.proofs.soundness.Outcomes.{if_case, array_well, instance_well, begins_well, goes_sound, ends_sound, pending_well, unless_ill_typed, unless_thrown, unless_waiting, where_resolved, where_not_null}
use Rattle.et_history.proofs.soundness.Objects.{heap_now}
use Rattle.et_event.proofs.Values.{updated_state}
use Rattle.et_history.proofs.soundness.Slots.{slot_well}
use Rattle.et_history.proofs.soundness.Taken.{taken_reference}
use Rattle.et_history.proofs.soundness.Threads.{with_thread_well, may_have_frames, may_end}
use Rattle.et_history.proofs.soundness.Wholes.{well_formed}

-- LENGTHS AND CASTS

pub array_length_sound : (e : Moment) (at : Site) → StandsAt e at → MakesSound e.program → KeepsSound e.program (array_length e at)
array_length_sound e at here makes =
    taken_reference (KeepsSound e.program) (ill_typed e) tt e.before.heap (current_frame e).room (current_frame e).operands _ (operands_there e at here) (λ r below held ops few.
    where_not_null e (begins e) r _ makes (going e at here) (λ o is.
    unless_ill_typed e.program e (is_array_element (element_of_array e o)) _ (λ array. leaving_sound e at _ here (omega (arith, few)))))

pub class_named : (p : Linked) (e : Moment) (o : Option (List ℕ)) (go : List ℕ → Outcome Kept) → ((name : List ℕ) → KeepsSound p (go name)) → KeepsSound p (with_class e o go)
class_named p e None go h = tt
class_named p e (Some name) go h = h name

cast_by : (e : Moment) (at : Site) (name : List ℕ) (below : List Value) (r : Reference) → StandsAt e at → MakesSound e.program → length below + 1 ≤ (current_frame e).room → KeepsSound e.program (cast e at name below r)
cast_by e at name below None here makes few = leaving_sound e at _ here (omega (arith, few))
cast_by e at name below (Some o) here makes few =
    where_resolved e (begins e) (resolve_class e.program name) _ makes (going e at here) (λ class found.
    unless_thrown e (begins e) ClassCastException (passes e.program (object_class (begins e) o) class) _ makes (going e at here) (λ fine. leaving_sound e at _ here (omega (arith, few))))

pub check_cast_sound : (e : Moment) (at : Site) → StandsAt e at → MakesSound e.program → KeepsSound e.program (check_cast e at)
check_cast_sound e at here makes =
    class_named e.program e (class_operand at) _ (λ name.
    taken_reference (KeepsSound e.program) (ill_typed e) tt e.before.heap (current_frame e).room (current_frame e).operands _ (operands_there e at here) (λ r below held ops few. cast_by e at name below r here makes few))

tested_by : (e : Moment) (at : Site) (name : List ℕ) (below : List Value) (r : Reference) → StandsAt e at → MakesSound e.program → length below + 1 ≤ (current_frame e).room → KeepsSound e.program (type_tested e at name below r)
tested_by e at name below None here makes few = leaving_sound e at _ here (omega (arith, few))
tested_by e at name below (Some o) here makes few = where_resolved e (begins e) (resolve_class e.program name) _ makes (going e at here) (λ class found. leaving_sound e at _ here (omega (arith, few)))

pub instance_of_sound : (e : Moment) (at : Site) → StandsAt e at → MakesSound e.program → KeepsSound e.program (instance_of e at)
instance_of_sound e at here makes =
    class_named e.program e (class_operand at) _ (λ name.
    taken_reference (KeepsSound e.program) (ill_typed e) tt e.before.heap (current_frame e).room (current_frame e).operands _ (operands_there e at here) (λ r below held ops few. tested_by e at name below r here makes few))

-- ARRAYS of one dimension, of a class whose arrays are sound as they are made
pub new_array_sound : (e : Moment) (at : Site) (class : ℕ) (elements : ℤ) (below : List Value) → StandsAt e at → MakesSound e.program → ((n : ℕ) → IsSoundObject e.program (new_object class n n)) → length below + 1 ≤ (current_frame e).room → KeepsSound e.program (new_array_of e at class elements below)
new_array_sound e at class elements below here makes new few =
    let g : IsUnderWayAt e (begins e) = going e at here in
    unless_thrown e (begins e) NegativeArraySizeException (int_le (pos 0) elements) _ makes g (λ fine.
    let d : Doing = array_made e class (natural_of elements) (begins e) in
    ends_sound e.program (leaving_values e at (Ref (next_object (begins e)) ∷ below) d) (leaving_well e at (Ref (next_object (begins e)) ∷ below) d here (omega (arith, few)) (array_well e class (natural_of elements) (begins e) (new (natural_of elements)) g.well) refl))

-- MONITORS
pub monitor_sound : (e : Moment) (at : Site) (r : MonitorRow) → StandsAt e at → MakesSound e.program → KeepsSound e.program (monitor_event e at r)
monitor_sound e at monitor.Enter here makes =
    let p : Linked = e.program in
    let g : IsUnderWayAt e (begins e) = going e at here in
    taken_reference (KeepsSound p) (ill_typed e) tt e.before.heap (current_frame e).room (current_frame e).operands _ (operands_there e at here) (λ r below held ops few.
    where_not_null e (begins e) r _ makes g (λ o is.
    unless_waiting p e (may_enter e (begins e) (OfObject o)) _ here.sound here.clock (λ may.
    let d : Doing = leaving_values e at below (begins e) in
    let well : IsWellFormed p d.state = leaving_well e at below (begins e) here ops.few g.well refl in
    let before : Doing = record { state = e.before; records = [] } in
    let count : (object_at e.before.heap o).monitor.count ≤ e.before.guest.clock = monitor_count p before (OfObject o) (well_formed p e.before here.sound) (held o is) in
    let n : length d.state.guest.threads ≡ length e.before.guest.threads = length-set e.before.guest.threads e.thread _ in
    goes_sound p (entered e (OfObject o) d) (entered_fits e (OfObject o) d (held o is) here.sound.fits)
    (entered_well p e (OfObject o) d well (held o is) (subst (λ (k : ℕ). e.thread < k) (sym n) here.frame.thread) (let less : (object_at e.before.heap o).monitor.count < e.before.guest.clock + 1 = omega arith in less)))))
monitor_sound e at monitor.Exit here makes =
    let p : Linked = e.program in
    let g : IsUnderWayAt e (begins e) = going e at here in
    taken_reference (KeepsSound p) (ill_typed e) tt e.before.heap (current_frame e).room (current_frame e).operands _ (operands_there e at here) (λ r below held ops few.
    where_not_null e (begins e) r _ makes g (λ o is.
    unless_thrown e (begins e) IllegalMonitorStateException (owns e (begins e) (OfObject o)) _ makes g (λ owned.
    let d : Doing = leaving_values e at below (begins e) in
    let well : IsWellFormed p d.state = leaving_well e at below (begins e) here ops.few g.well refl in
    goes_sound p (left (OfObject o) d) (left_fits (OfObject o) d (held o is) here.sound.fits) (left_well p (OfObject o) d well (held o is)))))

-- A THREAD ENDS
pub end_sound : (p : Linked) (e : Moment) → IsSoundFor p e.before → e.before.guest.clock < 2 ^ 40 → e.thread < length e.before.guest.threads → KeepsSound p (end_of_thread e)
end_sound p e sound clock lt =
    let h : IsWellFormed p (begins e).state = begins_well p e sound clock in
    goes_sound p (with_thread_state e (as_ended (thread_of e)) (begins e)) sound.fits (with_thread_well p (begins e).state e.thread (as_ended (thread_of e)) h lt (may_end p (begins e).state e.thread h lt))

-- AN EXCEPTION IS THROWN
pub throw_sound : (e : Moment) (at : Site) → StandsAt e at → MakesSound e.program → KeepsSound e.program (throw e)
throw_sound e at here makes =
    let g : IsUnderWayAt e (begins e) = going e at here in
    taken_reference (KeepsSound e.program) (ill_typed e) tt e.before.heap (current_frame e).room (current_frame e).operands _ (operands_there e at here) (λ r below held ops few.
    where_not_null e (begins e) r _ makes g (λ o is.
    unless_ill_typed e.program e (is_throwable e o) _ (λ fine. goes_sound e.program (pending_now e o (begins e)) here.sound.fits (pending_well e o (begins e) g.well g.thread))))

-- .. a handler begins at an instruction

handler_by : (a b c d e : Bool) → (a && b && c && d && e) ≡ true → d ≡ true
handler_by a b c true e h = refl
handler_by false b c false e h = absurd (false≢true h)
handler_by true false c false e h = absurd (false≢true h)
handler_by true true false false e h = absurd (false≢true h)
handler_by true true true false e h = absurd (false≢true h)

pub handler_pc : (b : Body) (tags : List ℕ) (test : TableRow → Bool) (row : TableRow) → IsKeptCode b tags → find test b.table ≡ Some row → IsPc b row.handler
handler_pc b tags test row kept e =
    let holds : row_holds (length b.code) tags (is_start b.code) row ≡ true = find_holds (λ r. row_holds (length b.code) tags (is_start b.code) r ≡ true) test b.table row kept.rows e in
    let start : is_start b.code row.handler ≡ true =
    handler_by (is_start b.code row.start) (nat_lt row.start row.end) (is_start b.code row.end || (row.end == length b.code)) (is_start b.code row.handler) ((row.catch == 0) || (tag_in tags (pos row.catch) == 7)) holds in
    let t : IsTrue (is_start b.code row.handler) = search (rules, start) in
    inl ((starts_are_all b.code row.handler).0 t)

-- .. which is entered
pub caught_sound : (e : Moment) (at : Site) (o handler : ℕ) → StandsAt e at → IsPc (code_of_frame e.program (current_frame e)) handler → KeepsSound e.program (caught e o handler)
caught_sound e at o handler here there =
    let p : Linked = e.program in
    let g : IsUnderWayAt e (begins e) = going e at here in
    let x : ThreadState = thread_of e in
    let fs : List FrameState = x.frames in
    unless_ill_typed p e (nat_lt 0 (current_frame e).room) _ (λ room.
    let some : 0 < (current_frame e).room = ltb-true 0 (current_frame e).room room in
    let f : FrameState = handled (current_frame e) handler o in
    let keeps : KeepsFrame p (current_frame e) f = record { same = refl; runs = here.runs; pc = there; locals = refl; operands = omega arith } in
    let was = here.sound.threads e.thread here.frame.thread in
    let first : first_frame fs ∷ rest_of fs ≡ fs = with_first fs here.frame.frame in
    let frames : AreSoundFrames p (f ∷ rest_of fs) = frames_still p (first_frame fs) f (rest_of fs) keeps (subst (λ (gs : List FrameState). AreSoundFrames p gs) (sym first) was.frames) in
    let few : length (f ∷ rest_of fs) ≤ most_frames = subst (λ (gs : List FrameState). length gs ≤ most_frames) (sym first) was.few_frames in
    let other : MayBeThread p (begins e).state e.thread (with_top_of x f) = may_have_frames p (begins e).state e.thread (f ∷ rest_of fs) g.well g.thread frames few in
    let may : MayBeThread p (begins e).state e.thread (with_pending None (with_top_of x f)) = record { frames = other.frames; few_frames = other.few_frames; object = other.object; made = other.made; entry = other.entry } in
    goes_sound p (with_thread_state e (with_pending None (with_top_of x f)) (begins e)) here.sound.fits (with_thread_well p (begins e).state e.thread (with_pending None (with_top_of x f)) g.well g.thread may))

-- .. or a frame is dropped

pub dropped_well : (p : Linked) (e : Moment) (d : Doing) → IsWellFormed p d.state → e.thread < length d.state.guest.threads → IsWellFormed p (dropped e d).state
dropped_well p e d h lt =
    let x : ThreadState = thread_at d.state.guest e.thread in
    let was = h.threads e.thread lt in
    with_thread_well p d.state e.thread (without_top x) h lt (may_have_frames p d.state e.thread (rest_of x.frames) h lt (left_frames p x.frames was.frames) (fewer_frames x.frames most_frames was.few_frames))

dropped_going : (e : Moment) (d : Doing) → IsUnderWayAt e d → IsUnderWayAt e (dropped e d)
dropped_going e d g =
    let n : length (dropped e d).state.guest.threads ≡ length d.state.guest.threads = length-set d.state.guest.threads e.thread (without_top (thread_at d.state.guest e.thread)) in
    record { well = dropped_well e.program e d g.well g.thread; thread = subst (λ (k : ℕ). e.thread < k) (sym n) g.thread }

-- an object that was made last
pub record IsLast (heap : Objects) (y : ObjectState) : Type 0 where
  pub held : IsHeld (heap ++ Some y ∷ []) (length heap)
  pub class : (object_at (heap ++ Some y ∷ []) (length heap)).class ≡ y.class

pub last_one : (heap : Objects) (y : ObjectState) → IsLast heap y
last_one heap y =
    let le : length heap ≤ length heap = omega arith in
    let none : length heap - length heap ≡ 0 = omega arith in
    let there : at (heap ++ Some y ∷ []) (length heap) ≡ Some y = get_or-append_right heap (Some y ∷ []) (length heap) (length heap) None refl le ∙ ap (λ (k : ℕ). at (Some y ∷ []) k) none in
    record { held = subst (λ (x : Option ObjectState). is_there x) (sym there) tt; class = ap (λ (x : Option ObjectState). (found x).class) there }

-- an initializer failed
pub failed_well : (e : Moment) (c o : ℕ) (d : Doing) → MakesSound e.program → MayHold e.program (error_class e.program ExceptionInInitializerError) 1 (Ref o) → c < length e.program.classes → IsUnderWayAt e d → IsWellFormed e.program (failed e c o d).state
failed_well e c o d makes holds lt g =
    let p : Linked = e.program in
    let x : Doing = with_state c Failed d in
    let well : IsWellFormed p x.state = class_well p c Failed d g.well lt tt not_untouched in
    let error : ℕ = next_object x in
    let class : ℕ = error_class p ExceptionInInitializerError in
    let y : Doing = instance_made e class x in
    let made : IsWellFormed p y.state = instance_well e class x (makes.error ExceptionInInitializerError) well in
    let last : IsLast x.state.heap (new_object class 0 (class_at p class).info.slots) = last_one x.state.heap (new_object class 0 (class_at p class).info.slots) in
    let z : Doing = slot_written e error 1 (Ref o) y in
    let written : IsWellFormed p z.state = slot_well p e error 1 (Ref o) y made last.held (subst (λ (k : ℕ). MayHold p k 1 (Ref o)) (sym last.class) holds) in
    let same : z.state ≡ heap_now y.state (with_object_at y.state.heap error (with_slot 1 (Ref o) (object_at y.state.heap error))) =
    updated_state e error 1 (slot_of (object_at y.state.heap error) 1) (Ref o) (record { state = heap_now y.state (with_object_at y.state.heap error (with_slot 1 (Ref o) (object_at y.state.heap error))); records = y.records }) in
    if_case (λ (w : Doing). IsWellFormed p w.state) (is_error e o) x (replaced e o x) well
    (pending_well e error z written (subst (λ (s : Kept). e.thread < length s.guest.threads) (sym same) g.thread))
  where
    not_untouched : Failed ≡ Untouched → ⊥
    not_untouched q = cc

-- .. below the frame of its class, which was not entered, or that ended by the exception
pub unwound_before : (e : Moment) (c o : ℕ) → MakesSound e.program → MayHold e.program (error_class e.program ExceptionInInitializerError) 1 (Ref o) → c < length e.program.classes → IsUnderWayAt e (begins e) → KeepsSound e.program (ends_event (failed e c o (dropped e (begins e))))
unwound_before e c o makes holds lt g = ends_sound e.program (failed e c o (dropped e (begins e))) (failed_well e c o (dropped e (begins e)) makes holds lt (dropped_going e (begins e) g))

pub unwound_clinit_sound : (e : Moment) (c o : ℕ) → MakesSound e.program → MayHold e.program (error_class e.program ExceptionInInitializerError) 1 (Ref o) → c < length e.program.classes → IsUnderWayAt e (begins e) → KeepsSound e.program (unwound_clinit e c o)
unwound_clinit_sound e c o makes holds lt g =
    let d : Doing = told (Unwind (begins e).state.guest.clock e.thread (unwrap_or (current_frame e).method 0) o) (dropped e (begins e)) in
    let x : IsUnderWayAt e (dropped e (begins e)) = dropped_going e (begins e) g in
    ends_sound e.program (failed e c o d) (failed_well e c o d makes holds lt (record { well = x.well; thread = x.thread }))

-- a frame of a method is dropped, and its monitor left once, where this thread owns it

abbrev pub IsSomeThere : Kept → Option Lock → Type 0
IsSomeThere s None = Unit {0}
IsSomeThere s (Some lock) = IsThere s lock

pub lock_there : (s : Kept) (m : MethodInfo) (receiver : Option ℕ) → ((o : ℕ) → receiver ≡ Some o → IsHeld s.heap o) → IsSomeThere s (lock_for m receiver)
lock_there s m receiver h = by (has m.flags SYNCHRONIZED) (has m.flags STATIC) receiver h
  where
    by : (sync static : Bool) (r : Option ℕ) → ((o : ℕ) → r ≡ Some o → IsHeld s.heap o) → IsSomeThere s (if sync then (if static then Some (OfClass m.class) else option_map OfObject r) else None)
    by true true r held = tt
    by true false None held = tt
    by true false (Some o) held = held o refl
    by false static r held = tt

pub threads_left : (lock : Lock) (d : Doing) → (left lock d).state.guest.threads ≡ d.state.guest.threads
threads_left (OfObject o) d = refl
threads_left (OfClass c) d = refl

-- an event that has made nothing goes on
record IsFitting (e : Moment) (d : Doing) : Type 0 where
  going : IsUnderWayAt e d
  fitting : fits_heap d.state.heap ≡ true

left_by : (e : Moment) (lock : Option Lock) (d : Doing) → IsSomeThere d.state lock → IsFitting e d → IsFitting e (left_if_owned e lock d)
left_by e None d there h = h
left_by e (Some lock) d there h =
    let is_left : IsFitting e (left lock d) = record {
      going = record { well = left_well e.program lock d h.going.well there; thread = subst (λ (ts : List ThreadState). e.thread < length ts) (sym (threads_left lock d)) h.going.thread };
      fitting = left_fits lock d there h.fitting;
    } in
    if_case (λ (x : Doing). IsFitting e x) (owns e d lock) (left lock d) d is_left h

pub unwound_sound : (e : Moment) (o : ℕ) → IsSoundFor e.program e.before → e.before.guest.clock < 2 ^ 40 → HasFrame e.before.guest e.thread → (current_frame e).stage ≡ Plain → KeepsSound e.program (unwound e o)
unwound_sound e o sound clock has stage =
    let p : Linked = e.program in
    let f : FrameState = current_frame e in
    let g : IsUnderWayAt e (begins e) = record { well = begins_well p e sound clock; thread = has.thread } in
    let held : (q : ℕ) → f.lock ≡ Some q → IsHeld e.before.heap q = λ q is. sound.held.roots q (top_root e.before.guest e.thread q has (lock_root f q (subst (λ (l : Option ℕ). Contains (option_to_list l) q) (sym is) (Contains-here q [])))) in
    let there : IsSomeThere e.before (lock_in f.stage (running_method p f) f.lock) = subst (λ (s : Stage). IsSomeThere e.before (lock_in s (running_method p f) f.lock)) (sym stage) (lock_there e.before (running_method p f) f.lock held) in
    let x : Doing = left_if_owned e (lock_in f.stage (running_method p f) f.lock) (begins e) in
    let done : IsFitting e x = left_by e (lock_in f.stage (running_method p f) f.lock) (begins e) (still (lock_in f.stage (running_method p f) f.lock) there) (record { going = g; fitting = sound.fits }) in
    goes_sound p (dropped e x) done.fitting (dropped_well p e x done.going.well done.going.thread)
  where
    still : (lock : Option Lock) → IsSomeThere e.before lock → IsSomeThere (begins e).state lock
    still None h = h
    still (Some (OfObject q)) h = h
    still (Some (OfClass c)) h = h
