-- What an event makes, and how it ends.
use Rattle.std.proofs.Common.{◌≡◌, ℕ, ◌<◌, ◌^◌, Bool, true, false, ltb, List, length, set, Some, None, Result, Ok, Err, refl, sym, subst}
use Rattle.std.specs.Prelude.{if◌then◌else◌, is_some, codes}
use Rattle.std.proofs.lemmas.Bool.{ltb-true}
use Rattle.std.proofs.lemmas.List.{length-set}
use Rattle.et_program.specs.Entries.{Linked, class_at}
use Rattle.et_program.specs.declared.errors.LinkError.{LinkError}
use Rattle.et_heap.specs.Objects.{new_object}
use Rattle.et_state.specs.Threads.{ThreadState, with_pending, as_entered, has_frame, most_frames}
use Rattle.et_state.specs.Interned.{object_of}
use Rattle.et_state.specs.State.{Kept}
use Rattle.et_state.specs.Words.{thread_at, with_string}
use Rattle.et_state.specs.Outcome.{Outcome}
use Rattle.et_state.specs.Outcome as outcome
use Rattle.et_event.specs.declared.errors.GuestError.{GuestError}
use Rattle.et_event.specs.declared.errors.GuestError.TheVariants.{NullPointerException, StackOverflowError}
use Rattle.et_event.specs.Checks.{Reference, ill_typed_unless, resolved, throws_unless, not_null, waits_unless, frame_fits}
use Rattle.et_event.specs.Errors.{class_called, error_class, error_of}
use Rattle.et_event.specs.Moments.{Moment, Doing, begins, doing_with_guest, with_thread_state, next_object, instance_made, array_made, pending_now, entry_given_up, fits_heap, ends_event, goes, waits, throws, later}
use Rattle.et_event.specs.Strings.{interned}
use Rattle.et_event.specs.Sound.{IsSoundObject, IsSoundFor}
use Rattle.et_history.specs.soundness.Outcomes.{KeepsSound}
use Rattle.et_event.specs.Programs.{MakesSound}
use Rattle.et_history.specs.soundness.WellFormed.{IsWellFormed, IsUnderWayAt}
use Rattle.et_history.proofs.soundness.Monitors.{string_well}
use Rattle.et_history.proofs.soundness.Objects.{made_well}
use Rattle.et_history.proofs.soundness.Threads.{with_thread_well, may_throw, may_be_entered}
use Rattle.et_history.proofs.soundness.Wholes.{well_formed, sound, well_later}

pub if_case : {A : Type 0} (P : A → Type 0) (b : Bool) (x y : A) → P x → P y → P (if b then x else y)
if_case P true x y h i = h
if_case P false x y h i = i

-- OBJECTS

pub instance_well : (e : Moment) (class : ℕ) (d : Doing) → IsSoundObject e.program (new_object class 0 (class_at e.program class).info.slots) → IsWellFormed e.program d.state → IsWellFormed e.program (instance_made e class d).state
instance_well e class d new h = made_well e.program d.state (new_object class 0 (class_at e.program class).info.slots) h new refl

pub array_well : (e : Moment) (class elements : ℕ) (d : Doing) → IsSoundObject e.program (new_object class elements elements) → IsWellFormed e.program d.state → IsWellFormed e.program (array_made e class elements d).state
array_well e class elements d new h = made_well e.program d.state (new_object class elements elements) h new refl

-- .. of a string, which is made where there is none yet
pub interned_well : (e : Moment) (bytes : List ℕ) (d : Doing) → MakesSound e.program → IsWellFormed e.program d.state → IsWellFormed e.program (interned e bytes d).state
interned_well e bytes d makes h =
    let x : Doing = instance_made e (class_called e.program (codes "java/lang/String")) d in
    let there : IsWellFormed e.program x.state = instance_well e (class_called e.program (codes "java/lang/String")) d makes.string h in
    if_case (λ (y : Doing). IsWellFormed e.program y.state) (is_some (object_of d.state.guest.interned bytes)) d (doing_with_guest (with_string x.state.guest bytes (next_object d)) x) h
    (string_well e.program x.state bytes (next_object d) there)

-- HOW IT BEGINS AND ENDS

pub begins_well : (p : Linked) (e : Moment) → IsSoundFor p e.before → e.before.guest.clock < 2 ^ 40 → IsWellFormed p (begins e).state
begins_well p e h clock = well_later p e.before clock (well_formed p e.before h)

pub goes_sound : (p : Linked) (d : Doing) → fits_heap d.state.heap ≡ true → IsWellFormed p d.state → KeepsSound p (goes d)
goes_sound p d fit h held = sound p d.state held fit h

end_case : (p : Linked) (d : Doing) (b : Bool) → fits_heap d.state.heap ≡ b → IsWellFormed p d.state → KeepsSound p (if b then outcome.Goes d.state d.records else outcome.ObjectLimit)
end_case p d true e h = goes_sound p d e h
end_case p d false e h = tt

pub ends_sound : (p : Linked) (d : Doing) → IsWellFormed p d.state → KeepsSound p (ends_event d)
ends_sound p d h = end_case p d (fits_heap d.state.heap) refl h

pub waits_sound : (p : Linked) (e : Moment) → IsSoundFor p e.before → e.before.guest.clock < 2 ^ 40 → KeepsSound p (waits e)
waits_sound p e h clock held = sound p (later e.before) held h.fits (begins_well p e h clock)

-- AN EXCEPTION is thrown

pub pending_well : (e : Moment) (o : ℕ) (d : Doing) → IsWellFormed e.program d.state → e.thread < length d.state.guest.threads → IsWellFormed e.program (pending_now e o d).state
pending_well e o d h lt = with_thread_well e.program d.state e.thread (with_pending (Some o) (thread_at d.state.guest e.thread)) h lt (may_throw e.program d.state e.thread (Some o) h lt)

pub given_up : (e : Moment) (d : Doing) → IsUnderWayAt e d → IsUnderWayAt e (entry_given_up e d)
given_up e d h =
    let x : ThreadState = as_entered (thread_at d.state.guest e.thread) in
    let n : length (set d.state.guest.threads e.thread x) ≡ length d.state.guest.threads = length-set d.state.guest.threads e.thread x in
    let entered : IsUnderWayAt e (with_thread_state e x d) = record {
      well = with_thread_well e.program d.state e.thread x h.well h.thread (may_be_entered e.program d.state e.thread h.well h.thread);
      thread = subst (λ (k : ℕ). e.thread < k) (sym n) h.thread;
    } in
    if_case (λ (y : Doing). IsUnderWayAt e y) (has_frame (thread_at d.state.guest e.thread).frames) d (with_thread_state e x d) h entered

pub throws_sound : (e : Moment) (error : GuestError) (d : Doing) → MakesSound e.program → IsUnderWayAt e d → KeepsSound e.program (throws e error d)
throws_sound e error d makes h =
    let x : Doing = entry_given_up e d in
    let g : IsUnderWayAt e x = given_up e d h in
    let y : Doing = instance_made e (error_class e.program error) x in
    ends_sound e.program (pending_now e (next_object d) y) (pending_well e (next_object d) y (instance_well e (error_class e.program error) x (makes.error error) g.well) g.thread)

-- WHAT REFUSES

pub unless_ill_typed : (p : Linked) (e : Moment) (b : Bool) (go : Outcome Kept) → (b ≡ true → KeepsSound p go) → KeepsSound p (ill_typed_unless e b go)
unless_ill_typed p e true go h = h refl
unless_ill_typed p e false go h = tt

pub unless_thrown : (e : Moment) (d : Doing) (error : GuestError) (b : Bool) (go : Outcome Kept) → MakesSound e.program → IsUnderWayAt e d → (b ≡ true → KeepsSound e.program go) → KeepsSound e.program (throws_unless e d error b go)
unless_thrown e d error true go makes g h = h refl
unless_thrown e d error false go makes g h = throws_sound e error d makes g

pub where_resolved : (e : Moment) (d : Doing) (answer : Result ℕ LinkError) (go : ℕ → Outcome Kept) → MakesSound e.program → IsUnderWayAt e d → ((member : ℕ) → answer ≡ Ok member → KeepsSound e.program (go member)) → KeepsSound e.program (resolved e d answer go)
where_resolved e d (Ok member) go makes g h = h member refl
where_resolved e d (Err error) go makes g h = throws_sound e (error_of error) d makes g

pub where_not_null : (e : Moment) (d : Doing) (r : Reference) (go : ℕ → Outcome Kept) → MakesSound e.program → IsUnderWayAt e d → ((o : ℕ) → r ≡ Some o → KeepsSound e.program (go o)) → KeepsSound e.program (not_null e d r go)
where_not_null e d None go makes g h = throws_sound e NullPointerException d makes g
where_not_null e d (Some o) go makes g h = h o refl

pub unless_waiting : (p : Linked) (e : Moment) (b : Bool) (go : Outcome Kept) → IsSoundFor p e.before → e.before.guest.clock < 2 ^ 40 → (b ≡ true → KeepsSound p go) → KeepsSound p (waits_unless e b go)
unless_waiting p e true go sound clock h = h refl
unless_waiting p e false go sound clock h = waits_sound p e sound clock

pub where_frame_fits : (e : Moment) (d : Doing) (go : Outcome Kept) → MakesSound e.program → IsUnderWayAt e d → (length (thread_at d.state.guest e.thread).frames < most_frames → KeepsSound e.program go) → KeepsSound e.program (frame_fits e d go)
where_frame_fits e d go makes g h =
    let n : ℕ = length (thread_at d.state.guest e.thread).frames in
    unless_thrown e d StackOverflowError (ltb n most_frames) go makes g (λ few. h (ltb-true n most_frames few))
