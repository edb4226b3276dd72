-- The four kinds of calls.
use Rattle.std.proofs.Common.{◌≡◌, ℕ, ◌+◌, Bool, true, false, List, length, drop, Option, Some, None, refl, sym, ◌∙◌, ap, subst, arith}
use Rattle.std.specs.Prelude.{IsSome, nat_le, codes}
use Rattle.std.specs.Str.{bytes_eq}
use Rattle.std.proofs.lemmas.Bool.{and_parts, leb-true, not-true, true≢false}
use Rattle.et_class.specs.Descriptors.{MethodType, method_type}
use Rattle.et_heap.specs.Objects.{IsHeld}
use Rattle.et_program.specs.Entries.{Linked, method_at, is_static}
use Rattle.et_program.specs.declared.info.MethodInfo.{MethodInfo}
use Rattle.et_program.specs.Resolution.{resolve_class, resolve_method, select, select_special}
use Rattle.et_state.specs.Threads.{FrameState}
use Rattle.et_state.specs.State.{Kept}
use Rattle.et_state.specs.Outcome.{Outcome}
use Rattle.et_event.specs.declared.rows.CallKind.{CallKind}
use Rattle.et_event.specs.declared.rows.CallKind.TheVariants.{Virtual, Special, Static, Interface}
use Rattle.et_event.specs.declared.rows.CallRow.TheVariants.{Invoke}
use Rattle.et_event.specs.declared.rows.Row.TheVariants.{Call}
use Rattle.et_event.specs.declared.errors.GuestError.TheVariants.{IncompatibleClassChangeError}
use Rattle.et_event.specs.BuiltIns.{built_in_event}
use Rattle.et_event.specs.Calls.{entry_count, arguments_of, is_static_call, call_fits, are_arguments, with_type, with_method, taking, enters_method, fits_resolved, special_class, dispatched, is_as, invoke}
use Rattle.et_event.specs.Frames.{first_reference, receiver_of}
use Rattle.et_event.specs.Operands.{returned_width}
use Rattle.et_event.specs.Moments.{Moment, Doing, current_frame, begins, object_class}
use Rattle.et_event.specs.Monitors.{lock_for}
use Rattle.et_event.specs.Sites.{Site, Member, site_member, names_interface, site_of, pool_of_class}
use Rattle.et_event.specs.Sound.{returned_of}
use Rattle.et_history.specs.soundness.Outcomes.{KeepsSound}
use Rattle.et_history.specs.soundness.WellFormed.{IsUnderWayAt, MayEnter}
use Rattle.et_history.proofs.soundness.Fields.{going, operands_there}
use Rattle.et_history.proofs.soundness.Outcomes.{unless_ill_typed, unless_thrown, where_resolved, where_not_null}
use Rattle.et_history.specs.soundness.Methods.{IsMethod, IsInstanceMethod}
use Rattle.et_history.specs.soundness.Places.{IsAtRow}
use Rattle.et_event.specs.Runnable.{IsRunnable}
use Rattle.et_history.proofs.soundness.Resolving.{resolved_method, selected_method, selected_special}
use Rattle.et_history.proofs.soundness.Arguments.{AreArguments, arguments_are, receiver_contained, IsLockOf, lock_of}
use Rattle.et_history.proofs.soundness.Entering.{runs_here, StandsIn, stands_in, IsOnTime, object_count, may_enter}
use Rattle.et_history.proofs.soundness.Calling.{IsCall, passed, IsCalled, typed_as, returned_as, not_initializing, entered_sound}
use Rattle.et_history.proofs.soundness.BuiltIns.{built_in_sound}
use Rattle.et_history.proofs.soundness.Initialized.{IsReady, where_initialized}

-- A STATIC METHOD, once its class is initialized

static_sound : (e : Moment) (at : Site) (member : Member) (type : MethodType) (m : ℕ) → IsRunnable e.program → IsCall e at Static member type → IsMethod e.program member.name member.descriptor m → is_static e.program m ≡ true → (d : Doing) → IsReady e d
    → KeepsSound e.program (enters_method e at d (passed e Static type) m)
static_sound e at member type m may call is static d ready =
    let p : Linked = e.program in
    let called : IsCalled e Static member type m = record { method = is; static = static; receiver = λ instance. absurd (true≢false (sym static ∙ instance)) } in
    let n : ℕ = length (passed e Static type) in
    let x : Doing = taking e n d in
    let on : IsOnTime e x = record { clock = ready.on_time.clock; monitors = ready.on_time.monitors } in
    let lock : MayEnter x (lock_for (method_at p m) (receiver_of p m (passed e Static type))) =
    may_enter e x (lock_for (method_at p m) (receiver_of p m (passed e Static type))) call.here.stands.sound on
    (λ o locked. let own : IsLockOf p m (passed e Static type) o = lock_of p m (passed e Static type) o locked in absurd (true≢false (sym static ∙ own.instance))) in
    entered_sound e at Static member type m d (built_in_event e at d (passed e Static type) (method_at p m)) may call called (record { going = ready.going; threads = ready.threads; lock = lock })
    (λ none native. absurd (true≢false (sym (may.methods.static m is.within static (not_initializing e Static member type m call.called called) none) ∙ native)))

-- A METHOD OF AN OBJECT

instance_sound : (e : Moment) (at : Site) (kind : CallKind) (member : Member) (type : MethodType) (k o : ℕ) → IsRunnable e.program → IsCall e at kind member type → is_static_call kind ≡ false → first_reference (passed e kind type) ≡ Some o
    → IsInstanceMethod e.program member.name member.descriptor k → KeepsSound e.program (enters_method e at (begins e) (passed e kind type) k)
instance_sound e at kind member type k o may call instance receiver is =
    let p : Linked = e.program in
    let args = passed e kind type in
    let count : ℕ = entry_count (is_static_call kind) type in
    let here = call.here.stands in
    let called : IsCalled e kind member type k = record { method = is.method; static = is.instance ∙ sym instance; receiver = λ b. some_is (first_reference args) o receiver } in
    let held : (q : ℕ) → first_reference args ≡ Some q → IsHeld e.before.heap q = λ q named. (operands_there e at here).held q (receiver_contained (current_frame e).operands count q named) in
    let x : Doing = taking e (length args) (begins e) in
    let on : IsOnTime e x = record { clock = refl; monitors = refl } in
    let lock : MayEnter x (lock_for (method_at p k) (receiver_of p k args)) =
    may_enter e x (lock_for (method_at p k) (receiver_of p k args)) here.sound on
    (λ q locked. let own : IsLockOf p k args q = lock_of p k args q locked in (held q own.receiver, object_count e q here.sound (held q own.receiver))) in
    let are : AreArguments (current_frame e).operands count args = arguments_are (current_frame e).operands count in
    let width : returned_width (returned_of (method_at p k)) ≡ returned_width type.returned = ap returned_width (returned_as e kind member type k call.typed called) in
    entered_sound e at kind member type k (begins e) (built_in_event e at (begins e) args (method_at p k)) may call called (record { going = going e at here; threads = refl; lock = lock })
    (λ none native. built_in_sound e at args (method_at p k) type here may held (typed_as e kind member type k call.typed called) (subst (λ (b : Bool). are_arguments b type args ≡ true) instance call.passed) (omega (arith, are.left, call.fits)))
  where
    some_is : (r : Option ℕ) (q : ℕ) → r ≡ Some q → IsSome r
    some_is r q named = subst (λ (s : Option ℕ). IsSome s) (sym named) refl

-- .. that is selected from one of this descriptor
as_named : (p : Linked) (m k : ℕ) (name type : List ℕ) → IsMethod p name type m → IsInstanceMethod p (method_at p m).name (method_at p m).descriptor k → IsInstanceMethod p name type k
as_named p m k name type is named = subst (λ (t : List ℕ). IsInstanceMethod p name t k) is.descriptor (subst (λ (n : List ℕ). IsInstanceMethod p n (method_at p m).descriptor k) is.named named)

dispatched_sound : (e : Moment) (at : Site) (kind : CallKind) (member : Member) (type : MethodType) (owner m : ℕ) → IsRunnable e.program → IsCall e at kind member type → IsMethod e.program member.name member.descriptor m → is_static e.program m ≡ is_static_call kind
    → KeepsSound e.program (dispatched e at kind (passed e kind type) owner m)
dispatched_sound e at Static member type owner m may call is static =
    where_initialized e (method_at e.program m).class _ call.here.stands.sound call.here.stands.clock may.initializers may.makes (may.owners m is.within) (going e at call.here.stands)
    (λ d ready. static_sound e at member type m may call is static d ready)
dispatched_sound e at Virtual member type owner m may call is instance =
    let p : Linked = e.program in
    let g : IsUnderWayAt e (begins e) = going e at call.here.stands in
    where_not_null e (begins e) (first_reference (passed e Virtual type)) _ may.makes g (λ o receiver.
    unless_ill_typed p e (fits_resolved e (begins e) (passed e Virtual type) m o) _ (λ fit.
    where_resolved e (begins e) (select p (object_class (begins e) o) m false) _ may.makes g (λ k found.
    instance_sound e at Virtual member type k o may call refl receiver (as_named p m k member.name member.descriptor is (selected_method p (object_class (begins e) o) m false k is.within instance found)))))
dispatched_sound e at Special member type owner m may call is instance =
    let p : Linked = e.program in
    let g : IsUnderWayAt e (begins e) = going e at call.here.stands in
    where_not_null e (begins e) (first_reference (passed e Special type)) _ may.makes g (λ o receiver.
    unless_ill_typed p e (fits_resolved e (begins e) (passed e Special type) m o) _ (λ fit.
    where_resolved e (begins e) (select_special p at.class (special_class p owner) m) _ may.makes g (λ k found.
    instance_sound e at Special member type k o may call refl receiver (as_named p m k member.name member.descriptor is (selected_special p at.class (special_class p owner) m k is.within instance found)))))
dispatched_sound e at Interface member type owner m may call is instance =
    let p : Linked = e.program in
    let g : IsUnderWayAt e (begins e) = going e at call.here.stands in
    where_not_null e (begins e) (first_reference (passed e Interface type)) _ may.makes g (λ o receiver.
    where_resolved e (begins e) (select p (object_class (begins e) o) m true) _ may.makes g (λ k found.
    instance_sound e at Interface member type k o may call refl receiver (as_named p m k member.name member.descriptor is (selected_method p (object_class (begins e) o) m true k is.within instance found))))

-- THE INSTRUCTION

type_named : (p : Linked) (e : Moment) (o : Option MethodType) (go : MethodType → Outcome Kept) → ((type : MethodType) → o ≡ Some type → KeepsSound p (go type)) → KeepsSound p (with_type e o go)
type_named p e None go h = tt
type_named p e (Some type) go h = h type refl

method_named : (p : Linked) (e : Moment) (o : Option Member) (go : Member → MethodType → Outcome Kept) → ((m : Member) (type : MethodType) → o ≡ Some m → method_type m.descriptor ≡ Some type → KeepsSound p (go m type)) → KeepsSound p (with_method e o go)
method_named p e None go h = tt
method_named p e (Some m) go h = type_named p e (method_type m.descriptor) (go m) (λ type typed. h m type refl typed)

pub as_wanted : (b c : Bool) → is_as b c ≡ true → c ≡ b
as_wanted true c e = e
as_wanted false c e = not-true c e

-- no instruction names <clinit>
not_clinit : (e : Moment) (at : Site) (kind : CallKind) (member : Member) → IsAtRow e at (Call (Invoke kind)) → site_member at ≡ Some member → IsRunnable e.program → bytes_eq member.name (codes "<clinit>") ≡ false
not_clinit e at kind member here names may =
    let p : Linked = e.program in
    let f : FrameState = current_frame e in
    let s : StandsIn e here.decoded = stands_in e here.decoded (runs_here e at here.stands) here.is in
    may.methods.calls s.method (site_of p f here.decoded) kind member s.is (ap (λ (m : MethodInfo). pool_of_class p m.class) s.named) here.row (subst (λ (q : Site). site_member q ≡ Some member) here.site names)

pub invoke_sound : (e : Moment) (at : Site) (kind : CallKind) → IsAtRow e at (Call (Invoke kind)) → IsRunnable e.program → KeepsSound e.program (invoke e at kind)
invoke_sound e at kind here may =
    let p : Linked = e.program in
    let g : IsUnderWayAt e (begins e) = going e at here.stands in
    method_named p e (site_member at) _ (λ member type names typed.
    unless_ill_typed p e (call_fits e (is_static_call kind) type) _ (λ fits.
    where_resolved e (begins e) (resolve_class p member.owner) _ may.makes g (λ owner named.
    where_resolved e (begins e) (resolve_method p owner (names_interface at) member.name member.descriptor) _ may.makes g (λ m found.
    unless_thrown e (begins e) IncompatibleClassChangeError (is_as (is_static_call kind) (is_static p m)) _ may.makes g (λ wanted.
    let count : ℕ = entry_count (is_static_call kind) type in
    let ops = (current_frame e).operands in
    let parts = and_parts (are_arguments (is_static_call kind) type (arguments_of e count)) (nat_le (length (drop count ops) + returned_width type.returned) (current_frame e).room) fits in
    let call : IsCall e at kind member type = record { here = here; names = names; typed = typed; called = not_clinit e at kind member here names may; passed = parts.0; fits = leb-true (length (drop count ops) + returned_width type.returned) (current_frame e).room parts.1 } in
    dispatched_sound e at kind member type owner m may call (resolved_method p owner (names_interface at) member.name member.descriptor m found) (as_wanted (is_static_call kind) (is_static p m) wanted))))))
