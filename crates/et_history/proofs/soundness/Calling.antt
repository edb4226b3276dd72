-- The calls (JVMS 2.6, 6.5 invokevirtual, invokespecial, invokestatic, invokeinterface).
use Rattle.std.proofs.Common.{◌≡◌, ℕ, ◌+◌, ◌<◌, ◌≤◌, ◌||◌, Bool, true, false, not, List, [], ◌∷◌, length, drop, Option, Some, None, refl, sym, ◌∙◌, ap, subst, arith}
use Rattle.std.specs.Prelude.{IsSome, slice_index_or, codes}
use Rattle.std.specs.Str.{bytes_eq}
use Rattle.std.specs.Option.{option_map_or}
use Rattle.std.proofs.lemmas.Bool.{not-true}
use Rattle.et_base.specs.declared.value.Value.{Value}
use Rattle.et_class.specs.Descriptors.{MethodType, method_type}
use Rattle.et_code.specs.Bodies.{Body}
use Rattle.et_class.specs.Names.{has}
use Rattle.et_class.specs.declared.flags.TheConstants.{NATIVE}
use Rattle.et_program.specs.Entries.{Linked, method_at, is_static}
use Rattle.et_state.specs.Threads.{FrameState, ThreadState, no_thread, popped, rest_of}
use Rattle.et_state.specs.State.{Kept}
use Rattle.et_state.specs.Words.{thread_at}
use Rattle.et_state.specs.Outcome.{Outcome}
use Rattle.et_event.specs.declared.rows.CallKind.{CallKind}
use Rattle.et_event.specs.declared.rows.CallRow.TheVariants.{Invoke}
use Rattle.et_event.specs.declared.rows.Row.TheVariants.{Call}
use Rattle.et_event.specs.declared.errors.GuestError.TheVariants.{UnsatisfiedLinkError}
use Rattle.et_event.specs.Calls.{entry_count, arguments_of, is_static_call, are_arguments, taking}
use Rattle.et_event.specs.Frames.{first_reference, receiver_of, method_frame, by_code, enters}
use Rattle.et_event.specs.Operands.{returned_width}
use Rattle.et_event.specs.Moments.{Moment, Doing, current_frame, thread_of}
use Rattle.et_event.specs.Monitors.{lock_for}
use Rattle.et_event.specs.Sites.{Site, Member, site_member}
use Rattle.et_event.specs.Sound.{IsCaller, AreSoundFrames, returned_of}
use Rattle.et_history.specs.soundness.Outcomes.{KeepsSound}
use Rattle.et_event.specs.Programs.{is_initializing}
use Rattle.et_history.specs.soundness.WellFormed.{IsUnderWayAt, MayTake, MayEnter}
use Rattle.et_history.proofs.soundness.Frames.{call_frames}
use Rattle.et_history.proofs.soundness.Outcomes.{unless_thrown}
use Rattle.et_history.specs.soundness.Methods.{IsMethod}
use Rattle.et_history.specs.soundness.Places.{IsAtRow}
use Rattle.et_event.specs.Runnable.{IsRunnable}
use Rattle.et_history.proofs.soundness.Arguments.{AreArguments, arguments_are}
use Rattle.et_history.proofs.soundness.Entering.{taking_going, taken_frames, caller_frames, MayBeEntered, code_sound}

-- A CALL that the operands of its frame fit

pub record IsCall (e : Moment) (at : Site) (kind : CallKind) (member : Member) (type : MethodType) : Type 0 where
  pub here : IsAtRow e at (Call (Invoke kind))
  pub names : site_member at ≡ Some member
  pub typed : method_type member.descriptor ≡ Some type
  -- it doesn't name <clinit>
  pub called : bytes_eq member.name (codes "<clinit>") ≡ false
  pub passed : are_arguments (is_static_call kind) type (arguments_of e (entry_count (is_static_call kind) type)) ≡ true
  pub fits : length (drop (entry_count (is_static_call kind) type) (current_frame e).operands) + returned_width type.returned ≤ (current_frame e).room

-- its arguments
abbrev pub passed : Moment → CallKind → MethodType → List Value
passed e kind type = arguments_of e (entry_count (is_static_call kind) type)

-- what it enters
pub record IsCalled (e : Moment) (kind : CallKind) (member : Member) (type : MethodType) (m : ℕ) : Type 0 where
  pub method : IsMethod e.program member.name member.descriptor m
  pub static : is_static e.program m ≡ is_static_call kind
  pub receiver : is_static e.program m ≡ false → IsSome (first_reference (passed e kind type))

pub typed_as : (e : Moment) (kind : CallKind) (member : Member) (type : MethodType) (m : ℕ) → method_type member.descriptor ≡ Some type → IsCalled e kind member type m → method_type (method_at e.program m).descriptor ≡ Some type
typed_as e kind member type m typed called = ap method_type called.method.descriptor ∙ typed

pub returned_as : (e : Moment) (kind : CallKind) (member : Member) (type : MethodType) (m : ℕ) → method_type member.descriptor ≡ Some type → IsCalled e kind member type m → returned_of (method_at e.program m) ≡ type.returned
returned_as e kind member type m typed called = ap (λ (o : Option MethodType). option_map_or (λ (t : MethodType). t.returned) o []) (typed_as e kind member type m typed called)

-- it is no <clinit>
pub not_initializing : (e : Moment) (kind : CallKind) (member : Member) (type : MethodType) (m : ℕ) → bytes_eq member.name (codes "<clinit>") ≡ false → IsCalled e kind member type m → is_initializing e.program m ≡ false
not_initializing e kind member type m named called = ap (λ (name : List ℕ). bytes_eq name (codes "<clinit>")) called.method.named ∙ named

pub either : (a b c : Bool) → a ≡ c → b ≡ false → (a || b) ≡ c
either true b c e h = e
either false b c e h = h ∙ e

takes : (e : Moment) (at : Site) (kind : CallKind) (member : Member) (type : MethodType) (m : ℕ) (body : Body) → IsRunnable e.program → IsCall e at kind member type → IsCalled e kind member type m → (method_at e.program m).code ≡ Some body → MayTake e.program m body (passed e kind type)
takes e at kind member type m body may call called code =
    let args : AreArguments (current_frame e).operands (entry_count (is_static_call kind) type) (passed e kind type) = arguments_are (current_frame e).operands (entry_count (is_static_call kind) type) in
    let few : entry_count (is_static e.program m || is_initializing e.program m) type ≤ body.max_locals = may.methods.arguments m body type called.method.within code (typed_as e kind member type m call.typed called) in
    let flags : (is_static e.program m || is_initializing e.program m) ≡ is_static_call kind = either (is_static e.program m) (is_initializing e.program m) (is_static_call kind) called.static (not_initializing e kind member type m call.called called) in
    let same : entry_count (is_static e.program m || is_initializing e.program m) type ≡ entry_count (is_static_call kind) type = ap (λ (b : Bool). entry_count b type) flags in
    record { method = called.method.within; code = code; few = omega (arith, args.few); receiver = called.receiver }

caller : (e : Moment) (at : Site) (kind : CallKind) (member : Member) (type : MethodType) (m : ℕ) (body : Body) → IsCall e at kind member type → IsCalled e kind member type m
    → IsCaller e.program (popped (length (passed e kind type)) (current_frame e)) (method_frame e.program m body (passed e kind type))
caller e at kind member type m body call called =
    let args : AreArguments (current_frame e).operands (entry_count (is_static_call kind) type) (passed e kind type) = arguments_are (current_frame e).operands (entry_count (is_static_call kind) type) in
    let width : returned_width (returned_of (method_at e.program m)) ≡ returned_width type.returned = ap returned_width (returned_as e kind member type m call.typed called) in
    record {
      runs = call.here.stands.runs;
      decoded = call.here.decoded;
      at = call.here.is;
      kind = kind;
      call = call.here.row;
      member = member;
      names = subst (λ (s : Site). site_member s ≡ Some member) call.here.site call.names;
      descriptor = sym called.method.descriptor;
      fits = omega (arith, args.left, call.fits);
    }

-- IT IS ENTERED, in a state with the threads before the event

pub record IsCalledIn (e : Moment) (kind : CallKind) (type : MethodType) (m : ℕ) (d : Doing) : Type 0 where
  pub going : IsUnderWayAt e d
  pub threads : d.state.guest.threads ≡ e.before.guest.threads
  pub lock : MayEnter (taking e (length (passed e kind type)) d) (lock_for (method_at e.program m) (receiver_of e.program m (passed e kind type)))

pub with_code : (e : Moment) (at : Site) (kind : CallKind) (member : Member) (type : MethodType) (m : ℕ) (d : Doing) (body : Body) → IsRunnable e.program → IsCall e at kind member type → IsCalled e kind member type m → IsCalledIn e kind type m d
    → (method_at e.program m).code ≡ Some body → MayBeEntered e m body (passed e kind type) d (taking e (length (passed e kind type)) d)
with_code e at kind member type m d body may call called is code =
    let p : Linked = e.program in
    let n : ℕ = length (passed e kind type) in
    let below : List FrameState = rest_of (thread_of e).frames in
    let frames : (thread_at (taking e n d).state.guest e.thread).frames ≡ popped n (current_frame e) ∷ below = taken_frames e n d call.here.stands.frame.thread is.threads in
    let there : AreSoundFrames p (method_frame p m body (passed e kind type) ∷ popped n (current_frame e) ∷ below) =
    call_frames p m body (passed e kind type) (popped n (current_frame e)) below (takes e at kind member type m body may call called code) (caller e at kind member type m body call called) (caller_frames e at n call.here.stands) in
    record {
      going = is.going;
      left = taking_going e at n d call.here.stands is.going.well is.threads;
      lock = is.lock;
      count = ap (λ (fs : List FrameState). length fs) frames ∙ counted e n d call.here.stands.frame.frame is.threads;
      frames = subst (λ (fs : List FrameState). AreSoundFrames p (method_frame p m body (passed e kind type) ∷ fs)) (sym frames) there;
    }
  where
    one_less : (fs : List FrameState) → 0 < length fs → 1 + length (rest_of fs) ≡ length fs
    one_less [] lt = absurd (omega arith)
    one_less (f ∷ fs) lt = omega arith

    counted : (q : Moment) (n : ℕ) (x : Doing) → 0 < length (thread_of q).frames → x.state.guest.threads ≡ q.before.guest.threads → length (popped n (current_frame q) ∷ rest_of (thread_of q).frames) ≡ length (thread_at x.state.guest q.thread).frames
    counted q n x lt same =
        let a : 1 + length (rest_of (thread_of q).frames) ≡ length (thread_of q).frames = one_less (thread_of q).frames lt in
        let b : length (thread_at x.state.guest q.thread).frames ≡ length (thread_of q).frames = ap (λ (ts : List ThreadState). length (slice_index_or ts q.thread no_thread).frames) same in
        omega arith

-- by its code; without one it is what a built-in method does
pub entered_sound : (e : Moment) (at : Site) (kind : CallKind) (member : Member) (type : MethodType) (m : ℕ) (d : Doing) (built_in : Outcome Kept) → IsRunnable e.program → IsCall e at kind member type → IsCalled e kind member type m → IsCalledIn e kind type m d
    → ((method_at e.program m).code ≡ None → has (method_at e.program m).flags NATIVE ≡ false → KeepsSound e.program built_in) → KeepsSound e.program (enters e d (taking e (length (passed e kind type))) m (passed e kind type) built_in)
entered_sound e at kind member type m d built_in may call called is without = by (method_at e.program m).code refl
  where
    by : (o : Option Body) → (method_at e.program m).code ≡ o → KeepsSound e.program (by_code e d (taking e (length (passed e kind type))) m (passed e kind type) built_in o)
    by (Some body) q = code_sound e d (taking e (length (passed e kind type))) m (passed e kind type) body call.here.stands.sound call.here.stands.clock may.makes (with_code e at kind member type m d body may call called is q)
    by None q = unless_thrown e d UnsatisfiedLinkError (not (has (method_at e.program m).flags NATIVE)) built_in may.makes is.going (λ b. without q (not-true (has (method_at e.program m).flags NATIVE) b))
