-- What is held before an event.
use Rattle.et_base.specs.declared.value.Value.{Value}
use Rattle.et_base.specs.declared.value.Value.TheVariants.{Int, Long, LongHigh, Null, Ref, Unset}
use Rattle.et_class.specs.Names.{has}
use Rattle.et_class.specs.declared.flags.TheConstants.{STATIC, SYNCHRONIZED}
use Rattle.et_code.specs.Bodies.{Body}
use Rattle.et_event.specs.Calls.{entry_arguments}
use Rattle.et_event.specs.Errors.{error_class}
use Rattle.et_event.specs.Frames.{first_reference, frames_after_return, lock_slot, method_frame, receiver_of, resumed}
use Rattle.et_event.specs.Moments.{Moment, current_frame, thread_of}
use Rattle.et_event.specs.Monitors.{OfClass, OfObject, lock_for, lock_in}
use Rattle.et_event.specs.PoolOperands.Operand.{Operand}
use Rattle.et_event.specs.Programs.{MayHold}
use Rattle.et_event.specs.Runnable.{IsRunnable}
use Rattle.et_event.specs.Sound.{IsSoundFor, is_of_kind, kind_of_element}
use Rattle.et_event.specs.declared.errors.GuestError.{GuestError}
use Rattle.et_heap.specs.Objects.{Objects, referent_of}
use Rattle.et_program.specs.Entries.{Linked, class_at, is_static, method_at, no_method}
use Rattle.et_program.specs.declared.info.Element.TheVariants.{NoArray}
use Rattle.et_program.specs.declared.info.MethodInfo.{MethodInfo}
use Rattle.et_state.specs.Threads.{FrameState, is_before_class}
use Rattle.et_state.specs.Words.{IsUnended}
use Rattle.et_state.specs.declared.stage.Stage.{Stage}
use Rattle.et_state.specs.declared.stage.Stage.TheVariants.{Before, Clinit, Plain}
use Rattle.et_history.proofs.steps.Heaps.{fine_thread}
use Rattle.et_history.proofs.steps.Values.{fines_append, fines_unset, frame_grows, first_fine as frame_first}
use Rattle.et_history.specs.steps.Steps.{AllThere, own_lock}
use Rattle.et_history.specs.steps.Values.{Fine, FineFrame, FineFrames, FineSome, FineThread, Fines, Grows}
use Rattle.std.proofs.Common.{Bool, List, None, Option, Some, [], ap, arith, false, get_or, inl, inr, length, refl, replicate, suc, true, zero, ℕ, ◌-◌, ◌<◌, ◌∷◌, ◌≡◌, ◌≤◌}
use Rattle.std.proofs.lemmas.Bool.{cases_lt, false≢true, true≢false}
use Rattle.std.specs.Prelude.{if◌then◌else◌, option_map, unwrap_or}
use Rattle.et_event.specs.PoolOperands.Operand.TheVariants as operand
use Rattle.et_history.proofs.soundness.Outcomes.{if_case}

-- what is known of the moment: the state is sound, and the thread was started and has not ended
pub record Knows (e : Moment) : Type 0 where
  pub sound : IsSoundFor e.program e.before
  pub thread : IsUnended e.before.guest e.thread
  pub classes : (m : ℕ) → m < length e.program.methods → (method_at e.program m).class < length e.program.classes

-- .. and of the program
pub record Ready (e : Moment) : Type 0 where
  pub knows : Knows e
  pub may : IsRunnable e.program

pub thread_fine : (e : Moment) → Ready e → FineThread e.before.heap (thread_of e)
thread_fine e ready = fine_thread e.before e.thread ready.knows.sound.held ready.knows.thread.thread

pub frame_fine : (e : Moment) → Ready e → FineFrame e.before.heap (current_frame e)
frame_fine e ready = frame_first e.before.heap (thread_of e).frames (thread_fine e ready).frames

-- an exception of the machine is no array
no_high : (k : Option Operand) → is_of_kind k LongHigh ≡ true → ⊥
no_high None e = false≢true e
no_high (Some operand.Int) e = false≢true e
no_high (Some operand.Long) e = false≢true e
no_high (Some operand.Reference) e = false≢true e

pub error_plain : (e : Moment) → Ready e → (error : GuestError) → (class_at e.program (error_class e.program error)).info.element ≡ NoArray
error_plain e ready error =
    let holds : MayHold e.program (error_class e.program error) 0 LongHigh = ready.may.errors error 0 LongHigh in
    elim holds.elements [ inl high ↦ absurd (no_high (kind_of_element (class_at e.program (error_class e.program error)).info.element) high) | inr plain ↦ plain ]

-- a frame of this stage runs a method
abbrev pub IsInMethod : Stage → Type 0
IsInMethod Plain = Unit {0}
IsInMethod (Before c) = ⊥
IsInMethod (Clinit c) = Unit {0}

pub in_method : (stage : Stage) → is_before_class stage ≡ false → IsInMethod stage
in_method Plain e = tt
in_method (Before c) e = absurd (true≢false e)
in_method (Clinit c) e = tt

flags_beyond : (p : Linked) (m : ℕ) → length p.methods ≤ m → has (method_at p m).flags SYNCHRONIZED ≡ false
flags_beyond p m le = ap (λ (x : MethodInfo). has x.flags SYNCHRONIZED) (beyond p.methods m le)
  where
    beyond : (ms : List MethodInfo) (k : ℕ) → length ms ≤ k → get_or ms k no_method ≡ no_method
    beyond [] k h = refl
    beyond (x ∷ ms) zero h = absurd (omega arith)
    beyond (x ∷ ms) (suc k) h = beyond ms k (omega arith)

class_there : (e : Moment) (m : ℕ) → Knows e → has (method_at e.program m).flags SYNCHRONIZED ≡ true → (method_at e.program m).class < length e.before.guest.class_monitors
class_there e m knows sync =
    let same : length e.before.guest.class_monitors ≡ length e.program.classes = knows.sound.class_monitors.0 in
    elim (cases_lt m (length e.program.methods)) [
      | inl lt ↦ (let within = knows.classes m lt in omega arith)
      | inr le ↦ absurd (both (flags_beyond e.program m le) sync)
    ]
  where
    both : {b : Bool} → b ≡ false → b ≡ true → ⊥
    both f t = cc

object_there : (e : Moment) (r : Option ℕ) → FineSome e.before.heap r → AllThere e (option_map (λ o. OfObject o) r)
object_there e None fine = tt
object_there e (Some o) fine = fine

lock_known : (e : Moment) (m : ℕ) (r : Option ℕ) → Knows e → FineSome e.before.heap r → AllThere e (lock_for (method_at e.program m) r)
lock_known e m r knows fine = by (has (method_at e.program m).flags SYNCHRONIZED) (has (method_at e.program m).flags STATIC) refl
  where
    by : (sync static : Bool) → has (method_at e.program m).flags SYNCHRONIZED ≡ sync
        → AllThere e (if sync then (if static then Some (OfClass (method_at e.program m).class) else option_map (λ o. OfObject o) r) else None)
    by true true is = class_there e m knows is
    by true false is = object_there e r fine
    by false static is = tt

pub lock_there : (e : Moment) (ready : Ready e) (m : ℕ) (r : Option ℕ) → FineSome e.before.heap r → AllThere e (lock_for (method_at e.program m) r)
lock_there e ready m r fine = lock_known e m r ready.knows fine

pub first_fine : (h : Objects) (vs : List Value) → Fines h vs → FineSome h (first_reference vs)
first_fine h [] f = tt
first_fine h (Unset ∷ vs) f = tt
first_fine h (Int n ∷ vs) f = tt
first_fine h (Long n ∷ vs) f = tt
first_fine h (LongHigh ∷ vs) f = tt
first_fine h (Null ∷ vs) f = tt
first_fine h (Ref o ∷ vs) f = f.0

pub receiver_fine : (h : Objects) (p : Linked) (m : ℕ) (vs : List Value) → Fines h vs → FineSome h (receiver_of p m vs)
receiver_fine h p m vs f = if_case (FineSome h) (is_static p m) None (first_reference vs) tt (first_fine h vs f)

slot_fine : (h : Objects) (p : Linked) (m : ℕ) (vs : List Value) → Fines h vs → FineSome h (lock_slot p m vs)
slot_fine h p m vs f = if_case (FineSome h) (has (method_at p m).flags SYNCHRONIZED) (receiver_of p m vs) None (receiver_fine h p m vs f) tt

pub method_frame_fine : (e : Moment) (m : ℕ) (body : Body) (arguments : List Value) → Fines e.before.heap arguments → FineFrame e.before.heap (method_frame e.program m body arguments)
method_frame_fine e m body arguments f = record {
  locals = fines_append e.before.heap arguments (replicate (body.max_locals - length arguments) Unset) f (fines_unset e.before.heap (body.max_locals - length arguments));
  operands = tt;
  lock = slot_fine e.before.heap e.program m arguments f;
}

pub reference_fine : (h : Objects) (v : Value) → Fine h v → FineSome h (referent_of v)
reference_fine h Unset f = tt
reference_fine h (Int n) f = tt
reference_fine h (Long n) f = tt
reference_fine h LongHigh f = tt
reference_fine h Null f = tt
reference_fine h (Ref o) f = f

pub entry_fine : (h : Objects) (o : Option ℕ) → FineSome h o → Fines h (entry_arguments o)
entry_fine h None held = tt
entry_fine h (Some o) held = (held, tt)

staged_there : (e : Moment) (stage : Stage) (m : ℕ) (r : Option ℕ) → Knows e → FineSome e.before.heap r → AllThere e (lock_in stage (method_at e.program m) r)
staged_there e Plain m r knows fine = lock_known e m r knows fine
staged_there e (Before c) m r knows fine = tt
staged_there e (Clinit c) m r knows fine = tt

pub own_there : (e : Moment) → Ready e → AllThere e (own_lock e)
own_there e ready = staged_there e (current_frame e).stage (unwrap_or (current_frame e).method 0) (current_frame e).lock ready.knows (frame_fine e ready).lock

resumed_fine : (h : Objects) (p : Linked) (values : List Value) (fs : List FrameState) → Fines h values → FineFrames h fs → FineFrames h (resumed p values fs)
resumed_fine h p values [] g fine = tt
resumed_fine h p values (f ∷ below) g fine = (record { locals = fine.0.locals; operands = fines_append h values f.operands g fine.0.operands; lock = fine.0.lock }, fine.1)

pub returned_fine : (h : Objects) (p : Linked) (stage : Stage) (values : List Value) (fs : List FrameState) → Fines h values → FineFrames h fs → FineFrames h (frames_after_return p stage values fs)
returned_fine h p Plain values fs g fine = resumed_fine h p values fs g fine
returned_fine h p (Before c) values fs g fine = fine
returned_fine h p (Clinit c) values fs g fine = fine

pub frames_grow : (h h' : Objects) (fs : List FrameState) → Grows h h' → FineFrames h fs → FineFrames h' fs
frames_grow h h' [] g fine = tt
frames_grow h h' (f ∷ below) g fine = (frame_grows h h' f g fine.0, frames_grow h h' below g fine.1)
