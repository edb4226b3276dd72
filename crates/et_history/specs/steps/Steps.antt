-- THE STEPS OF AN EVENT: what each event of the table is made of.
use Rattle.et_base.specs.declared.value.Value.{Value}
use Rattle.et_base.specs.declared.value.Value.TheVariants.{Null, Ref, Unset}
use Rattle.et_code.specs.Bodies.{Body}
use Rattle.et_event.specs.BuiltIns.{with_first_taken, with_queue_of, with_referent_of, with_thread_for}
use Rattle.et_event.specs.Calls.{frame_returned}
use Rattle.et_event.specs.Errors.{class_called, error_class}
use Rattle.et_event.specs.Frames.{frame_entered, receiver_of}
use Rattle.et_event.specs.Heap.{arrays_made, leaving_values}
use Rattle.et_event.specs.Initialization.{initializer_frame, with_state}
use Rattle.et_event.specs.Moments.{Doing, Moment, array_made, begins, current_frame, entry_given_up, fits_heap, instance_made, later, next_object, number_of_value, pending_now, slot_written, static_written, thread_of, told, with_frame, with_thread_state}
use Rattle.et_event.specs.Monitors.{Lock, OfClass, OfObject, entered, left, lock_for, lock_in, may_enter_some, owns_some}
use Rattle.et_event.specs.Programs.{HasDimensions, IsArrayClass}
use Rattle.et_event.specs.Sites.{Site, running_method}
use Rattle.et_event.specs.Strings.{interned}
use Rattle.et_event.specs.Throw.{dropped, handled, left_if_owned, replaced}
use Rattle.et_event.specs.declared.errors.GuestError.{GuestError}
use Rattle.et_heap.specs.Objects.{IsHeld, Objects, object_at, slot_of}
use Rattle.et_event.specs.Operands.{operand_kind}
use Rattle.et_event.specs.PoolOperands.Operand.{Operand}
use Rattle.et_event.specs.Sound.{is_of_kind}
use Rattle.et_program.specs.Entries.{Linked, class_at, field_at, method_at}
use Rattle.et_program.specs.declared.info.Element.TheVariants.{NoArray}
use Rattle.et_state.specs.Outcome.{Outcome}
use Rattle.et_state.specs.Sound.{IsSound}
use Rattle.et_state.specs.State.{Kept}
use Rattle.et_state.specs.Threads.{FrameState, as_ended, as_entered, entered_by, in_clinit, turn_of, with_pending, with_top_of}
use Rattle.et_state.specs.Words.{thread_at}
use Rattle.et_state.specs.declared.class_state.ClassState.{ClassState}
use Rattle.et_state.specs.declared.records.Record.TheVariants.{Enter, Unwind}
use Rattle.et_history.specs.steps.Holding.{monitor_row_at}
use Rattle.et_history.specs.steps.Values.{Fine, FineFrame, FineSome, Fines, Grows}
use Rattle.et_history.specs.steps.Writes.{HasCause, IsAtHand, is_out_slot}
use Rattle.et_program.specs.Members.{is_subclass}
use Rattle.std.specs.Prelude.{codes, ◌≤◌, IfSome, List, None, Option, false, length, slice_index_or, true, unwrap_or, ℕ, ◌+◌, ◌<◌, ◌∷◌, ◌≡◌, ◌⊎◌}
use Rattle.et_state.specs.Outcome as outcome

-- what an event may have made so far: the strings of constants alone, or other objects too
pub data Making : Type 0 where
  StringsAlone : Making
  AllObjects : Making

abbrev pub MakesObjects : Making → Type 0
MakesObjects StringsAlone = ⊥
MakesObjects AllObjects = Unit {0}

-- how far it is with its frames and monitors: as many frames as at first, and no monitor entered or left; one frame more or
-- less, with its monitor; or a monitor instruction is done
pub data Phase : Type 0 where
  Level : Phase
  Shifted : Phase
  Locked : Phase

-- WHAT IS KNOWN WHERE A STEP IS TAKEN

abbrev pub IsFramed : Moment → Type 0
IsFramed e = 0 < length (thread_of e).frames

-- the thread does a monitor instruction
abbrev pub IsAtMonitor : Moment → Type 0
IsAtMonitor e = monitor_row_at e (turn_of (thread_of e)) ≡ None → ⊥

-- from a sound state an event has come to this one
pub record IsUnder (e : Moment) (s : Kept) : Type 0 where
  pub sound : IsSound s
  pub clock : s.guest.clock ≡ e.before.guest.clock + 1
  pub thread : e.thread < length s.guest.threads
  -- what was held is held
  pub stays : Grows e.before.heap s.heap

-- a method of the program, and its class
pub record IsMethodOf (p : Linked) (m : ℕ) : Type 0 where
  pub method : m < length p.methods
  pub class : (method_at p m).class < length p.classes

-- what has the monitor is there before the event
abbrev pub HasMonitor : Moment → Lock → Type 0
HasMonitor e (OfObject o) = IsHeld e.before.heap o
HasMonitor e (OfClass c) = c < length e.before.guest.class_monitors

abbrev pub AllThere : Moment → Option Lock → Type 0
AllThere e lock = IfSome lock (λ l. HasMonitor e l)

-- the lock of the topmost frame
abbrev pub own_lock : Moment → Option Lock
own_lock e = lock_in (current_frame e).stage (running_method e.program (current_frame e)) (current_frame e).lock

-- a slot that the machine itself uses, or one of the object
abbrev pub HasSlot : Objects → (o i : ℕ) → Type 0
HasSlot h o i = (i < 2) ⊎ (i < length (object_at h o).slots)

pub record MayWrite (h : Objects) (o i : ℕ) (v : Value) : Type 0 where
  pub held : IsHeld h o
  pub slot : HasSlot h o i
  pub value : Fine h v

-- null, or an object
abbrev pub IsReference : Value → Type 0
IsReference Null = Unit {0}
IsReference (Ref o) = Unit {0}
IsReference other = ⊥

-- What a write tells is true: the slot is one of the object, also that of a cause where its class has one, and where no
-- reference is written none stood there. The object is at hand.
pub record MayTell (e : Moment) (h : Objects) (o i : ℕ) (v : Value) : Type 0 where
  pub slot : HasCause e.program → i < length (object_at h o).slots
  pub plain : IsReference v ⊎ (number_of_value (slot_of (object_at h o) i) ≡ 0)
  -- .. and it is none of the two slots of a Throwable that the machine itself uses
  pub own : IsReference v ⊎ (is_subclass e.program (object_at h o).class (class_called e.program (codes "java/lang/Throwable")) ≡ true → 2 ≤ i)
  pub at_hand : IsAtHand e.before o

-- the type of a static
abbrev pub kind_of_static : Linked → ℕ → Option Operand
kind_of_static p i = operand_kind (field_at p (slice_index_or p.statics i 0)).descriptor

-- a value of a type
pub record IsTyped (type : Option Operand) (v : Value) : Type 0 where
  pub kind : is_of_kind type v ≡ true
  pub given : v ≡ Unset → ⊥

-- THE STEPS. What a step asks beside its words is given by the table, or follows from the state to which the event has come.
pub data Comes (e : Moment) (k : Making) : Phase → Doing → Type 0 where
  Begins : Comes e k Level (begins e)
  -- frames: the topmost one goes on, a method or <clinit> is entered, an initializer begins, a frame returns, is dropped, or
  -- handles an exception
  GoesOn : (f : FrameState) (d : Doing) → Comes e k Level d → IsFramed e → (IsUnder e d.state → FineFrame d.state.heap f) → Comes e k Level (with_frame e f d)
  EntersCode : (m : ℕ) (body : Body) (arguments : List Value) (d : Doing) → Comes e k Level d → IsMethodOf e.program m → Fines e.before.heap arguments
      → AllThere e (lock_for (method_at e.program m) (receiver_of e.program m arguments)) → may_enter_some e d (lock_for (method_at e.program m) (receiver_of e.program m arguments)) ≡ true
      → Comes e k Shifted (frame_entered e m body arguments d)
  EntersClinit : (m : ℕ) (body : Body) (d : Doing) → Comes e k Level d → IsFramed e → IsMethodOf e.program m → FineFrame e.before.heap (in_clinit m body.max_stack body.max_locals (current_frame e))
      → Comes e k Level (told (Enter d.state.guest.clock e.thread m 0) (with_frame e (in_clinit m body.max_stack body.max_locals (current_frame e)) d))
  BeginsClass : (c : ℕ) (d : Doing) → Comes e k Level d → Comes e k Shifted (with_thread_state e (entered_by (initializer_frame c) (thread_at d.state.guest e.thread)) d)
  Returns : (values : List Value) → IsFramed e → IsMethodOf e.program (unwrap_or (current_frame e).method 0) → Fines e.before.heap values → AllThere e (own_lock e) → owns_some e (begins e) (own_lock e) ≡ true
      → Comes e k Shifted (frame_returned e values (begins e))
  Unwinds : (o : ℕ) → IsFramed e → IsMethodOf e.program (unwrap_or (current_frame e).method 0) → IsHeld e.before.heap o → AllThere e (own_lock e)
      → Comes e k Shifted (told (Unwind (begins e).state.guest.clock e.thread (unwrap_or (current_frame e).method 0) o) (dropped e (left_if_owned e (own_lock e) (begins e))))
  UnwindsClinit : (o : ℕ) → IsFramed e → IsMethodOf e.program (unwrap_or (current_frame e).method 0) → IsHeld e.before.heap o → own_lock e ≡ None
      → Comes e k Shifted (told (Unwind (begins e).state.guest.clock e.thread (unwrap_or (current_frame e).method 0) o) (dropped e (begins e)))
  Drops : (d : Doing) → Comes e k Level d → IsFramed e → own_lock e ≡ None → Comes e k Shifted (dropped e d)
  Catches : (o handler : ℕ) → IsFramed e → IsHeld e.before.heap o → Comes e k Level (with_thread_state e (with_pending None (with_top_of (thread_of e) (handled (current_frame e) handler o))) (begins e))
  -- threads: one counts as entered, has an exception pending, starts, ends
  CountsEntered : (d : Doing) → Comes e k Level d → Comes e k Level (with_thread_state e (as_entered (thread_at d.state.guest e.thread)) d)
  Pends : (ph : Phase) (o : ℕ) (d : Doing) → Comes e k ph d → (IsUnder e d.state → IsHeld d.state.heap o) → Comes e k ph (pending_now e o d)
  Starts : (o : ℕ) (d : Doing) → Comes e k Level d → (IsUnder e d.state → IsHeld d.state.heap o) → Comes e k Level (with_thread_for o d)
  Ends : Comes e k Level (with_thread_state e (as_ended (thread_of e)) (begins e))
  -- classes and statics
  ClassBecomes : (ph : Phase) (c : ℕ) (x : ClassState) (d : Doing) → Comes e k ph d → Comes e k ph (with_state c x d)
  WritesStatic : (i : ℕ) (v : Value) (d : Doing) → Comes e k Level d → i < length e.program.statics → (IsUnder e d.state → Fine d.state.heap v) → IsTyped (kind_of_static e.program i) v → is_out_slot e.program i ≡ false
      → Comes e k Level (static_written e i v d)
  Interns : (bytes : List ℕ) (d : Doing) → Comes e k Level d → Comes e k Level (interned e bytes d)
  -- objects: one is made, a slot is written, a monitor is entered or left, a reference is set, a queue is polled
  MakesInstance : (ph : Phase) (class : ℕ) (d : Doing) → MakesObjects k → Comes e k ph d → class < length e.program.classes → (class_at e.program class).info.element ≡ NoArray → Comes e k ph (instance_made e class d)
  MakesArray : (class n : ℕ) (d : Doing) → MakesObjects k → Comes e k Level d → IsArrayClass e.program class → Comes e k Level (array_made e class n d)
  WritesSlot : (ph : Phase) (o i : ℕ) (v : Value) (d : Doing) → Comes e k ph d → (IsUnder e d.state → MayWrite d.state.heap o i v) → MayTell e d.state.heap o i v → Comes e k ph (slot_written e o i v d)
  EntersMonitor : (o : ℕ) (d : Doing) → Comes e k Level d → IsAtMonitor e → IsHeld e.before.heap o → Comes e k Locked (entered e (OfObject o) d)
  LeavesMonitor : (o : ℕ) (d : Doing) → Comes e k Level d → IsAtMonitor e → IsHeld e.before.heap o → Comes e k Locked (left (OfObject o) d)
  SetsReferent : (o : ℕ) (r : Option ℕ) (d : Doing) → Comes e k Level d → (IsUnder e d.state → IsHeld d.state.heap o × FineSome d.state.heap r) → Comes e k Level (with_referent_of o r d)
  SetsQueue : (o : ℕ) (q : Option ℕ) (d : Doing) → Comes e k Level d → (IsUnder e d.state → IsHeld d.state.heap o × FineSome d.state.heap q) → Comes e k Level (with_queue_of o q d)
  Polls : (q : ℕ) (d : Doing) → Comes e k Level d → (IsUnder e d.state → IsHeld d.state.heap q) → Comes e k Level (with_first_taken q d)

-- HOW AN EVENT ENDS: with such steps alone, or with an object that is no string's and goes into a root place as the event ends
pub data Ended (e : Moment) : Doing → Type 0 where
  Plainly : (ph : Phase) (d : Doing) → Comes e StringsAlone ph d → Ended e d
  WithInstance : (at : Site) (class : ℕ) (ops : List Value) (d : Doing) → Comes e StringsAlone Level d → IsFramed e → class < length e.program.classes → (class_at e.program class).info.element ≡ NoArray → Fines e.before.heap ops
      → Ended e (leaving_values e at (Ref (next_object d) ∷ ops) (instance_made e class d))
  WithArray : (at : Site) (class n : ℕ) (ops : List Value) → IsFramed e → IsArrayClass e.program class → Fines e.before.heap ops → Ended e (leaving_values e at (Ref (next_object (begins e)) ∷ ops) (array_made e class n (begins e)))
  WithArrays : (at : Site) (class n : ℕ) (more : List ℕ) (ops : List Value) → IsFramed e → HasDimensions e.program (length (n ∷ more)) class → Fines e.before.heap ops
      → Ended e (leaving_values e at (Ref (next_object (begins e)) ∷ ops) (arrays_made e class (n ∷ more) (begins e)))
  WithError : (error : GuestError) (d : Doing) → Comes e StringsAlone Level d → Ended e (pending_now e (next_object d) (instance_made e (error_class e.program error) (entry_given_up e d)))
  WithCause : (ph : Phase) (o : ℕ) (d : Doing) → Comes e StringsAlone ph d → d.state.heap ≡ e.before.heap → IsHeld e.before.heap o → Ended e (replaced e o d)

-- what an event would come to has no room
pub record IsBeyond (e : Moment) : Type 0 where
  pub last : Doing
  pub ended : Ended e last
  pub beyond : fits_heap last.state.heap ≡ false

-- THE LAW OF STEPS: an event that is done is made of steps; where the thread waits, the clock alone goes on; and at the limits of
-- the heap it would be made of steps, but has no room
abbrev pub Leads : Moment → Outcome Kept → Type 0
Leads e (outcome.Goes next records) = Ended e (record { state = next; records = records })
Leads e (outcome.Waits next) = next ≡ later e.before
Leads e (outcome.IllTyped method pc) = Unit {0}
Leads e outcome.ObjectLimit = IsBeyond e
