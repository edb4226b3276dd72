-- THE SOUND STATES OF A PROGRAM: what holds of each state to which events lead from the first one, besides that what is
-- referred to is held (IsSound of et_state).
use Rattle.std.specs.Prelude.{◌≡◌, ℕ, ◌+◌, ◌<◌, ◌≤◌, ◌^◌, ◌==◌, ◌↔◌, ◌⊎◌, Bool, true, false, if◌then◌else◌, List, [], ◌∷◌, length, slice_index_or, All, Option, Some, None, IfSome, Ok, IsSome, codes}
use Rattle.std.specs.Option.{option_map_or}
use Rattle.et_base.specs.declared.value.Value.{Value}
use Rattle.et_base.specs.declared.value.Value.TheVariants.{Unset, Int, Long, Null, Ref}
use Rattle.et_class.specs.Descriptors.{MethodType, method_type, is_void}
use Rattle.et_class.specs.Names.{has}
use Rattle.et_class.specs.declared.flags.TheConstants.{STATIC, SYNCHRONIZED}
use Rattle.et_code.specs.declared.instr.Instr.{Instr}
use Rattle.et_code.specs.Bodies.{Body}
use Rattle.et_code.specs.Starts.{IsStart}
use Rattle.et_program.specs.Entries.{Linked, class_at, method_at, field_at}
use Rattle.et_program.specs.Members.{is_subclass}
use Rattle.et_program.specs.declared.info.MethodInfo.{MethodInfo}
use Rattle.et_program.specs.declared.info.Element.{Element}
use Rattle.et_program.specs.declared.info.Element.TheVariants.{NoArray, Base, Class}
use Rattle.et_heap.specs.declared.monitor.Monitor.{Monitor}
use Rattle.et_heap.specs.Objects.{ObjectState, at, object_at, slot_of}
use Rattle.et_state.specs.declared.stage.Stage.{Stage}
use Rattle.et_state.specs.declared.stage.Stage.TheVariants.{Plain, Before, Clinit}
use Rattle.et_state.specs.Threads.{FrameState, most_frames, most_threads}
use Rattle.et_state.specs.declared.class_state.ClassState.{ClassState}
use Rattle.et_state.specs.declared.class_state.ClassState.TheVariants.{Untouched, Begun}
use Rattle.et_state.specs.State.{GuestState, Kept}
use Rattle.et_state.specs.Words.{thread_at, class_state_at, static_at}
use Rattle.et_state.specs.Sound.{IsSound}
use Rattle.et_class.specs.PoolOperands.Operand.{Operand}
use Rattle.et_class.specs.PoolOperands.Operand.TheVariants as operand
use Rattle.et_event.specs.declared.rows.CallKind.{CallKind}
use Rattle.et_event.specs.declared.rows.CallRow.TheVariants.{Invoke}
use Rattle.et_event.specs.declared.rows.Row.TheVariants.{Call}
use Rattle.et_event.specs.Table.{row_of}
use Rattle.et_event.specs.Errors.{class_called}
use Rattle.et_event.specs.Moments.{fits_heap}
use Rattle.et_event.specs.Sites.{Member, site_member, site_of, running_method, decoded_at}
use Rattle.et_class.specs.Operands.{operand_kind, returned_width}

-- VALUES IN SLOTS: nothing was written to it, or a value of its type

abbrev pub is_of_kind : Option Operand → Value → Bool
is_of_kind kind Unset = true
is_of_kind (Some operand.Int) (Int n) = true
is_of_kind (Some operand.Long) (Long n) = true
is_of_kind (Some operand.Reference) Null = true
is_of_kind (Some operand.Reference) (Ref o) = true
is_of_kind kind other = false

-- a base type's operands, by its code in newarray: 11 is long; float and double have none
abbrev pub kind_of_base : ℕ → Option Operand
kind_of_base kind = if kind == 11 then Some operand.Long else (if (kind == 6) then None else (if kind == 7 then None else Some operand.Int))

abbrev pub kind_of_element : Element → Option Operand
kind_of_element NoArray = None
kind_of_element (Base kind) = kind_of_base kind
kind_of_element (Class class) = Some operand.Reference

-- OBJECTS

-- how many slots an object of this class and length has
abbrev pub slots_by : Element → ℕ → ℕ → ℕ
slots_by NoArray slots elements = slots
slots_by (Base kind) slots elements = elements
slots_by (Class class) slots elements = elements

-- the field stands in a slot of the object, which holds what it may
pub record HasField (p : Linked) (x : ObjectState) (f : ℕ) : Type 0 where
  pub slot : (field_at p f).slot < length x.slots
  pub value : is_of_kind (operand_kind (field_at p f).descriptor) (slot_of x (field_at p f).slot) ≡ true

pub record IsSoundObject (p : Linked) (x : ObjectState) : Type 0 where
  pub class : x.class < length p.classes
  pub slots : length x.slots ≡ slots_by (class_at p x.class).info.element (class_at p x.class).info.slots x.length
  -- each instance field of its class and of those above
  pub fields : (f : ℕ) → f < length p.fields → has (field_at p f).flags STATIC ≡ false → is_subclass p x.class (field_at p f).class ≡ true → HasField p x f
  pub elements : All (λ v. is_of_kind (kind_of_element (class_at p x.class).info.element) v ≡ true) x.slots ⊎ ((class_at p x.class).info.element ≡ NoArray)

-- MONITORS: nobody entered it more often than there were events, and it has an owner, a thread that was started, exactly
-- where it was entered more often than left
pub record IsSoundMonitor (g : GuestState) (m : Monitor) : Type 0 where
  pub count : m.count ≤ g.clock
  pub owned : IsSome m.owner ↔ (0 < m.count)
  pub owner : IfSome m.owner (λ t. t < length g.threads)

-- FRAMES

-- the pc is that of an instruction, or behind the last
abbrev pub IsPc : Body → ℕ → Type 0
IsPc body pc = IsStart body.code pc ⊎ (pc ≡ length body.code)

-- a frame of a method
pub record RunsMethod (p : Linked) (f : FrameState) (m : ℕ) : Type 0 where
  pub method : m < length p.methods
  pub body : Body
  pub code : (method_at p m).code ≡ Some body
  pub pc : IsPc body f.pc
  pub room : f.room ≡ body.max_stack
  pub locals : length f.locals ≡ body.max_locals
  pub operands : length f.operands ≤ f.room

-- a frame without a method has nothing in it
pub record IsEmpty (f : FrameState) : Type 0 where
  pub locals : f.locals ≡ []
  pub operands : f.operands ≡ []

-- the lock slot holds an object exactly where the method is synchronized and not static
abbrev pub IsLocked : Linked → FrameState → Type 0
IsLocked p f = IsSome f.lock ↔ ((has (running_method p f).flags SYNCHRONIZED ≡ true) × (has (running_method p f).flags STATIC ≡ false))

abbrev pub returned_of : MethodInfo → List ℕ
returned_of m = option_map_or (λ (type : MethodType). type.returned) (method_type m.descriptor) []

abbrev pub IsVoid : Linked → FrameState → Type 0
IsVoid p f = is_void (returned_of (running_method p f)) ≡ true

-- a frame by its stage: that of an initializer has a method, <clinit>, only once it was entered
abbrev pub IsStaged : Linked → FrameState → Stage → Option ℕ → Type 0
IsStaged p f Plain (Some m) = RunsMethod p f m × IsLocked p f
IsStaged p f Plain None = ⊥
IsStaged p f (Before c) (Some m) = ⊥
IsStaged p f (Before c) None = (c < length p.classes) × IsEmpty f × (f.lock ≡ None)
IsStaged p f (Clinit c) (Some m) = (c < length p.classes) × RunsMethod p f m × (f.lock ≡ None) × IsVoid p f
IsStaged p f (Clinit c) None = ⊥

-- the frame runs a method, stands at a call of what the frame above runs, and what that returns will fit
pub record IsCaller (p : Linked) (f above : FrameState) : Type 0 where
  pub runs : f.method ≡ None → ⊥
  pub decoded : Instr × ℕ
  pub at : decoded_at p f ≡ Ok decoded
  pub kind : CallKind
  pub call : row_of decoded.0.opcode ≡ Some (Call (Invoke kind))
  pub member : Member
  pub names : site_member (site_of p f decoded) ≡ Some member
  pub descriptor : member.descriptor ≡ (running_method p above).descriptor
  pub fits : length f.operands + returned_width (returned_of (running_method p above)) ≤ f.room

-- what a frame asks of those below it: a method was called there; the lowest one of a thread returns nothing
abbrev pub IsAbove : Linked → FrameState → Stage → List FrameState → Type 0
IsAbove p f Plain [] = IsVoid p f
IsAbove p f Plain (g ∷ below) = IsCaller p g f
IsAbove p f (Before c) below = Unit {0}
IsAbove p f (Clinit c) below = Unit {0}

abbrev pub AreSoundFrames : Linked → List FrameState → Type 0
AreSoundFrames p [] = Unit {0}
AreSoundFrames p (f ∷ below) = IsStaged p f f.stage f.method × IsAbove p f f.stage below × AreSoundFrames p below

-- THREADS

-- each thread but the first has a Thread object as long as it has not ended
abbrev pub HasThreadObject : Linked → Kept → Option ℕ → Type 0
HasThreadObject p s None = ⊥
HasThreadObject p s (Some o) = is_subclass p (object_at s.heap o).class (class_called p (codes "java/lang/Thread")) ≡ true

pub record IsSoundThread (p : Linked) (s : Kept) (t : ℕ) : Type 0 where
  pub frames : AreSoundFrames p (thread_at s.guest t).frames
  pub few_frames : length (thread_at s.guest t).frames ≤ most_frames
  pub object : 0 < t → (thread_at s.guest t).ended ≡ false → HasThreadObject p s (thread_at s.guest t).object

-- CLASSES

abbrev pub IsSoundClassState : GuestState → ClassState → Type 0
IsSoundClassState g (Begun t) = t < length g.threads
IsSoundClassState g other = Unit {0}

-- a static slot of a class holds what it may, and 0 or null as long as the class is untouched
pub record IsSoundStatic (p : Linked) (g : GuestState) (i : ℕ) : Type 0 where
  pub value : is_of_kind (operand_kind (field_at p (slice_index_or p.statics i 0)).descriptor) (static_at g i) ≡ true
  pub untouched : class_state_at g (field_at p (slice_index_or p.statics i 0)).class ≡ Untouched → static_at g i ≡ Unset

-- THE STATE
pub record IsSoundFor (p : Linked) (s : Kept) : Type 0 where
  pub held : IsSound s
  pub clock : s.guest.clock ≤ 2 ^ 40
  pub fits : fits_heap s.heap ≡ true
  pub objects : (o : ℕ) (x : ObjectState) → at s.heap o ≡ Some x → IsSoundObject p x × IsSoundMonitor s.guest x.monitor
  pub threads : (t : ℕ) → t < length s.guest.threads → IsSoundThread p s t
  pub few_threads : length s.guest.threads ≤ most_threads
  -- the argument array stands in the entry slot of the first thread until that one is entered or ends
  pub entry : (thread_at s.guest 0).entered ≡ false → (thread_at s.guest 0).ended ≡ false → IsSome (thread_at s.guest 0).entry
  pub classes : (length s.guest.classes ≡ length p.classes) × All (IsSoundClassState s.guest) s.guest.classes
  pub class_monitors : (length s.guest.class_monitors ≡ length p.classes) × All (IsSoundMonitor s.guest) s.guest.class_monitors
  pub statics : (length s.guest.statics ≡ length p.statics) × ((i : ℕ) → i < length p.statics → IsSoundStatic p s.guest i)
