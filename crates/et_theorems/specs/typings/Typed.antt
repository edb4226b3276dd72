-- STATES THAT KEEP TO TYPINGS: each operand and each local variable is of its type at the pc of its frame.
use Rattle.std.specs.Prelude.{◌≡◌, ℕ, ◌<◌, true, List, [], ◌∷◌, length, codes, Option, Some, None, Ok, IsSome}
use Rattle.et_class.specs.PoolOperands.Operand.TheVariants.{Reference}
use Rattle.et_code.specs.declared.instr.Instr.{Instr}
use Rattle.et_heap.specs.Objects.{ObjectState, at, slot_of}
use Rattle.et_code.specs.Bodies.{Body}
use Rattle.et_class.specs.Operands.{operand_kind}
use Rattle.et_event.specs.Programs.{is_initializing}
use Rattle.et_verify.specs.Typings.{IsTyping}
use Rattle.et_program.specs.Entries.{Linked, class_at, field_at, method_at}
use Rattle.et_program.specs.Members.{is_subclass}
use Rattle.et_state.specs.declared.stage.Stage.{Stage}
use Rattle.et_state.specs.declared.stage.Stage.TheVariants.{Plain, Before, Clinit}
use Rattle.et_state.specs.Threads.{FrameState, ThreadState}
use Rattle.et_state.specs.State.{Kept}
use Rattle.et_state.specs.Words.{thread_at}
use Rattle.et_state.specs.Outcome.{Outcome}
use Rattle.et_state.specs.Outcome as outcome
use Rattle.et_event.specs.declared.rows.CallKind.{CallKind}
use Rattle.et_event.specs.declared.rows.CallRow.TheVariants.{Invoke}
use Rattle.et_event.specs.declared.rows.Row.TheVariants.{Call}
use Rattle.et_event.specs.Errors.{class_called}
use Rattle.et_event.specs.Moments.{Moment}
use Rattle.et_event.specs.Sites.{decoded_at, site_of}
use Rattle.et_event.specs.Sound.{is_of_kind}
use Rattle.et_event.specs.Table.{row_of}
use Rattle.et_flow.specs.declared.types.EntryType.{EntryType}
use Rattle.et_flow.specs.Types.{TypesOf}
use Rattle.et_theorems.specs.typings.Values.{AreOperandsOf, AreLocalsOf}
use Rattle.et_event.specs.Calls.{is_static_call}
use Rattle.et_verify.specs.Effects.{Effect, call_effect}
use Rattle.et_verify.specs.Steps.{below_taken}
use Rattle.et_flow.specs.Flows.{Typing}
use Rattle.et_theorems.specs.typings.Refused.{IsRefused}

-- a typing for each method
abbrev pub Typings : Type 0
Typings = ℕ → Typing

-- FRAMES

-- the typing has types at the pc, and the frame holds such
pub record Holds (typing : Typing) (f : FrameState) : Type 0 where
  pub types : TypesOf
  pub at_pc : typing f.pc ≡ Some types
  pub locals : AreLocalsOf f.locals types.locals
  pub operands : AreOperandsOf f.operands types.operands

-- .. the local variables alone, where an exception is pending
pub record HoldsLocals (typing : Typing) (f : FrameState) : Type 0 where
  pub types : TypesOf
  pub at_pc : typing f.pc ≡ Some types
  pub locals : AreLocalsOf f.locals types.locals

-- .. and the operands left under the arguments of a call, the result of which is still to come
pub record HoldsBelow (p : Linked) (typing : Typing) (f : FrameState) : Type 0 where
  pub types : TypesOf
  pub at_pc : typing f.pc ≡ Some types
  pub locals : AreLocalsOf f.locals types.locals
  pub decoded : Instr × ℕ
  pub here : decoded_at p f ≡ Ok decoded
  pub kind : CallKind
  pub calls : row_of decoded.0.opcode ≡ Some (Call (Invoke kind))
  pub does : Effect
  pub effect_is : call_effect (site_of p f decoded) (is_static_call kind) ≡ Some does
  pub left : List EntryType
  pub taken : below_taken does.taken types.operands ≡ Some left
  pub operands : AreOperandsOf f.operands left

-- how much of a frame counts
pub data Part : Type 0 where
  Whole : Part
  LocalsAlone : Part
  UnderCall : Part

abbrev pub HoldsPart : Linked → Typing → FrameState → Part → Type 0
HoldsPart p typing f Whole = Holds typing f
HoldsPart p typing f LocalsAlone = HoldsLocals typing f
HoldsPart p typing f UnderCall = HoldsBelow p typing f

-- a frame that has no method yet has nothing in it
abbrev pub IsTypedFrame : Linked → Typings → FrameState → Option ℕ → Part → Type 0
IsTypedFrame p typings f None part = Unit {0}
IsTypedFrame p typings f (Some m) part = HoldsPart p (typings m) f part

-- below the frame of a method, a frame waits for the method that it called. Below one that initializes a class it stands at an
-- instruction that is to be done again
abbrev pub part_below : Stage → Part
part_below Plain = UnderCall
part_below (Before c) = Whole
part_below (Clinit c) = Whole

abbrev pub AreTypedFrames : Linked → Typings → Part → List FrameState → Type 0
AreTypedFrames p typings part [] = Unit {0}
AreTypedFrames p typings part (f ∷ below) = IsTypedFrame p typings f f.method part × AreTypedFrames p typings (part_below f.stage) below

-- THREADS

abbrev pub part_of : Option ℕ → Part
part_of None = Whole
part_of (Some exception) = LocalsAlone

abbrev pub IsTypedThread : Linked → Typings → ThreadState → Type 0
IsTypedThread p typings x = AreTypedFrames p typings (part_of x.pending) x.frames

-- OBJECTS: what is in the slots of fields and elements is of their types in every sound state. The message and the cause of a
-- Throwable are no field's
abbrev pub HasTypedSlots : Linked → ObjectState → Type 0
HasTypedSlots p x =
    is_subclass p x.class (class_called p (codes "java/lang/Throwable")) ≡ true → (i : ℕ) → i < 2 → is_of_kind (Some Reference) (slot_of x i) ≡ true

-- A VERIFIED PROGRAM: each method with code has a typing. No field is of a type of which there are no operands, and a class is
-- initialized by a method named <clinit> that takes nothing (JVMS 2.9)
pub record AreTypings (p : Linked) (typings : Typings) : Type 0 where
  pub typing : (m : ℕ) (body : Body) → m < length p.methods → (method_at p m).code ≡ Some body → IsTyping p m body (typings m)
  pub fields : (f : ℕ) → f < length p.fields → IsSome (operand_kind (field_at p f).descriptor)
  pub initializers : (c m : ℕ) → c < length p.classes → (class_at p c).info.clinit ≡ Some m → (is_initializing p m ≡ true) × ((method_at p m).descriptor ≡ codes "()V")

-- THE STATE
pub record IsTyped (p : Linked) (typings : Typings) (s : Kept) : Type 0 where
  pub threads : (t : ℕ) → t < length s.guest.threads → IsTypedThread p typings (thread_at s.guest t)
  pub objects : (o : ℕ) (x : ObjectState) → at s.heap o ≡ Some x → HasTypedSlots p x

-- AN EVENT leads to such a state, or the class of an object is one that its instruction can't take
abbrev pub KeepsTyped : Moment → Typings → Outcome Kept → Type 0
KeepsTyped e typings (outcome.Goes next records) = IsTyped e.program typings next
KeepsTyped e typings (outcome.Waits next) = IsTyped e.program typings next
KeepsTyped e typings (outcome.IllTyped method pc) = IsRefused e
KeepsTyped e typings outcome.ObjectLimit = Unit {0}
