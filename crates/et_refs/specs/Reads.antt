-- Reading the heap for a frame.
use Rattle.std.specs.Prelude.{◌≡◌, ℕ, ◌<◌, ◌++◌, List, Result, Some, Contains, length, drop, take}
use Rattle.et_heap.specs.Objects.{ObjectState, Objects, IsHeld, at, object_at, slot_of}
use Rattle.et_heap.specs.Refs.{refs_of_value, refs_of}
use Rattle.et_program.specs.Entries.{Linked}
use Rattle.et_program.specs.Referring.{pool_of_class}
use Rattle.et_state.specs.Outcome.{Outcome}
use Rattle.et_state.specs.Running.{RunningState}
use Rattle.et_state.specs.State.{GuestState, Kept}
use Rattle.et_state.specs.ThreadRoots.{frame_roots}
use Rattle.et_state.specs.Threads.{FrameState}
use Rattle.et_state.specs.Words.{top}
use Rattle.et_event.specs.Checks.{entries_of}
use Rattle.et_event.specs.Moments.{Moment}
use Rattle.et_event.specs.Sites.{Site, pool_index}
use Rattle.et_event.specs.Sound.{IsSoundObject}
use Rattle.et_refs.specs.declared.doing.changes.Exchange.{Exchange}
use Rattle.et_refs.specs.declared.refusals.Refusal.{Refusal}
use Rattle.et_refs.specs.Refusals.{ComesTo}
use Rattle.et_refs.specs.Steps.{over}

-- thread t has the turn in a state with this heap
abbrev pub moment_over : Linked → Objects → GuestState → ℕ → Moment
moment_over p heap g t = record { program = p; before = over heap g; thread = t }

-- in each state with this heap that has this frame on top, what an instruction does comes to this answer of its checks
abbrev pub ComesToOver : {A : Type 0} → Linked → Objects → FrameState → (Moment → Site → Outcome Kept) → Result A Refusal → (Moment → Site → A → Outcome Kept) → Type 0
ComesToOver p heap f does answer go = (g : GuestState) (t : ℕ) (at : Site) → top g t ≡ f → ComesTo does (moment_over p heap g t) at answer go

-- .. where it has this index into the pool of this class
abbrev pub ComesToInPool : {A : Type 0} → Linked → Objects → FrameState → ℕ → ℕ → (Moment → Site → Outcome Kept) → Result A Refusal → (Moment → Site → A → Outcome Kept) → Type 0
ComesToInPool p heap f class index does answer go =
    (g : GuestState) (t : ℕ) (at : Site) → at.pool ≡ pool_of_class p class → pool_index at ≡ index → top g t ≡ f → ComesTo does (moment_over p heap g t) at answer go

-- each of these objects is held
abbrev pub AreHeld : Objects → List ℕ → Type 0
AreHeld heap os = (o : ℕ) → Contains os o → IsHeld heap o

-- the objects are sound, and what stands in their slots is held
pub record IsSoundHeap (p : Linked) (heap : Objects) : Type 0 where
  pub objects : (o : ℕ) (x : ObjectState) → at heap o ≡ Some x → IsSoundObject p x
  pub slots : (u i : ℕ) → i < length (object_at heap u).slots → AreHeld heap (refs_of_value (slot_of (object_at heap u) i))

-- .. and so is what stands in a frame
pub record IsReadable (p : Linked) (objects : Objects) (f : FrameState) : Type 0 where
  pub heap : IsSoundHeap p objects
  pub frame : AreHeld objects (frame_roots f)

-- the frame that runs, after a value was put in the place of operands
abbrev pub exchanged : Exchange → ℕ → RunningState → RunningState
exchanged x next r = record {
  frame = record r.frame { pc = next; operands = entries_of x.value ++ drop x.taken r.frame.operands };
  below = r.below;
  lost = refs_of (take x.taken r.frame.operands);
}
