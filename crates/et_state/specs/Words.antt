-- Words for the parts of a state, and for a state with one part changed.
use Rattle.std.specs.Prelude.{◌≡◌, ℕ, ◌+◌, ◌<◌, false, List, [], ◌∷◌, ◌++◌, Some, None, length, replicate, slice_index_or, slice_set}
use Rattle.et_base.specs.declared.value.Value.{Value}
use Rattle.et_base.specs.declared.value.Value.TheVariants.{Unset}
use Rattle.et_heap.specs.declared.monitor.Monitor.{Monitor}
use Rattle.et_state.specs.declared.class_state.ClassState.{ClassState}
use Rattle.et_state.specs.declared.class_state.ClassState.TheVariants.{Untouched}
use Rattle.et_heap.specs.Objects.{ObjectState, free_monitor, new_object, with_object_at}
use Rattle.et_state.specs.Threads.{FrameState, ThreadState, no_thread, new_thread, top_of, with_top_of}
use Rattle.et_state.specs.State.{GuestState, MachineState}
use Rattle.et_state.specs.Texts.{no_texts}

abbrev pub thread_at : GuestState → ℕ → ThreadState
thread_at g t = slice_index_or g.threads t no_thread

abbrev pub with_thread : GuestState → ℕ → ThreadState → GuestState
with_thread g t x = record g { threads = slice_set g.threads t x }

-- one thread more
abbrev pub with_new_thread : GuestState → ThreadState → GuestState
with_new_thread g x = record g { threads = g.threads ++ x ∷ [] }

-- the topmost frame of a thread
abbrev pub top : GuestState → ℕ → FrameState
top g t = top_of (thread_at g t)

abbrev pub with_top : GuestState → ℕ → FrameState → GuestState
with_top g t f = with_thread g t (with_top_of (thread_at g t) f)

-- the thread was started, and it has a frame
pub record HasFrame (g : GuestState) (t : ℕ) : Type 0 where
  pub thread : t < length g.threads
  pub frame : 0 < length (thread_at g t).frames

-- the thread was started and has not ended
pub record IsUnended (g : GuestState) (t : ℕ) : Type 0 where
  pub thread : t < length g.threads
  pub unended : (thread_at g t).ended ≡ false

abbrev pub static_at : GuestState → ℕ → Value
static_at g i = slice_index_or g.statics i Unset

abbrev pub with_static : GuestState → ℕ → Value → GuestState
with_static g i v = record g { statics = slice_set g.statics i v }

abbrev pub class_state_at : GuestState → ℕ → ClassState
class_state_at g c = slice_index_or g.classes c Untouched

abbrev pub with_class_state : GuestState → ℕ → ClassState → GuestState
with_class_state g c x = record g { classes = slice_set g.classes c x }

abbrev pub class_monitor_at : GuestState → ℕ → Monitor
class_monitor_at g c = slice_index_or g.class_monitors c free_monitor

abbrev pub with_class_monitor : GuestState → ℕ → Monitor → GuestState
with_class_monitor g c m = record g { class_monitors = slice_set g.class_monitors c m }

-- one string of a constant more
abbrev pub with_string : GuestState → List ℕ → ℕ → GuestState
with_string g text o = record g { interned = g.interned ++ (text, o) ∷ [] }

-- one event later
abbrev pub ticked : GuestState → GuestState
ticked g = record g { clock = g.clock + 1 }

-- The first state: object 1 is the array of arguments, of this class and length 0, and thread 0 has it in its entry slot.
-- Nothing else was made.
abbrev pub first_state : ℕ → List ClassState → List Value → MachineState
first_state class classes statics = record {
  heap = None ∷ Some (new_object class 0 0) ∷ [];
  guest = record {
    clock = 0;
    statics = statics;
    threads = new_thread (Some 1) None ∷ [];
    classes = classes;
    class_monitors = replicate (length classes) free_monitor;
    interned = [];
    texts = no_texts;
  };
  lost = [];
}

-- machines with one part changed
abbrev pub with_guest : MachineState → GuestState → MachineState
with_guest m g = record m { guest = g }

-- .. whose event begins: one event later, with nothing lost
abbrev pub begun : MachineState → MachineState
begun m = record m { guest = ticked m.guest; lost = [] }

-- .. with more objects lost
abbrev pub losing : MachineState → List ℕ → MachineState
losing m l = record m { lost = m.lost ++ l }

-- .. whose guest became g, with these objects lost
abbrev pub steps_guest : MachineState → GuestState → List ℕ → MachineState
steps_guest m g l = record m { guest = g; lost = m.lost ++ l }

-- .. of which a thread became x, with these objects lost
abbrev pub steps_thread : MachineState → ℕ → ThreadState → List ℕ → MachineState
steps_thread m t x l = steps_guest m (with_thread m.guest t x) l

-- .. of which the topmost frame of a thread became f, with these objects lost
abbrev pub steps_top : MachineState → ℕ → FrameState → List ℕ → MachineState
steps_top m t f l = steps_guest m (with_top m.guest t f) l

-- .. of which an object became x, with these objects lost
abbrev pub steps_object : MachineState → ℕ → ObjectState → List ℕ → MachineState
steps_object m o x l = record m { heap = with_object_at m.heap o x; lost = m.lost ++ l }

-- .. with one object more
abbrev pub with_new_object : MachineState → ObjectState → MachineState
with_new_object m x = record m { heap = m.heap ++ Some x ∷ [] }

-- .. of which an object became x, with nothing lost
abbrev pub with_object : MachineState → ℕ → ObjectState → MachineState
with_object m o x = record m { heap = with_object_at m.heap o x }
