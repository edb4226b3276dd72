-- The threads of the guest and their frames.
use Rattle.std.specs.Prelude.{ℕ, ◌+◌, ◌-◌, ◌==◌, Bool, true, false, if◌then◌else◌, List, [], ◌∷◌, ◌++◌, Option, Some, None, length, replicate, drop, slice_index_or, slice_set, option_to_list}
use Rattle.std.specs.List.{position_from}
use Rattle.std.specs.Option.{is_some, option_map_or}
use Rattle.et_base.specs.declared.value.Value.{Value}
use Rattle.et_base.specs.declared.value.Value.TheVariants.{Unset}
use Rattle.et_state.specs.declared.stage.Stage.{Stage}
use Rattle.et_state.specs.declared.stage.Stage.TheVariants.{Plain, Before, Clinit}
use Rattle.et_state.specs.declared.stage.Turn.{Turn}
use Rattle.et_state.specs.declared.stage.Turn.TheVariants.{Unwind, EndThread, Entry, Initialize, Instruction}

-- A frame (JVMS 2.6): its method, what it is for, the object whose monitor it holds, the pc, the most operands that it may
-- have, its locals and its operands, the topmost first. A frame that initializes a class has no method yet in stage Before.
pub record FrameState : Type 0 where
  pub method : Option ℕ
  pub stage : Stage
  pub lock : Option ℕ
  pub pc : ℕ
  pub room : ℕ
  pub locals : List Value
  pub operands : List Value

-- A thread (JVMS 2.5.1, 2.5.2): its frames, the topmost first, the exception that is thrown and not handled yet, the
-- argument for its first frame, its Thread object, whether it was entered, and whether it has ended.
pub record ThreadState : Type 0 where
  pub frames : List FrameState
  pub pending : Option ℕ
  pub entry : Option ℕ
  pub object : Option ℕ
  pub entered : Bool
  pub ended : Bool

abbrev pub no_frame : FrameState
no_frame = record { method = None; stage = Plain; lock = None; pc = 0; room = 0; locals = []; operands = [] }

abbrev pub no_thread : ThreadState
no_thread = record { frames = []; pending = None; entry = None; object = None; entered = true; ended = true }

-- a thread that was started and has no frame yet
abbrev pub new_thread : Option ℕ → Option ℕ → ThreadState
new_thread entry object = record { frames = []; pending = None; entry = entry; object = object; entered = false; ended = false }

-- frames with one part changed
abbrev pub at_pc : ℕ → FrameState → FrameState
at_pc pc f = record f { pc = pc }

abbrev pub pushed : Value → FrameState → FrameState
pushed v f = record f { operands = v ∷ f.operands }

abbrev pub popped : ℕ → FrameState → FrameState
popped n f = record f { operands = drop n f.operands }

abbrev pub without_operands : FrameState → FrameState
without_operands f = record f { operands = [] }

abbrev pub with_local : ℕ → Value → FrameState → FrameState
with_local i v f = record f { locals = slice_set f.locals i v }

-- the operand so far below the topmost one
abbrev pub operand_of : FrameState → ℕ → Value
operand_of f k = slice_index_or f.operands k Unset

abbrev pub local_of : FrameState → ℕ → Value
local_of f i = slice_index_or f.locals i Unset

-- as many locals, of which the first hold these arguments (JVMS 2.6.1)
abbrev pub locals_with : ℕ → List Value → List Value
locals_with count arguments = arguments ++ replicate (count - length arguments) Unset

-- the class of an initializer frame enters its <clinit>
abbrev pub clinit_stage : Stage → Stage
clinit_stage Plain = Plain
clinit_stage (Before class) = Clinit class
clinit_stage (Clinit class) = Clinit class

abbrev pub is_before_class : Stage → Bool
is_before_class Plain = false
is_before_class (Before class) = true
is_before_class (Clinit class) = false

abbrev pub in_clinit : ℕ → ℕ → ℕ → FrameState → FrameState
in_clinit method room locals f = record {
  method = Some method;
  stage = clinit_stage f.stage;
  lock = f.lock;
  pc = 0;
  room = room;
  locals = locals_with locals [];
  operands = [];
}

-- the topmost frame
abbrev pub first_frame : List FrameState → FrameState
first_frame [] = no_frame
first_frame (f ∷ below) = f

abbrev pub rest_of : List FrameState → List FrameState
rest_of [] = []
rest_of (f ∷ below) = below

abbrev pub has_frame : List FrameState → Bool
has_frame [] = false
has_frame (f ∷ below) = true

abbrev pub top_of : ThreadState → FrameState
top_of x = first_frame x.frames

-- threads with one part changed
abbrev pub with_top_of : ThreadState → FrameState → ThreadState
with_top_of x f = record x { frames = f ∷ rest_of x.frames }

abbrev pub without_top : ThreadState → ThreadState
without_top x = record x { frames = rest_of x.frames }

-- .. with one frame more on top
abbrev pub entered_by : FrameState → ThreadState → ThreadState
entered_by f x = record x { frames = f ∷ x.frames }

abbrev pub with_pending : Option ℕ → ThreadState → ThreadState
with_pending p x = record x { pending = p }

-- a thread counts as entered, and its entry slot is empty
abbrev pub as_entered : ThreadState → ThreadState
as_entered x = record x { entry = None; entered = true }

abbrev pub as_ended : ThreadState → ThreadState
as_ended x = record x { pending = None; entry = None; ended = true }

-- what a thread loses as it ends
abbrev pub ended_roots : ThreadState → List ℕ
ended_roots x = option_to_list x.pending ++ (option_to_list x.entry ++ option_to_list x.object)

-- What a thread does next: the first that applies. An exception unwinds a frame or, where there is none, ends the thread.
-- Without a frame a thread is entered once, and then ends.
abbrev pub turn_of : ThreadState → Turn
turn_of x =
    if is_some x.pending then (if has_frame x.frames then Unwind else EndThread)
    else (if has_frame x.frames then (if is_before_class (top_of x).stage then Initialize else Instruction)
    else (if x.entered then EndThread else Entry))

-- the threads that have not ended, in order of start; the first of the list has the number k
abbrev pub unended_from : ℕ → List ThreadState → List ℕ
unended_from k [] = []
unended_from k (x ∷ xs) = (if x.ended then [] else k ∷ []) ++ unended_from (k + 1) xs

abbrev pub unended_of : List ThreadState → List ℕ
unended_of threads = unended_from 0 threads

-- the Thread object of the thread is this one
abbrev pub is_thread_object : ℕ → ThreadState → Bool
is_thread_object o x = option_map_or (λ u. u == o) x.object false

-- the first thread with this Thread object
abbrev pub thread_with : List ThreadState → ℕ → Option ℕ
thread_with threads o = position_from (is_thread_object o) 0 threads

-- A thread has at most so many frames, and at most so many threads are ever started.
abbrev pub most_frames : ℕ
most_frames = 1024

abbrev pub most_threads : ℕ
most_threads = 64

-- so many objects have room on the list of the lost ones of an event: 16, and the locals and operands of any one frame
abbrev pub lost_room : ℕ
lost_room = 131088
