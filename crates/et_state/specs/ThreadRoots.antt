-- The objects in the root places of threads (JVMS 2.5.3 leaves open what is reachable; these are the references that a
-- thread can use).
use Rattle.std.specs.Prelude.{ℕ, List, [], ◌++◌, if◌then◌else◌, option_to_list}
use Rattle.std.specs.List.{flat_map}
use Rattle.et_heap.specs.Refs.{refs_of}
use Rattle.et_state.specs.Threads.{FrameState, ThreadState}

-- the locals, the operands and the lock slot
abbrev pub frame_roots : FrameState → List ℕ
frame_roots f = refs_of f.locals ++ (refs_of f.operands ++ option_to_list f.lock)

-- the frames, the pending exception and, as long as the thread has not ended, the entry slot and the Thread object
abbrev pub thread_roots : ThreadState → List ℕ
thread_roots x =
    flat_map frame_roots x.frames ++ (option_to_list x.pending ++ (if x.ended then [] else option_to_list x.entry ++ option_to_list x.object))
