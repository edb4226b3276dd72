-- What is kept of a thread.
use Rattle.std.specs.Prelude.{◌≤◌, length}
use Rattle.et_state.specs.Threads.{ThreadState, most_frames}
use Rattle.et_state.specs.declared.threads.thread.Thread.TheInside.{Inside}

abbrev pub thread_in : Inside → ThreadState
thread_in t = record {
  frames = t.frames;
  pending = t.pending;
  entry = t.entry;
  object = t.object;
  entered = t.entered;
  ended = t.ended;
}

abbrev pub IsThreadInside : Inside → Type 0
IsThreadInside t = length t.frames ≤ most_frames
