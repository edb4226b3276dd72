use Rattle.std.proofs.Common.{◌≡◌, ◌++◌, take}
use Rattle.std.specs.List.{flat_map}
use Rattle.et_state.specs.ThreadRoots.{thread_roots}
use Rattle.et_state.proofs.threads.list_roots.Given as goal

abbrev pub invariant-loop-thread : goal.invariant-loop-thread
invariant-loop-thread l = l.room ≡ l.fn.room ++ flat_map thread_roots (take l.thread-index l.threads)
