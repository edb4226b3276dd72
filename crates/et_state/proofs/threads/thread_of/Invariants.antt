use Rattle.std.proofs.Common.{◌≡◌, drop}
use Rattle.std.specs.List.{position_from}
use Rattle.et_state.specs.Threads.{is_thread_object, thread_with}
use Rattle.et_state.proofs.threads.thread_of.Given as goal

abbrev pub invariant-loop-t : goal.invariant-loop-t
invariant-loop-t l = position_from (is_thread_object l.o) l.t (drop l.t l.threads) ≡ thread_with l.threads l.o
