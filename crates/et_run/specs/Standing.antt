-- What stays as it is while events are quiet.
use Rattle.std.specs.Prelude.{◌≡◌, length, slice_index}
use Rattle.et_heap.specs.Objects.{made_count}
use Rattle.et_state.specs.State.{MachineState}
use Rattle.et_state.specs.Threads.{unended_of}
use Rattle.et_run.specs.declared.stretches.Standing.{Standing}

-- as many objects were made, and as many threads have not ended, with the same one at the place
pub record IsAsItStood (m : MachineState) (standing : Standing) : Type 0 where
  pub objects : made_count m.heap ≡ standing.objects
  pub threads : length (unended_of m.guest.threads) ≡ standing.threads
  pub thread : slice_index (unended_of m.guest.threads) standing.place ≡ standing.thread
