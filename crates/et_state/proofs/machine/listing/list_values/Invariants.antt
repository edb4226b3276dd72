use Rattle.std.proofs.Common.{◌≡◌, ◌++◌, take}
use Rattle.et_heap.specs.Refs.{refs_of}
use Rattle.et_state.proofs.machine.listing.list_values.Given as goal

abbrev pub invariant-loop-v : goal.invariant-loop-v
invariant-loop-v l = l.room ≡ l.fn.room ++ refs_of (take l.v-index l.values)
