use Rattle.std.proofs.Common.{◌≡◌, ◌++◌, map}
use Rattle.et_heap.specs.Refs.{refs_of}
use Rattle.et_state.proofs.machine.listing.list_values_back.Given as goal

abbrev pub invariant-loop-v : goal.invariant-loop-v
invariant-loop-v l = l.room ≡ l.fn.room ++ refs_of (map (λ x. x.now) l.yielded)
