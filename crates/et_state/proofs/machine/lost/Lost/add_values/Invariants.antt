use Rattle.std.proofs.Common.{◌≡◌, ◌≤◌, ◌+◌, ◌++◌, take, length}
use Rattle.et_heap.specs.Refs.{refs_of}
use Rattle.et_state.proofs.machine.lost.Lost.add_values.Given as goal

abbrev pub invariant-loop-v : goal.invariant-loop-v
invariant-loop-v l = (l.self ≡ l.fn.self ++ refs_of (take l.v-index l.values)) × (length l.self ≤ length l.fn.self + l.v-index)
