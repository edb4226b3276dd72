use Rattle.std.proofs.Common.{◌≡◌, ◌≤◌, ◌+◌, ◌++◌, map, length}
use Rattle.et_heap.specs.Refs.{refs_of}
use Rattle.et_state.proofs.machine.lost.Lost.add_values_back.Given as goal

abbrev pub invariant-loop-v : goal.invariant-loop-v
invariant-loop-v l = (l.self ≡ l.fn.self ++ refs_of (map (λ x. x.now) l.yielded)) × (length l.self ≤ length l.fn.self + length l.yielded)
