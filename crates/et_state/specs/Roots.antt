-- The roots and the graph of a state.
use Rattle.std.specs.Prelude.{ℕ, ◌+◌, ◌-◌, zero, suc, List, [], ◌∷◌, ◌++◌, length}
use Rattle.std.specs.List.{flat_map}
use Rattle.et_graph.specs.Graph.{Graph}
use Rattle.et_graph.specs.Steps.{Step}
use Rattle.et_heap.specs.Objects.{made_count}
use Rattle.et_heap.specs.Refs.{refs_of, pairs_of, gone_of}
use Rattle.et_state.specs.ThreadRoots.{thread_roots}
use Rattle.et_state.specs.Interned.{interned_objects}
use Rattle.et_state.specs.State.{GuestState, Kept, State}

-- the objects in root places: in those of the threads, in static slots, and the interned strings
abbrev pub roots_of : GuestState → List ℕ
roots_of g = flat_map thread_roots g.threads ++ (refs_of g.statics ++ interned_objects g.interned)

-- The graph of what is kept. An object leads to what stands in its slots, a reference to its queue, and a queue to what
-- waits in it.
abbrev pub graph_of : Kept → Graph
graph_of s = record { made = made_count s.heap; roots = roots_of s.guest; pairs = pairs_of s.heap; gone = gone_of s.heap }

-- the graph of a state: reported objects keep their pairs
abbrev pub graph : State → Graph
graph s = record (graph_of s.kept) { pairs = pairs_of s.kept.heap ++ pairs_of s.reported }

abbrev pub numbers_from : ℕ → ℕ → List ℕ
numbers_from k zero = []
numbers_from k (suc n) = k ∷ numbers_from (k + 1) n

-- the objects that are made between two states
abbrev pub fresh_of : Kept → Kept → List ℕ
fresh_of s x = numbers_from (length s.heap) (length x.heap - length s.heap)

-- the step from one state to another, with these objects lost
abbrev pub state_step : Kept → Kept → List ℕ → Step
state_step s x lost = record { after = graph_of x; fresh = fresh_of s x; lost = lost }
