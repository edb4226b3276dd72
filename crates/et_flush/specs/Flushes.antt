-- The graph of a heap with its roots, and what a flush puts in queues.
use Rattle.std.specs.Prelude.{ℕ, List, [], ◌∷◌}
use Rattle.et_graph.specs.Graph.{Graph}
use Rattle.et_heap.specs.Objects.{Objects, made_count}
use Rattle.et_heap.specs.Queues.{enqueued}
use Rattle.et_heap.specs.Refs.{pairs_of, gone_of}

-- the objects made, the root places, what the objects lead to, and what was taken out
abbrev pub heap_graph : Objects → List ℕ → Graph
heap_graph heap roots = record { made = made_count heap; roots = roots; pairs = pairs_of heap; gone = gone_of heap }

-- each of these references in turn goes to the end of the list of its queue, where it has one and waits nowhere
abbrev pub all_enqueued : List ℕ → Objects → Objects
all_enqueued [] heap = heap
all_enqueued (r ∷ rs) heap = all_enqueued rs (enqueued r heap)
