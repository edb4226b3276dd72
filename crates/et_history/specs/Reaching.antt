-- THE OBJECTS THAT AN EVENT MAKES are reached after it: none is made that nobody can get at.
use Rattle.std.specs.Prelude.{◌≡◌, ℕ, ◌<◌, ◌≤◌, length}
use Rattle.et_graph.specs.Graph.{IsReached}
use Rattle.et_state.specs.Outcome.{Outcome}
use Rattle.et_state.specs.Outcome as outcome
use Rattle.et_state.specs.Roots.{graph_of}
use Rattle.et_state.specs.State.{Kept}

-- each object from number n on is reached
abbrev pub AreReachedFrom : ℕ → Kept → Type 0
AreReachedFrom n s = (o : ℕ) → n ≤ o → o < length s.heap → IsReached (graph_of s) o

-- what an event of a state leads to: where it is done, each number that the state had not given yet is of an object that is
-- reached; where the thread waits, nothing is made
abbrev pub ReachesNew : Kept → Outcome Kept → Type 0
ReachesNew s (outcome.Goes next records) = AreReachedFrom (length s.heap) next
ReachesNew s (outcome.Waits next) = next.heap ≡ s.heap
ReachesNew s (outcome.IllTyped method pc) = Unit {0}
ReachesNew s outcome.ObjectLimit = Unit {0}
