use Rattle.std.proofs.Common.{◌+◌, ℕ, List, length}
use Rattle.et_graph.specs.Graph.{Graph}
use Rattle.et_models.specs.declared.places.Place.{Place}
use Rattle.et_models.specs.Marking.{young, Draws, IsMarking}
use Rattle.et_models.proofs.marks.follow.Given as goal

abbrev pub invariant-loop-object : goal.invariant-loop-object
invariant-loop-object l = (g : Graph) (space : List ℕ) (start : List Place) → Draws g l.slots space start → IsMarking g l.slots space start l.fn.places l.fn.work.items → IsMarking g l.slots space start l.places l.work.items

abbrev pub decreases-loop-object : goal.decreases-loop-object
decreases-loop-object l = length l.work.items + young l.places
