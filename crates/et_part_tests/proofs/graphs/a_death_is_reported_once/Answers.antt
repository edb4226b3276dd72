use Rattle.std.proofs.Common.{List, [], ◌∷◌, refl}
use Rattle.et_graph.specs.Edit.{Edit}
use Rattle.et_graph.proofs.Legality.{row, tested_steps}
use Rattle.et_part_tests.proofs.graphs.a_death_is_reported_once.Goals as goal

-- the table
abbrev edits : List Edit
edits =
    row (1 ∷ 2 ∷ []) [] (1 ∷ []) [] ((1, 2) ∷ [])
    ∷ row [] (2 ∷ []) (1 ∷ []) ((1, 2) ∷ []) []
    ∷ []

pub play-requires-clause-legal : goal.play-requires-clause-legal
play-requires-clause-legal g c = tested_steps [] edits refl
