use Rattle.std.proofs.Common.{List, [], ◌∷◌, refl}
use Rattle.et_graph.specs.Edit.{Edit}
use Rattle.et_graph.proofs.Legality.{row, tested_steps}
use Rattle.et_part_tests.proofs.graphs.what_was_held_weakly_dies_at_its_last_stay.Goals as goal

-- the table
abbrev edits : List Edit
edits =
    row (1 ∷ []) [] (1 ∷ []) [] []
    ∷ row [] (1 ∷ []) (1 ∷ []) [] []
    ∷ row (2 ∷ []) [] (1 ∷ 2 ∷ []) [] []
    ∷ row [] [] (1 ∷ 2 ∷ 2 ∷ []) [] []
    ∷ row (3 ∷ []) [] (1 ∷ 2 ∷ 2 ∷ 3 ∷ []) [] []
    ∷ row [] [] (1 ∷ 2 ∷ 2 ∷ 3 ∷ 3 ∷ []) [] []
    ∷ row (4 ∷ []) [] (1 ∷ 2 ∷ 2 ∷ 3 ∷ 3 ∷ 4 ∷ []) [] []
    ∷ row [] (4 ∷ 3 ∷ []) (1 ∷ 2 ∷ 2 ∷ 3 ∷ []) [] ((3, 4) ∷ [])
    ∷ row [] (3 ∷ 2 ∷ []) (1 ∷ 2 ∷ []) [] []
    ∷ row [] [] (1 ∷ 2 ∷ []) [] []
    ∷ row [] [] (1 ∷ 2 ∷ []) [] []
    ∷ row [] [] (1 ∷ 2 ∷ 2 ∷ []) [] []
    ∷ row [] (2 ∷ []) (1 ∷ 2 ∷ 3 ∷ []) [] []
    ∷ row [] (3 ∷ []) (1 ∷ 2 ∷ []) [] []
    ∷ row [] [] (1 ∷ 2 ∷ []) [] []
    ∷ row [] (2 ∷ []) (1 ∷ []) [] []
    ∷ row [] (1 ∷ []) [] [] []
    ∷ row [] [] [] [] []
    ∷ []

pub play-requires-clause-legal : goal.play-requires-clause-legal
play-requires-clause-legal g c = tested_steps [] edits refl
