-- Steps and ties that are taken one after the other.
use Rattle.std.specs.Prelude.{ℕ, List, [], ◌∷◌, ⊤}
use Rattle.et_graph.specs.Steps.{IsLegalStep}
use Rattle.et_graph.specs.Edit.{Edit, step_of, with_pairs}
use Rattle.et_graph.specs.History.{Turn, graph_after}
use Rattle.et_graph.specs.History.Turn.{Took, Tied}

-- the history once this step is taken
abbrev pub with_step : List Turn → Edit → List Turn
with_step turns e = Took (step_of (graph_after turns) e) ∷ turns

-- the history once these pairs are tied
abbrev pub with_tie : List Turn → List (ℕ × ℕ) → List Turn
with_tie turns tied = Tied (with_pairs (graph_after turns) tied) ∷ turns

-- the history once all of these steps are taken
abbrev pub with_steps : List Turn → List Edit → List Turn
with_steps turns [] = turns
with_steps turns (e ∷ edits) = with_steps (with_step turns e) edits

-- each is legal when it is taken
abbrev pub AreLegalSteps : List Turn → List Edit → Type 0
AreLegalSteps turns [] = ⊤
AreLegalSteps turns (e ∷ edits) =
    IsLegalStep (graph_after turns) (step_of (graph_after turns) e) × AreLegalSteps (with_step turns e) edits
