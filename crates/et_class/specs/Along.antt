-- Rules on things that stand one after the other from a place on. The marks of one of them may look at those before it.
use Rattle.std.specs.Prelude.{ℕ, ◌+◌, List, [], ◌∷◌, ◌++◌, length}
use Rattle.et_base.specs.Marks.{Mark}

unfoldable pub along : {X : Type 0} → (X → List ℕ) → (List X → ℕ → X → List Mark) → List X → ℕ → List X → List Mark
along bytes marks before place [] = []
along bytes marks before place (x ∷ xs) = marks before place x ++ along bytes marks (before ++ x ∷ []) (place + length (bytes x)) xs
