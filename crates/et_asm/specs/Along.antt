-- What the items of a list give, each by the items before it, itself, and the items behind it.
use Rattle.std.specs.Prelude.{List, [], ◌∷◌, ◌++◌}

unfoldable pub along_from : {X Y : Type 0} → (List X → X → List X → List Y) → List X → List X → List Y
along_from give before [] = []
along_from give before (x ∷ behind) = give before x behind ++ along_from give (before ++ x ∷ []) behind

abbrev pub along_lines : {X Y : Type 0} → (List X → X → List X → List Y) → List X → List Y
along_lines give xs = along_from give [] xs
