-- A place of a list that is shown.
use Rattle.std.proofs.Common.{◌≡◌, ℕ, zero, suc, ◌<◌, List, [], ◌∷◌, length, map, refl, arith}
use Rattle.std.specs.List.{slice_index_or}

pub index_map : {X Y : Type 0} (f : X → Y) (xs : List X) (i : ℕ) (x : X) (y : Y) → i < length xs → f (slice_index_or xs i x) ≡ slice_index_or (map f xs) i y
index_map f [] i x y lt = absurd (omega arith)
index_map f (a ∷ xs) zero x y lt = refl
index_map f (a ∷ xs) (suc i) x y lt = index_map f xs i x y (omega arith)
