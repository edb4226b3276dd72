-- Words two by two.
use Rattle.std.proofs.Common.{◌≡◌, ℕ, zero, suc, ◌+◌, ◌*◌, ◌≤◌, List, [], ◌∷◌, length, arith}
use Rattle.et_listing.specs.Lines.{pairs}

pub pairs_least : (words : List (List ℕ)) → length (pairs words) * 2 ≤ length words
pairs_least [] = omega arith
pairs_least (first ∷ []) = omega arith
pairs_least (first ∷ second ∷ more) = omega (arith, pairs_least more)

pub pairs_most : (words : List (List ℕ)) → length words ≤ length (pairs words) * 2 + 1
pairs_most [] = omega arith
pairs_most (first ∷ []) = omega arith
pairs_most (first ∷ second ∷ more) = omega (arith, pairs_most more)
