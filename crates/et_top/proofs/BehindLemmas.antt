-- What is left behind the first one of a list, taken one by one.
use Rattle.std.proofs.Common.{◌≡◌, ◌∙◌, ◌<◌, ◌↔◌, ℕ, List, [], ◌∷◌, ◌++◌, drop, length, Option, Some, None, sym, ap, append-nil, arith}
use Rattle.std.specs.Prelude.{IsSome, option_to_list}

-- it is all but the first, if there is one
pub behind_one : {X : Type 0} (first : Option X) (all rest : List X) (count : ℕ) → count ≡ length all → all ≡ option_to_list first ++ rest → (IsSome first ↔ (0 < count)) → rest ≡ drop 1 all
behind_one (Some x) all rest count long parts some = sym (ap (drop 1) parts)
behind_one None [] rest count long parts some = sym parts
behind_one None (x ∷ xs) rest count long parts some = let there = some.1 (omega (arith, long)) in absurd (cc there)

-- all were taken
pub all_taken : {X : Type 0} (taken left all : List X) (count : ℕ) → count ≡ length left → count ≡ 0 → taken ++ left ≡ all → taken ≡ all
all_taken taken [] all count long none parts = sym (append-nil taken) ∙ parts
all_taken taken (x ∷ left) all count long none parts = absurd (omega (arith, long, none))
