-- Options one after another.
use Rattle.std.proofs.Common.{◌≡◌, ℕ, ◌+◌, ◌<◌, List, [], ◌∷◌, length, map, refl, drop, get_or, ap, add-one}
use Rattle.std.proofs.Math.Seq.{drop-cons}
use Rattle.std.specs.Prelude.{bytes_eq, ◌||◌}
use Rattle.std.specs.List.{list_any}
use denote.Ref.{Bor}
use Rattle.et_command.specs.Words.{Given}
use Rattle.et_command.specs.Command.{option_value, are_options}

pub value_next : (name : List ℕ) (xs : List Given) (i : ℕ) (d : Given) → i < length xs → option_value name (drop i xs) ≡ option_value name (get_or xs i d ∷ drop (i + 1) xs)
value_next name xs i d lt = rw add-one (ap (option_value name) (drop-cons xs i d lt))

pub options_next : (names : List (List ℕ)) (xs : List Given) (i : ℕ) (d : Given) → i < length xs → are_options names (drop i xs) ≡ are_options names (get_or xs i d ∷ drop (i + 1) xs)
options_next names xs i d lt = rw add-one (ap (are_options names) (drop-cons xs i d lt))

-- one of some texts, and one of the references to them
pub any_shown : (name : List ℕ) (xs : List (Bor (List ℕ))) → list_any (λ other. bytes_eq other name) (map (λ other. other.now) xs) ≡ list_any (λ other. bytes_eq other.now name) xs
any_shown name [] = refl
any_shown name (x ∷ xs) = ap (λ b. bytes_eq x.now name || b) (any_shown name xs)
