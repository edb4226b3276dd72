-- WHAT AN INSTRUCTION NAMES, as it is read of the pool.
use Rattle.std.specs.Prelude.{ℕ, List, Option, option_and_then}
use Rattle.et_class.specs.Entries.{Item}
use Rattle.et_class.specs.Looks.{utf8_at, name_and_type_at, member_at}

-- the descriptor of the member that the entry at an index gives, whatever its owner and its name
abbrev pub descriptor_in : List (Option Item) → ℕ → Option (List ℕ)
descriptor_in pool index =
    option_and_then (λ (x : ℕ × ℕ). option_and_then (λ (y : ℕ × ℕ). utf8_at pool y.1) (name_and_type_at pool x.1)) (member_at pool index)
