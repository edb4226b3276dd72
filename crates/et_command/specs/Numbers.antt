-- Numbers on the command line.
use Rattle.std.specs.Prelude.{ℕ, ◌+◌, ◌-◌, ◌*◌, ◌==◌, ◌&&◌, nat_le, List, [], ◌∷◌, Bool, Option, Some, None, option_map, map, length, fold, if◌then◌else◌}
use Rattle.std.specs.List.{list_all, slice_split}
use Rattle.et_base.specs.Digits.{is_digit}

-- the number that decimal digits spell; leading zeros change nothing
abbrev pub spelled_number : List ℕ → ℕ
spelled_number digits = fold (λ n digit. n * 10 + (digit - 48)) 0 digits

-- 1 to 20 decimal digits
abbrev pub is_number : List ℕ → Bool
is_number text = nat_le 1 (length text) && nat_le (length text) 20 && list_all is_digit text

-- the number that a text spells, where it is in the range
abbrev pub number_within : ℕ → ℕ → List ℕ → Option ℕ
number_within low high text =
    if is_number text && nat_le low (spelled_number text) && nat_le (spelled_number text) high then Some (spelled_number text) else None

-- each of these, where all are there
abbrev pub each : List (Option ℕ) → Option (List ℕ)
each [] = Some []
each (None ∷ rest) = None
each (Some n ∷ rest) = option_map (λ ns. n ∷ ns) (each rest)

-- 1 to 1,024 numbers of at most 63, with commas between
abbrev pub numbers : List ℕ → Option (List ℕ)
numbers text =
    if nat_le (length (slice_split (λ byte. byte == 44) text)) 1024
    then each (map (number_within 0 63) (slice_split (λ byte. byte == 44) text)) else None
