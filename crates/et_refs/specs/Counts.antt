-- How many arrays, with how many slots, arrays of some dimensions are; so many elements are in each dimension, the first one first.
use Rattle.std.specs.Prelude.{ℕ, ◌+◌, ◌*◌, List, [], ◌∷◌, nat_le, if◌then◌else◌}

-- an array, and those in it
abbrev pub array_count : List ℕ → ℕ
array_count [] = 0
array_count (n ∷ ns) = 1 + n * array_count ns

abbrev pub array_slots : List ℕ → ℕ
array_slots [] = 0
array_slots (n ∷ ns) = n + n * array_slots ns

-- a count that goes no further than this
abbrev pub count_limit : ℕ
count_limit = 268435456

abbrev pub capped_count : ℕ → ℕ
capped_count n = if nat_le n count_limit then n else count_limit
