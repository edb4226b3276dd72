-- What is kept of the objects of a trace, by number: of each the event that made it and its size, and the time of its death and its size. The contracts of private functions alone speak of it.
use Rattle.std.specs.Prelude.{◌≡◌, ℕ, ◌+◌, ◌-◌, ◌^◌, ◌<◌, ◌≤◌, nat_lt, if◌then◌else◌, List, [], ◌∷◌, ◌++◌, length, take, slice_index_or, slice_set, All}
use Rattle.std.specs.Fmt.{decimal}
use Rattle.std.specs.List.{sum_by, AllPairs}
use Rattle.et_base.specs.declared.line.TraceLine.{TraceLine}
use Rattle.et_base.specs.declared.line.TraceLine.TheVariants.{Alloc, Death}

-- the time of the death of what no D line tells of, later than any
abbrev pub never : ℕ
never = 18446744073709551615

abbrev pub Sizes : Type 0
Sizes = List (ℕ × ℕ)

abbrev pub no_size : ℕ × ℕ
no_size = (never, 0)

abbrev pub with_time : Sizes → ℕ → ℕ → Sizes
with_time died place time = slice_set died place (time, (slice_index_or died place no_size).1)

abbrev pub born_with : Sizes → TraceLine → Sizes
born_with born (Alloc event thread object class size len) = born ++ (event, size) ∷ []
born_with born _ = born

abbrev pub died_with : Sizes → TraceLine → Sizes
died_with died (Alloc event thread object class size len) = died ++ (never, size) ∷ []
died_with died (Death object time) = with_time died (object - 1) time
died_with died _ = died

-- after these lines, the newest first
abbrev pub born_by : List TraceLine → Sizes
born_by [] = []
born_by (line ∷ past) = born_with (born_by past) line

abbrev pub died_by : List TraceLine → Sizes
died_by [] = []
died_by (line ∷ past) = died_with (died_by past) line

-- the bytes of a time below the limit
abbrev pub size_below : ℕ → ℕ × ℕ → ℕ
size_below limit p = if nat_lt p.0 limit then p.1 else 0

abbrev pub sum_below : ℕ → Sizes → ℕ
sum_below limit sizes = sum_by (size_below limit) sizes

-- the first ones, all of a time below the limit, are added up
pub record CountsTo (sizes : Sizes) (at sum limit : ℕ) : Type 0 where
  pub fits : at ≤ length sizes
  pub sum_is : sum ≡ sum_by (λ (p : ℕ × ℕ). p.1) (take at sizes)
  pub passed : (k : ℕ) → k < at → (slice_index_or sizes k no_size).0 < limit

-- the row of an event, by the sizes that are kept
abbrev pub row_by : Sizes → Sizes → ℕ → List ℕ
row_by born died event = decimal event ++ 32 ∷ decimal (sum_below (event + 1) born - sum_below event died) ++ 10 ∷ []

-- what the rows are made from: the sizes fit in 64 bits, the events rise, and at none more dies than was made
pub record GiveRows (born died : Sizes) (events : List ℕ) : Type 0 where
  pub born_fits : sum_by (λ (p : ℕ × ℕ). p.1) born < 2 ^ 64
  pub died_fits : sum_by (λ (p : ℕ × ℕ). p.1) died < 2 ^ 64
  pub low : All (λ event. event ≤ 2 ^ 40) events
  pub rise : AllPairs (λ x y. x < y) events
  pub left : (event : ℕ) → event ≤ 2 ^ 40 → sum_below event died ≤ sum_below (event + 1) born
