-- What a flush takes out and clears, by the times that it found.
use Rattle.std.specs.Prelude.{◌≡◌, ℕ, ◌+◌, Bool, true, false, nat_le, if◌then◌else◌, [], ◌∷◌, Option, Some, None}
use Rattle.et_heap.specs.Objects.{ObjectState, Objects}
use Rattle.et_heap.specs.Remaining.{is_cleared}
use Rattle.et_flush.specs.declared.times.TheConstants.{NOW}
use Rattle.et_flush.specs.declared.ranks.Ranks.{Ranks}
use Rattle.et_flush.specs.Ranks.{HasRank}

-- the object is reached now
abbrev pub is_now : (ℕ → ℕ) → ℕ → Bool
is_now time o = nat_le NOW (time o)

-- what the object refers to weakly has one of the first n ranks
abbrev pub ReferentsWithin : Ranks → ℕ → ObjectState → Type 0
ReferentsWithin ranks n x = (r : ℕ) → x.referent ≡ Some r → HasRank ranks n r

-- HOW MANY VISITS OF OBJECTS THE SWEEP TAKES: one of each that stays, and one more where its weak reference is cleared

abbrev pub visits_of : (ℕ → Bool) → Bool → Option ObjectState → ℕ
visits_of here stays None = 0
visits_of here false (Some x) = 0
visits_of here true (Some x) = 1 + (if is_cleared here x.referent then 1 else 0)

-- .. of the objects from number k on
abbrev pub visits_from : (ℕ → Bool) → ℕ → Objects → ℕ
visits_from here k [] = 0
visits_from here k (x ∷ xs) = visits_of here (here k) x + visits_from here (k + 1) xs
