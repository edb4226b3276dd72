-- What a flush clears. The test says of each object whether it stays.
use Rattle.std.specs.Prelude.{ℕ, ◌+◌, ◌&&◌, Bool, false, if◌then◌else◌, List, [], ◌∷◌, ◌++◌, Option, Some, None}
use Rattle.et_heap.specs.Objects.{ObjectState, Objects}
use Rattle.et_heap.specs.Remaining.{is_cleared}

-- the object stays, and its weak reference becomes null
abbrev pub loses_referent : (ℕ → Bool) → Bool → Option ObjectState → Bool
loses_referent here stays None = false
loses_referent here stays (Some x) = stays && is_cleared here x.referent

-- the references that stay and whose referents become null, in rising order; the first place has the number k
abbrev pub cleared_references : (ℕ → Bool) → ℕ → Objects → List ℕ
cleared_references here k [] = []
cleared_references here k (x ∷ xs) = (if loses_referent here (here k) x then k ∷ [] else []) ++ cleared_references here (k + 1) xs
