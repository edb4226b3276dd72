-- What a flush leaves of a heap. The test says of each object whether it stays.
use Rattle.std.specs.Prelude.{ℕ, ◌+◌, not, Bool, true, false, if◌then◌else◌, [], ◌∷◌, Option, Some, None}
use Rattle.et_heap.specs.Objects.{ObjectState, Objects}

-- a weak reference to what isn't here becomes null
abbrev pub is_cleared : (ℕ → Bool) → Option ℕ → Bool
is_cleared here None = false
is_cleared here (Some o) = not (here o)

abbrev pub kept_referent : (ℕ → Bool) → Option ℕ → Option ℕ
kept_referent here r = if is_cleared here r then None else r

abbrev pub left_place : (ℕ → Bool) → Bool → Option ObjectState → Option ObjectState
left_place here b None = None
left_place here false (Some x) = None
left_place here true (Some x) = Some (record x { referent = kept_referent here x.referent })

-- the objects that aren't here are taken out
abbrev pub remaining : (ℕ → Bool) → ℕ → Objects → Objects
remaining here k [] = []
remaining here k (x ∷ xs) = left_place here (here k) x ∷ remaining here (k + 1) xs
